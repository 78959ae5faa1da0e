mod Adds
pub mod Decimal
pub mod Digits
mod NoMeaning
pub mod OneMeaning
mod Pairs
pub mod Words
