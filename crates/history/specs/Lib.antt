pub mod Book
pub mod Taking
pub mod Sane
pub mod Later
pub mod Theorems
