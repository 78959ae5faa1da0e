pub mod Order
pub mod Table
pub mod Good
pub mod Names
pub mod Fits
pub mod Theorems
