pub mod Calls
pub mod World
pub mod Whole
pub mod Forging
pub mod Theorems
