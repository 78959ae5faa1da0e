pub mod Held
pub mod Added
pub mod Gathered
pub mod Listing
