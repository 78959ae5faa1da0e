pub mod Walk
pub mod Waiting
