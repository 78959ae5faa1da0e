pub mod State
pub mod Answering
pub mod Performing
