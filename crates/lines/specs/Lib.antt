pub mod Numbers
pub mod Puts
pub mod Lines
pub mod Adding
