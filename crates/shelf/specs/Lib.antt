pub mod Together
pub mod Sane
pub mod Roomy
pub mod Relating
pub mod Admitting
pub mod TakingBack
pub mod Asking
