pub mod Next
pub mod Sane
pub mod Settling
pub mod Trying
