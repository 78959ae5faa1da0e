pub mod PutsOf
pub mod Parts
pub mod Named
pub mod Lines
pub mod Puts
pub mod Needs
pub mod Refusing
pub mod Asked
