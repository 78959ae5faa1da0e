pub mod Cells
pub mod Edits
pub mod Slots
pub mod Puts
pub mod Held
pub mod Asked
