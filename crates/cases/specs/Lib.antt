pub mod Play
pub mod Row
pub mod Rows
