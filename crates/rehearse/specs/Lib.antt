pub mod Lines
pub mod Seats
pub mod Playing
