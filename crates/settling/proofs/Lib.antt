pub mod Cuts
mod Replaced
pub mod Lines
pub mod Linked
pub mod Grows
mod Few
mod Adds
mod Request
mod Made
mod Pieces
mod Bytes
mod Settle
pub mod Leading
pub mod CutUp
pub mod Conflict
mod Staying
