pub mod Strict
pub mod Relation
pub mod Function
pub mod Bytes
pub mod Sheet
pub mod Theorems
