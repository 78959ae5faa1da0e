pub mod Codec
pub mod Replaying
pub mod Opening
pub mod Fronts
pub mod Coming
pub mod Filing
pub mod Always
pub mod Arising
