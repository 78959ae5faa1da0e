pub mod Messages
pub mod Codec
pub mod ChangeRead
pub mod LettersRead
pub mod Halving
pub mod Places
pub mod NamesRead
