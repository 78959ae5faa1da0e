pub mod FromNeeds
pub mod Adds
pub mod Fitting
pub mod Alike
