pub mod Masks
pub mod Adds
