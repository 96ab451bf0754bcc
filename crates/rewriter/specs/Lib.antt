pub mod Rewritten
pub mod Parts
pub mod Applying
