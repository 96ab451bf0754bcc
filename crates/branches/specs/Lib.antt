pub mod Branches
pub mod Compiled
