pub mod Stages
pub mod Filling
