pub mod Stages
pub mod Below
pub mod Joining
