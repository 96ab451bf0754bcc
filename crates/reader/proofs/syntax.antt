pub mod Steps
pub mod Agrees
pub mod Turns
