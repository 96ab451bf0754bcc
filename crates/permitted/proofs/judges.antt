pub mod Steps
pub mod Terms
pub mod Conditions
pub mod Shorts
