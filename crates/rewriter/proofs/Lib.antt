pub mod Runs
pub mod Steps
pub mod Sequences
pub mod Agrees
