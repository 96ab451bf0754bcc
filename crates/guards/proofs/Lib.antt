pub mod Steps
pub mod Stands
pub mod Lengths
pub mod Counts
pub mod Parts
