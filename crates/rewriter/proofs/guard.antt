pub mod Index
pub mod Copies
