pub mod Reader
pub mod Steps
pub mod Pending
pub mod Bounds
pub mod Parts
pub mod Whole
pub mod Listed
