pub mod Measured
pub mod Decode
pub mod Parts
