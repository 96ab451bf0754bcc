pub mod Bytes
pub mod Stretches
pub mod Standing
