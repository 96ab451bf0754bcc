pub mod Copied
pub mod Guard
