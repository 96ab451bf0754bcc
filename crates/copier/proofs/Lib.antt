pub mod Sets
pub mod Encoded
pub mod Turns
pub mod Unwritten
