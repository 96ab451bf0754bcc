pub mod Steps
pub mod Reader
pub mod Marks
pub mod Sized
pub mod Decoding
