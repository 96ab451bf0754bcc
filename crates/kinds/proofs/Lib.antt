pub mod Entries
pub mod Parts
pub mod Signed
pub mod Records
pub mod Heads
