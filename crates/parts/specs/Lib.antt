pub mod Parts
pub mod Gives
pub mod Table
pub mod Places
pub mod Ranges
pub mod Renumber
pub mod Reads
