pub mod Places
pub mod Values
pub mod Words
pub mod Codes
pub mod Leading
pub mod Reached
pub mod Cutting
pub mod Filled
