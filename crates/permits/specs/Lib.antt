pub mod Entries
pub mod Applying
pub mod Masks
pub mod Granted
