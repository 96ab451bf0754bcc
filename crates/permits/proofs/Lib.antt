pub mod Walk
pub mod Loops
pub mod Finds
pub mod Reading
pub mod Model
pub mod Grants
