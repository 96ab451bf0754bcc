pub mod Turns
pub mod Tests
pub mod Puts
pub mod Turn
pub mod Ranges
