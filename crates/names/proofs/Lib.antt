pub mod Same
pub mod Words
pub mod Walk
pub mod Finds
pub mod Reading
pub mod Checked
pub mod Callers
pub mod Once
