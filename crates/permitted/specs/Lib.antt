pub mod Given
pub mod Marked
pub mod Meets
