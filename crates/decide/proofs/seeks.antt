pub mod Steps
pub mod Keys
pub mod Filling
pub mod Places
pub mod Cursors
