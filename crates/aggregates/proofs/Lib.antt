pub mod Steps
pub mod Faithful
pub mod Taking
pub mod Remembers
