pub mod Index
pub mod Lexis
pub mod Steps
pub mod Mend
