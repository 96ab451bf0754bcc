pub mod Laws
pub mod Answers
pub mod Names
pub mod Lookup
