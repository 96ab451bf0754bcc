pub mod Answers
pub mod Reach
