pub mod Memo
pub mod Answers
pub mod Tables
