pub mod AskText
pub mod Outcome
