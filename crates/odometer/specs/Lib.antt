pub mod Staged
pub mod Plan
