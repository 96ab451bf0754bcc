pub mod Readings
pub mod Machine
pub mod Verdict
