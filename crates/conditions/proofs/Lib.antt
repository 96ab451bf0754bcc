pub mod Records
pub mod Parts
pub mod Steps
pub mod Found
pub mod Past
