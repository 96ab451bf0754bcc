pub mod Reading
pub mod Parts
pub mod Outcomes
pub mod Cut
