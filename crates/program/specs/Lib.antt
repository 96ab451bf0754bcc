pub mod Output
pub mod Cut
pub mod Text
pub mod Counts
