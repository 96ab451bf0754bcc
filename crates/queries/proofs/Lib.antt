pub mod Prepared
pub mod Numbers
pub mod Steps
pub mod Targeting
pub mod Remainder
pub mod Telling
