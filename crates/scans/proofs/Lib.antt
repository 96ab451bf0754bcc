pub mod Walk
pub mod Silent
pub mod Whole
pub mod Lists
