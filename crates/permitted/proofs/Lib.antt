pub mod Marks
pub mod Meets
pub mod Lists
pub mod Table
pub mod Rows
