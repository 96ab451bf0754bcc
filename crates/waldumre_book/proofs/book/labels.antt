pub mod Rows
pub mod Range
