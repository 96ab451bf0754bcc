pub mod Table
pub mod Loops
pub mod Assigned
