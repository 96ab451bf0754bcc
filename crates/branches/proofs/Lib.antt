pub mod Running
pub mod Sides
pub mod Operands
pub mod Writing
pub mod Compiling
pub mod Joining
