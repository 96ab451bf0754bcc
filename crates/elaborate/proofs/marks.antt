pub mod Steps
pub mod Walks
pub mod Numbers
pub mod Bound
pub mod Marking
