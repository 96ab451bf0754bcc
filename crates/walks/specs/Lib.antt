pub mod Walks
pub mod Assigned
