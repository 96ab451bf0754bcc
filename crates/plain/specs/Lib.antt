pub mod Reply
pub mod Asked
