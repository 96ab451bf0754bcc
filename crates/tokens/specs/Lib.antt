pub mod Table
pub mod Codes
pub mod Kinds
pub mod Spans
pub mod Pieces
