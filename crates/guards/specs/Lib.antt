pub mod Uses
pub mod Filled
pub mod Counted
