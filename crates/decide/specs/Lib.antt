pub mod Probe
pub mod Keys
pub mod Cursor
pub mod Chains
pub mod Linked
pub mod Decider
