pub mod Compared
pub mod Folded
pub mod Laws
pub mod Links
