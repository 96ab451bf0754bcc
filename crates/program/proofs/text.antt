pub mod Laws
pub mod Sign
pub mod Tables
pub mod Lengths
pub mod Examples
