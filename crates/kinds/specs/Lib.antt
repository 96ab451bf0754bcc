pub mod Tables
pub mod Record
pub mod Places
