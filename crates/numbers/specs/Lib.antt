pub mod Numbers
pub mod Memo
pub mod Recalled
