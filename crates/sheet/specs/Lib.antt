pub mod Sheet
pub mod Answers
pub mod Report
pub mod Opened
