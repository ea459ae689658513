pub mod Records
pub mod Rule
