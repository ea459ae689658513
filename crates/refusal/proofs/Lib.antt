pub mod Bounds
pub mod Outcomes
