pub mod Words
pub mod Filled
pub mod Writing
pub mod Decimal
