pub mod Decimal
pub mod Words
-- What the calls of this crate put, and what only proofs and private contracts need.
pub mod Filled
