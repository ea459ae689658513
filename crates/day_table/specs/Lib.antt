-- What a reader has to believe.
pub mod Year
-- What only proofs and private contracts need.
pub mod Table
pub mod Closed
