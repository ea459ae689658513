-- What a reader has to believe: the clock and its step, the answers, and what the theorems speak of.
pub mod Wraps
pub mod Answers
pub mod Runs
-- What only proofs and private contracts need.
pub mod Batches
