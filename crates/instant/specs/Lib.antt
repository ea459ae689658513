-- What a reader has to believe: the answers, and what they are made of.
pub mod Units
pub mod Instant
pub mod Answers
-- What the index's theorems say, in words of their own.
pub mod Order
-- What only proofs and private contracts need.
pub mod Checked
