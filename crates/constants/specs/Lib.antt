-- What a reader has to believe: the answers, and what they are made of.
pub mod Difference
pub mod Least
pub mod Limits
pub mod Answers
-- What only proofs and private contracts need.
pub mod Trial
pub mod Stairs
pub mod Residues
pub mod Sides
