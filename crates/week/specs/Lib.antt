-- What a reader has to believe: the answers, and what they are made of.
pub mod Days
pub mod Week
pub mod Answers
-- What the theorems speak of.
pub mod Order
-- What only proofs and private contracts need.
pub mod Closed
pub mod Checked
