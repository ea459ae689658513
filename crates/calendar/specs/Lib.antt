-- What a reader has to believe: the answers, and what they are made of.
pub mod Range
pub mod Gregorian
pub mod Count
pub mod Answers
-- What only proofs and private contracts need.
pub mod Closed
pub mod Checked
pub mod YearStarts
