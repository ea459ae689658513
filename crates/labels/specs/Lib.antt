-- What a reader has to believe: the answers, and what they are made of.
pub mod Digits
pub mod Clock
pub mod Years
pub mod Rfc3339
pub mod IsoWeek
pub mod Webvtt
pub mod Timestamps
pub mod CueLines
pub mod Cues
-- What the theorems speak of.
pub mod Capitals
pub mod Labelled
-- What only proofs and private contracts need, but for the type of `timing_of`.
pub mod Words
pub mod Parts
pub mod Timings
pub mod Stamps
pub mod PositionPieces
