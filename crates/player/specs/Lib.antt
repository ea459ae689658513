pub mod Returned
-- What only proofs and private contracts need.
pub mod ClockPlaces
pub mod Handed
