pub mod NumberBytes
pub mod Trailer
pub mod Fitting
pub mod LineTexts
pub mod RoundTrip
pub mod Laws
