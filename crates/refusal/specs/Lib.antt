pub mod Numbers
pub mod Outcome
pub mod Printed
pub mod Written
