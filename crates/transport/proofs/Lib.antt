pub mod OneStep
pub mod Answered
pub mod Laws
