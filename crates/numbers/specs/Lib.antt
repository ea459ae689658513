pub mod Floor
pub mod Range
