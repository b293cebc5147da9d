pub mod Numbers
pub mod Areas
pub mod Parts
