pub mod Pieces
pub mod Numbers
pub mod Answers
pub mod Reading
pub mod Writing
pub mod Law
