pub mod Layout
pub mod Reading
pub mod Readers
pub mod Writing
pub mod Lists
