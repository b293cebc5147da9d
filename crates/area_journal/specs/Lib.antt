pub mod Layout
pub mod Reading
pub mod Opening
pub mod Exactness
pub mod Writing
pub mod Journals
pub mod Within
