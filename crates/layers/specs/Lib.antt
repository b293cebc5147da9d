pub mod Freezing
pub mod Once
pub mod Passing
pub mod Stacks
