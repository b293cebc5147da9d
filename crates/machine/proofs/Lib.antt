pub mod Places
pub mod Runs
pub mod Weighing
pub mod Sharing
