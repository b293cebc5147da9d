pub mod Logs
pub mod Layers
