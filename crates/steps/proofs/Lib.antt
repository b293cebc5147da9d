pub mod ChainWindow
pub mod Running
pub mod Composing
pub mod Looping
pub mod Backing
