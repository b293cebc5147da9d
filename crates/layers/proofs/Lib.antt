pub mod Still
pub mod Memory
pub mod Repeats
pub mod Again
pub mod Through
