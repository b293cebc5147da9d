pub mod Rules
pub mod Denials
pub mod Pools
pub mod Ledgers
