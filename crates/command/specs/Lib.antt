pub mod Commands
pub mod Verbs
pub mod Sets
pub mod Members
pub mod Places
pub mod Quorums
pub mod Chains
