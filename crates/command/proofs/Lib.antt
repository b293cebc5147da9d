pub mod Bits
pub mod Lists
pub mod Places
pub mod Count
pub mod Changes
pub mod Removal
