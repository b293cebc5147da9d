pub mod Windows
pub mod Meaning
pub mod Laws
pub mod Bounding
