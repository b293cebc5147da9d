pub mod Histories
pub mod Grows
pub mod Newest
pub mod Ballots
pub mod Laws
