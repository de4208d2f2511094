pub mod FullRows
pub mod Laws
pub mod Places
pub mod Placing
pub mod Storing
pub mod Succession
pub mod Targets
pub mod Ways
