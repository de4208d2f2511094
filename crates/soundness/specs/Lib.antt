pub mod Columns
pub mod Kept
pub mod Laws
pub mod Legal
pub mod Parts
pub mod Shown
pub mod Versions
pub mod Worlds
