pub mod Chains
mod Counted
pub mod Dropping
pub mod Ends
mod Finding
pub mod Free
pub mod Fresh
pub mod Led
pub mod Left
mod Locking
mod LocksBelow
pub mod Placing
pub mod Taken
pub mod ToDrop
