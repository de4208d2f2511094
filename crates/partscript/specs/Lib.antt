pub mod Adapters
pub mod Status
