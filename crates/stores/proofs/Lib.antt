pub mod Calls
pub mod Commands
pub mod Events
pub mod Goodness
pub mod Housed
mod Locked
pub mod Meanwhile
pub mod Standing
