pub mod Lists
pub mod Results
pub mod Tasks
pub mod Pieces
pub mod Runs
pub mod Weights
pub mod Comes
mod Counting
pub mod Ends
pub mod Keeping
