pub mod Again
pub mod Answered
pub mod Fronts
pub mod Points
pub mod Results
pub mod Weights
pub mod Whole
