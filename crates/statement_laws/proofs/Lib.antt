pub mod Custom
pub mod Fresh
pub mod Whole
