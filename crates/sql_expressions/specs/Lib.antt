pub mod Grammar
pub mod Levels
pub mod Limits
pub mod Lists
pub mod Parsed
pub mod Views
pub mod Words
