pub mod Bound
pub mod Conjuncts
pub mod Lists
pub mod Pushed
