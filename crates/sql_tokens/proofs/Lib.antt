pub mod Digits
pub mod EachKind
pub mod NoFault
pub mod Order
pub mod ReadBack
pub mod Steps
