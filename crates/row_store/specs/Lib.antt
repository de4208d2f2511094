pub mod Dead
pub mod Judged
pub mod Kept
pub mod Limits
pub mod Refused
pub mod Slots
pub mod Stands
pub mod Told
