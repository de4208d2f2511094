pub mod Bytes
pub mod Changes
pub mod DeadVersions
pub mod Held
pub mod Judging
pub mod Listing
pub mod Seen
pub mod Shown
