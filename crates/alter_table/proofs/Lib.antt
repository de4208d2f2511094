mod Attaching
mod Columned
mod AttachLocks
mod Placed
mod Scanned
mod LeftOut
mod Refusing
mod Defaults
pub mod Checks
mod LeftPlaces
mod KeptPlaces
mod Guards
mod Marks
mod Pending
mod LaterStages
mod Waits
pub mod KeptChecks
mod SameChecks
