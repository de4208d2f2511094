pub mod Events
pub mod Good
pub mod Laws
pub mod LockLaws
pub mod Numbers
pub mod Stand
