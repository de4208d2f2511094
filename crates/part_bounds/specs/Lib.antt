pub mod Laws
pub mod Leads
pub mod Listings
pub mod Remainders
pub mod Sorted
pub mod Stored
