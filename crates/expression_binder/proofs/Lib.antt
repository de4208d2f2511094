pub mod Checked
pub mod Firsts
pub mod Lists
pub mod Places
pub mod Trees
