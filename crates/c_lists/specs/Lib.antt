pub mod Lists
pub mod Profiles
