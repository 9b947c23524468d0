pub mod Layout
pub mod Storing
