pub mod Numbered
pub mod Sheet
