pub mod Laws
pub mod Levels
