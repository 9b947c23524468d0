pub mod Laws
pub mod Reading
pub mod Lines
pub mod Longer
