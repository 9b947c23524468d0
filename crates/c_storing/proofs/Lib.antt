pub mod Laws
pub mod Days
pub mod Patch
