pub mod Inverse
pub mod Lengths
pub mod Held
pub mod Patching
