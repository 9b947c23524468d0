pub mod Checks
pub mod Levels
pub mod Stages
pub mod Supported
