pub mod Stages
pub mod Levels
pub mod Passes
pub mod Counting
pub mod Exact
