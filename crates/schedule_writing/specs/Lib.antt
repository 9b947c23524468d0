pub mod Writing
pub mod Stages
