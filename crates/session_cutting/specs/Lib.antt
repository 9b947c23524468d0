pub mod Cutting
pub mod Stages
