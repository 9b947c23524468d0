pub mod Inspecting
pub mod Stages
