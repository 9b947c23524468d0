pub mod Sessions
pub mod Stages
