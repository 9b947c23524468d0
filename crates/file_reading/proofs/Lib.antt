pub mod Stages
pub mod Laws
