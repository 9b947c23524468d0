pub mod Profile
pub mod Opening
pub mod Showing
pub mod Stages
