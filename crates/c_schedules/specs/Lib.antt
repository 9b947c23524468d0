pub mod Schedules
pub mod Stages
