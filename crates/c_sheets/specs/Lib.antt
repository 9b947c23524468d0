pub mod Sheets
pub mod Stages
