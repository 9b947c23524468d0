pub mod Bridge
pub mod Stages
pub mod Answers
