pub mod Stages
pub mod Checks
pub mod Shows
pub mod Entered
pub mod Lengths
pub mod Lists
pub mod SessionBounds
pub mod Within
