pub mod Opening
pub mod Cutting
pub mod Showing
pub mod Encoded
