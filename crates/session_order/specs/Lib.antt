pub mod Order
pub mod Chains
