pub mod Round
pub mod View
pub mod Pass
