pub mod Casts
pub mod Every
pub mod Loops
pub mod Laws
pub mod Offset
pub mod Order
