pub mod Taken
pub mod Parts
pub mod ReadAgain
pub mod WrittenBack
pub mod RoundTrip
