pub mod Ends
pub mod Cases
