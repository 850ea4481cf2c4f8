pub mod Schemes
pub mod Given
