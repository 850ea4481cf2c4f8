pub mod Job
pub mod Found
pub mod Difference
pub mod State
pub mod Desk
pub mod Own
pub mod Look
