pub mod Joined
pub mod Bound
