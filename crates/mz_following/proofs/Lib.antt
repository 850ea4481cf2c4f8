pub mod FollowLemmas
pub mod InstanceMaps
pub mod InForce
pub mod Letterless
