pub mod Joined
pub mod PartSteps
pub mod KindSteps
pub mod GroupSteps
pub mod ClusterSteps
pub mod Unique
