pub mod OnePerformed
pub mod OneSkeleton
