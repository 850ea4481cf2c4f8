pub mod ClusterLemmas
pub mod HeadingLemmas
