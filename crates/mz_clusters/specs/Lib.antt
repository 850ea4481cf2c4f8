pub mod Clusters
pub mod Headings
