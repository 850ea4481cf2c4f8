pub mod OneCluster
pub mod UsableClusters
