pub mod ClusterLemmas
pub mod SmallLemmas
