pub mod Clusters
pub mod Pools
pub mod Scenes
