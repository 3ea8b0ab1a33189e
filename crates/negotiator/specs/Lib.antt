pub mod Budget
pub mod Cycle
pub mod Mapped
pub mod Markets
pub mod Queues
pub mod Scenes
