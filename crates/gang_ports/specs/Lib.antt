pub mod Choice
pub mod FreePorts
pub mod Gangs
pub mod Ports
pub mod Scenes
pub mod Search
pub mod Small
