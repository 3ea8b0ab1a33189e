pub mod Look
pub mod Shown
pub mod World
