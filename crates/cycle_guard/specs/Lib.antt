pub mod Shown
pub mod Sights
