pub mod Answers
pub mod Counts
pub mod DockedAlike
pub mod Known
pub mod Members
pub mod Scan
pub mod Scenes
pub mod Shortlists
