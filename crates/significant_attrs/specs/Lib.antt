pub mod Marking
pub mod Matched
pub mod Names
pub mod Reach
pub mod Shown
pub mod Twins
