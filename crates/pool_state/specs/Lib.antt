pub mod Apart
pub mod Changes
pub mod Heard
pub mod Marked
pub mod Notices
pub mod Pool
pub mod Posting
pub mod Step
