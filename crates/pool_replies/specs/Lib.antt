pub mod Classes
pub mod Cycles
pub mod Queues
pub mod Reasons
pub mod Refusals
pub mod Replies
