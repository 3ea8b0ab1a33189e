pub mod Answers
pub mod Held
pub mod Stock
pub mod Store
pub mod Holdings
