pub mod Answers
pub mod Faults
pub mod Limits
pub mod OneAnswer
pub mod Outcomes
pub mod Taking
