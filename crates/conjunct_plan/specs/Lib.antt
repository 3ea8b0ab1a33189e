pub mod Decided
pub mod Planned
pub mod Seen
pub mod Tests
