pub mod Candidates
pub mod Counts
pub mod KnownTests
pub mod Rows
