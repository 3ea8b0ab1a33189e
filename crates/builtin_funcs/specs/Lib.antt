pub mod Aggregates
pub mod Calls
pub mod Functions
pub mod Kinds
pub mod Lists
pub mod Rows
pub mod Texts
