pub mod Flow
pub mod Memory
