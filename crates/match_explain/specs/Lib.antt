pub mod Counted
pub mod Why
