pub mod Customers
pub mod Facts
pub mod Lines
pub mod Replies
pub mod Resources
pub mod Wires
