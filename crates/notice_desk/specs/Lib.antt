pub mod Boxes
pub mod Desk
pub mod Faults
pub mod Mail
pub mod Names
pub mod Rows
pub mod Sight
