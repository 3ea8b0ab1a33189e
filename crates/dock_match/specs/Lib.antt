pub mod Docks
pub mod Late
pub mod Pool
pub mod Preemption
pub mod Sides
pub mod Small
