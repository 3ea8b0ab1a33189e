pub mod Summary
pub mod Workload
