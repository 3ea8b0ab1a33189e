pub mod CommandLine
pub mod Mails
pub mod Options
pub mod Workloads
