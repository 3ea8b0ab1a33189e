pub mod AddLemmas
mod CompareLemmas
pub mod ContainLemmas
pub mod DockedLemmas
mod MarkLemmas
pub mod ReachLemmas
mod SetLemmas
mod TwinLemmas
pub mod WorldLemmas
