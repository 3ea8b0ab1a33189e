mod ConjunctLemmas
pub mod DecidedLemmas
pub mod DockingLemmas
pub mod FindLemmas
pub mod LateLemmas
pub mod MetLemmas
pub mod PreemptionLemmas
pub mod SmallLemmas
mod TestLemmas
