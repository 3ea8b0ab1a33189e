pub mod ChangeLemmas
pub mod ClaimLemmas
pub mod FailingLemmas
pub mod HolderLemmas
pub mod ListLemmas
pub mod ListedLemmas
pub mod LoserLemmas
pub mod NoteLemmas
pub mod NumberLemmas
pub mod PassingLemmas
pub mod SmallLemmas
pub mod StoredLemmas
mod PriorityLemmas
