mod ActiveLemmas
pub mod AlikeLemmas
mod BudgetLemmas
pub mod CycleLemmas
mod FreeLemmas
pub mod GangLemmas
mod HeadLemmas
pub mod JobLemmas
mod KeptLemmas
mod QueueLemmas
mod ReadyLemmas
mod ShiftLemmas
mod SearchLemmas
mod SmallLemmas
mod SpinLoopLemmas
pub mod StoredLemmas
mod SumLemmas
mod TurnLoopLemmas
mod UserLemmas
