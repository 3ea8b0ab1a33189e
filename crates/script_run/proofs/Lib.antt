mod Cases
pub mod EndLemmas
pub mod ReadingLemmas
pub mod RulesLemmas
mod RunningLemmas
pub mod TimeLemmas
pub mod TookLemmas
pub mod WroteLemmas
