pub mod AdLemmas
pub mod AttributeLemmas
mod DifferLemmas
mod DraftLemmas
pub mod FinishLemmas
mod FrameLemmas
pub mod InlineLemmas
pub mod Measures
pub mod NameLemmas
mod OrderLemmas
pub mod PlacedLemmas
pub mod ReadLemmas
mod SameLemmas
pub mod SpellingLemmas
pub mod TreeLemmas
mod WalkLemmas
mod WordLemmas
