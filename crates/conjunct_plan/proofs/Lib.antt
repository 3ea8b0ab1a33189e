mod ChainLemmas
mod EnclosedLemmas
mod PlaceLemmas
mod PlannedLemmas
mod TestLemmas
mod VerdictLemmas
