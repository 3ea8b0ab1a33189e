pub mod DigestLemmas
pub mod FoldingLemmas
pub mod GroupLemmas
pub mod LaneLemmas
pub mod LineLemmas
pub mod NumberLemmas
pub mod ReturnLemmas
pub mod WordLemmas
