mod CommandLemmas
mod ExpiryLemmas
pub mod HeardLemmas
mod LossLemmas
pub mod PostingLemmas
mod StepLemmas
