pub mod AdLemmas
pub mod ClaimLemmas
mod ClaimedLemmas
mod DockLemmas
pub mod ExpiryLemmas
pub mod FailingLemmas
mod FoundLemmas
mod GrantedLemmas
pub mod HitLemmas
mod IndexLemmas
pub mod JobLemmas
mod LosersLemmas
pub mod LossLemmas
mod MarketLemmas
pub mod MatchedLemmas
pub mod NameLemmas
mod OneJobLemmas
pub mod PoolLemmas
mod PortLemmas
pub mod QueueLemmas
pub mod SlotLemmas
mod SmallLemmas
mod SpinRowLemmas
pub mod StepLemmas
pub mod WantingLemmas
