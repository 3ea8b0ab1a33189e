mod AlikeLemmas
mod CandidateLemmas
mod CountLemmas
mod DockLemmas
mod EmptyLemmas
mod FreePortLemmas
pub mod LawLemmas
pub mod ListLemmas
mod NearLemmas
mod OnceLemmas
mod OpenLemmas
mod OrderLemmas
pub mod PoolLemmas
mod PortLemmas
mod ReadingLemmas
mod ReferenceLemmas
pub mod SameLemmas
mod SearchLemmas
mod SideLemmas
mod SmallLemmas
mod SpentLemmas
mod TurnLemmas
mod WeighLemmas
mod WholeLemmas
