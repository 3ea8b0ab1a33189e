pub mod EventLemmas
pub mod PoolLemmas
pub mod WireLemmas
