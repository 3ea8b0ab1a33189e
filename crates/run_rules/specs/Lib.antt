pub mod Events
pub mod PoolRules
pub mod WireRules
