pub mod IdentityLemmas
pub mod LogicLemmas
pub mod OperatorLemmas
pub mod PlainLemmas
pub mod RemainderLemmas
pub mod WeightLemmas
