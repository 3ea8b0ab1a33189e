pub mod BlockLemmas
pub mod CellLemmas
pub mod KeptLemmas
pub mod NameLemmas
