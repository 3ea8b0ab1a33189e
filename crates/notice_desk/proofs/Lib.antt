mod EntryLemmas
mod ListLemmas
mod NameLemmas
mod RetireLemmas
pub mod RowLemmas
