pub mod KnownLemmas
mod MemoryLemmas
mod WriteLemmas
