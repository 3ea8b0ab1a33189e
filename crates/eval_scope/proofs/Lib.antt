pub mod LookLemmas
mod WorldLemmas
