mod ChainLemmas
mod CompleteLemmas
mod Follows
pub mod GrammarLaws
mod LeafLemmas
mod LevelLemmas
mod MachineLemmas
pub mod MadeLemmas
pub mod MadeWordLemmas
mod NestingLemmas
mod ReadLemmas
mod Readings
mod RuleLemmas
mod SoundLemmas
mod TableLemmas
pub mod UniqueLemmas
mod WordLemmas
