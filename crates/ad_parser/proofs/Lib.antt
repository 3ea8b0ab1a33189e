pub mod AnswerLemmas
pub mod KeptLemmas
pub mod Outcomes
mod ParseLemmas
pub mod SettledLemmas
mod SmallLemmas
mod WordsLemmas
