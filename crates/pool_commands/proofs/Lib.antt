mod AdLemmas
mod ClassLemmas
mod ExplainLemmas
mod GangLemmas
mod HitLemmas
pub mod JobLemmas
mod NamedGangLemmas
mod RowLemmas
mod SmallLemmas
mod StatusLemmas
mod StepLemmas
mod SubmitLemmas
