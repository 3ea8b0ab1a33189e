mod ChainLemmas
mod CountLemmas
mod ElementLemmas
mod EnterLemmas
pub mod KeptLemmas
mod LightLemmas
mod MeasureLemmas
mod MoreLemmas
mod NodeLemmas
mod PartLemmas
mod ReferenceLemmas
mod SceneLemmas
mod ShapeLemmas
mod TopLemmas
mod ValueLemmas
