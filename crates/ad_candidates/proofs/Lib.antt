mod BoundLemmas
mod KnownPlaceLemmas
mod KnownTestsLemmas
mod NarrowLemmas
pub mod PlaceLemmas
pub mod RowLemmas
