mod CustomerLemmas
mod ListLemmas
mod ResourceLemmas
mod StepLemmas
mod WaitingLemmas
mod WireLemmas
