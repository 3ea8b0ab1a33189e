mod PairLemmas
mod SummingLemmas
mod TimeLemmas
