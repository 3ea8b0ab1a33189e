mod ClassLemmas
