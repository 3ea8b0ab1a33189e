-- The elements of a list value.
use Rattle.ad_value.proofs.PlainLemmas.{elements-plains_of, plains_of-elements}

-- they are the plain values of its list
pub ruleset list_view = (elements-plains_of, plains_of-elements)
