use Rattle.std.proofs.Common.{subst}
use Rattle.ad_candidates.specs.declared.narrowing.Lookup.{Lookup}
use Rattle.ad_candidates.specs.Candidates.{ArePlacesLeft}
use Rattle.ad_candidates.proofs.narrowing.Lookup.list.Goals as goal

pub returns-in-One : goal.returns-in-One
returns-in-One c = λ ads known are. c.list.ensures ads known (subst (λ (lookup : Lookup). ArePlacesLeft ads lookup c.args.places.now) c.in-One.is are)
