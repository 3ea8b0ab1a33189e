use Rattle.std.proofs.Common.{List, IfOk, subst}
use Rattle.ad_tree.specs.Ad.{ad_frames}
use Rattle.ad_tree.specs.declared.request.Port.{Port}
use Rattle.ad_store.specs.Store.{stock_of}
use Rattle.conjunct_plan.specs.Tests.{labels_of}
use Rattle.ad_candidates.specs.Candidates.{AreCandidatesAt}
use Rattle.ad_candidates.proofs.narrowing.candidates.Goals as goal

pub returns-clause-places : goal.returns-clause-places
returns-clause-places c =
    subst (λ (ports : List Port). IfOk c.candidates_at.result
    (AreCandidatesAt (ad_frames c.args.request.now.ad) 0 (labels_of ports) (stock_of c.args.store.now).ads)) c.requires.single
    c.candidates_at.ensures.places
