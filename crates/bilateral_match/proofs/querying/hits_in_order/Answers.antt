use Rattle.std.proofs.Common.{◌<◌, All, List, ap, length, map, subst, sym, ◌∙◌}
use Rattle.std.proofs.lemmas.List.Sorted.{All-permutation}
use Rattle.ad_store.specs.Store.{stock_of}
use Rattle.bilateral_match.specs.declared.hit.Match.{Match}
use Rattle.bilateral_match.specs.Answers.{hit_of}
use Rattle.bilateral_match.proofs.querying.hits_in_order.Goals as goal

pub hits_of-requires : goal.hits_of-requires
hits_of-requires c =
    let slots = (stock_of c.args.store.now).slots in
    let moved = All-permutation (λ (m : Match). m.place < length slots) c.args.found.items c.arrange.new.found.items c.in_ok-arrange.ensures.all c.requires in
    subst (λ (ms : List Match). All (λ (m : Match). m.place < length slots) ms) (sym c.deref.ensures.value) moved

pub returns : goal.returns
returns c = (
  c.arrange.new.found.items,
  c.in_ok-arrange.ensures.all,
  c.in_ok-arrange.ensures.ordered,
  c.in_ok-hits_of.ensures ∙ ap (map (hit_of (stock_of c.args.store.now).slots)) c.deref.ensures.value,
)
