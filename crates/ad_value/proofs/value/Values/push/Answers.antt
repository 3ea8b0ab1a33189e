use Rattle.std.proofs.Common.{◌≡◌, ◌++◌, ◌∷◌, [], ◌∙◌, ap, arith, map}
use Rattle.std.proofs.lemmas.List.{map-append}
use Rattle.ad_value.specs.Plain.{plain}
use Rattle.ad_value.proofs.WeightLemmas.{weights_of-then}
use Rattle.ad_value.proofs.value.Values.push.Goals as goal

pub invariant_of-self-2 : goal.invariant_of-self-2
invariant_of-self-2 c =
    let items = c.self.inside.items.items in
    let more : map plain c.push.new.self.items ≡ map plain items ++ plain c.args.item ∷ [] =
    ap (map plain) c.in_ok-push.ensures.items ∙ map-append plain items (c.args.item ∷ []) in
    rw (more, weights_of-then (map plain items) (plain c.args.item))
    (omega (arith, c.saturating_add-self-inside.ensures, c.weight-weight.ensures, c.self.invariant))
