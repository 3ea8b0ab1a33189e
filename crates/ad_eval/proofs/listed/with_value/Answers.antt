use Rattle.std.proofs.Common.{◌≡◌, ◌∷◌, ◌++◌, [], List, true, nat_lt, ap, sym, ◌∙◌, append_assoc}
use Rattle.ad_value.specs.Demands.{list_value}
use Rattle.ad_value.specs.Limits.{weight_limit}
use Rattle.ad_value.specs.Operators.{weight_of}
use Rattle.ad_value.specs.Plain.{Plain, list, plain, plains_of}
use Rattle.ad_eval.proofs.ValueLemmas.{list_value-heavy}
use Rattle.ad_eval.proofs.listed.with_value.Goals as goal

pub returns-then-is_too_heavy : goal.returns-then-is_too_heavy
returns-then-is_too_heavy c more =
    let p = plain c.args.value in
    let ps = c.args.values ++ p ∷ [] in
    let heavy : nat_lt weight_limit (weight_of (list (plains_of ps))) ≡ true =
    ap (λ (qs : List Plain). nat_lt weight_limit (weight_of (list (plains_of qs)))) (sym c.in_ok-push.ensures.ok) ∙ sym c.is_too_heavy.ensures
    ∙ c.if-is_too_heavy.true in
    sym (ap list_value (sym (append_assoc c.args.values (p ∷ []) more)) ∙ list_value-heavy ps more heavy)
