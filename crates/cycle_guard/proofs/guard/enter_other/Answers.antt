use Rattle.std.proofs.Common.{ℕ, Bool, cond, Box, Option, Some, None, ap, sym, ◌∙◌}
use Rattle.std.specs.Global.{Global}
use Rattle.std.specs.HashMap.{get}
use Rattle.cycle_guard.specs.declared.guard.Others.{Others}
use Rattle.cycle_guard.specs.Sights.{same_pos}
use Rattle.cycle_guard.specs.Shown.{key_of, other_of, same_key}
use Rattle.cycle_guard.proofs.GuardLemmas.{same_key-same_pos}
use Rattle.cycle_guard.proofs.guard.enter_other.Goals as goal

pub returns-in_ok-insert-in-Some-clause-ok : goal.returns-in_ok-insert-in-Some-clause-ok
returns-in_ok-insert-in-Some-clause-ok c = λ q.
    let pos = c.args.pos in
    let o = get same_key c.deref_mut.result.now.kept (key_of q) in
    c.in_ok-insert-in-Some.ensures.updates.0 (key_of q)
    ∙ ap (λ (k : ℕ × ℕ × ℕ). cond (same_key k (key_of q)) (Some None) o) c.key_of.ensures
    ∙ ap (λ (t : Bool). cond t (Some None) o) (same_key-same_pos pos q)
    ∙ ap (λ (others : Others). cond (same_pos pos q) (Some None) (get same_key others.kept (key_of q))) c.deref_mut.ensures.value
    ∙ ap (λ (others : Option (Box Others Global)). cond (same_pos pos q) (Some None) (other_of others q)) (sym c.in-Some.is)
