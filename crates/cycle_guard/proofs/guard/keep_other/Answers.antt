use Rattle.std.proofs.Common.{ℕ, Bool, cond, Box, Option, Some, ap, sym, ◌∙◌}
use Rattle.std.specs.Global.{Global}
use Rattle.std.specs.HashMap.{get}
use Rattle.std.specs.Option.{is_some}
use Rattle.cycle_guard.specs.declared.guard.Others.{Others}
use Rattle.cycle_guard.specs.Sights.{same_pos}
use Rattle.cycle_guard.specs.Shown.{key_of, other_of, same_key}
use Rattle.cycle_guard.proofs.GuardLemmas.{same_key-same_pos}
use Rattle.cycle_guard.proofs.guard.keep_other.Goals as goal

pub returns-in-Some-get_mut : goal.returns-in-Some-get_mut
returns-in-Some-get_mut c = λ q.
    let pos = c.args.pos in
    let kept = Some c.args.kept in
    let o = get same_key c.deref_mut.result.now.kept (key_of q) in
    let there = ap is_some (sym c.in-Some-get_mut.ensures.value) in
    let h = c.get_mut.follows.holds kept in
    (h.3 there).0 (key_of q)
    ∙ ap (λ (k : ℕ × ℕ × ℕ). cond (same_key k (key_of q)) (Some kept) o) c.key_of.ensures
    ∙ ap (λ (t : Bool). cond t (Some kept) o) (same_key-same_pos pos q)
    ∙ ap (λ (others : Others). cond (same_pos pos q) (Some kept) (get same_key others.kept (key_of q))) c.deref_mut.ensures.value
    ∙ ap (λ (others : Option (Box Others Global)). cond (same_pos pos q) (Some kept) (other_of others q)) (sym c.in-Some.is)
