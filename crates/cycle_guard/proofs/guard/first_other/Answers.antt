use Rattle.std.proofs.Common.{ℕ, Bool, cond, List, Option, Some, None, ap, ◌∙◌}
use Rattle.std.specs.HashMap.{get}
use Rattle.std.specs.Map.{lookup}
use Rattle.cycle_guard.specs.declared.guard.Kept.{Kept}
use Rattle.cycle_guard.specs.declared.guard.Others.{Others}
use Rattle.cycle_guard.specs.Sights.{same_pos}
use Rattle.cycle_guard.specs.Shown.{key_of, same_key}
use Rattle.cycle_guard.proofs.GuardLemmas.{same_key-same_pos}
use Rattle.cycle_guard.proofs.guard.first_other.Goals as goal

pub returns : goal.returns
returns c = λ q.
    let pos = c.args.pos in
    let o = get same_key c.new-kept.result (key_of q) in
    ap (λ (others : Others). get same_key others.kept (key_of q)) c.in_ok-new.ensures.ok
    ∙ c.in_ok-insert.ensures.updates.0 (key_of q)
    ∙ ap (λ (k : ℕ × ℕ × ℕ). cond (same_key k (key_of q)) (Some None) o) c.key_of.ensures
    ∙ ap (λ (t : Bool). cond t (Some None) o) (same_key-same_pos pos q)
    ∙ ap (λ (es : List ((ℕ × ℕ × ℕ) × Option Kept)). cond (same_pos pos q) (Some None) (lookup (λ k. same_key (key_of q) k) es)) c.new-kept.ensures.empty
