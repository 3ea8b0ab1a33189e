use Rattle.std.proofs.Common.{◌≡◌, ℕ, Bool, true, false, eqb, ◌||◌, arith, ◌∙◌, sym, ap, add-one}
use Rattle.std.proofs.lemmas.Bool.Decides.{nat_tests}
use Rattle.std.specs.List.{list_any}
use Rattle.pool_io.proofs.MemoryLemmas.{list_any-drop}
use Rattle.pool_io.proofs.memory_source.is_listed.Goals as goal

first : (here there all : Bool) → (here || there) ≡ all → here ≡ true → true ≡ all
first true there all is found = is
first false there all is found = absurd (cc)

second : (here there all : Bool) → (here || there) ≡ all → here ≡ false → there ≡ all
second true there all is found = absurd (cc)
second false there all is found = is

pub returns-then-at-number : goal.returns-then-at-number
returns-then-at-number c =
    let here = list_any-drop (λ n. eqb n c.saturating_add-number.result) c.args.failing.now c.loop-i.i c.at.result.now c.at.ensures in
    let equal : eqb c.at.result.now c.saturating_add-number.result ≡ true = grind (arith, nat_tests) in
    first _ _ _ (sym here ∙ c.loop-i.invariant) equal ∙ ap (λ (m : ℕ). list_any (λ n. eqb n m) c.args.failing.now) c.saturating_add-number.ensures

pub loop-i-preserved : goal.loop-i-preserved
loop-i-preserved c =
    let here = list_any-drop (λ n. eqb n c.saturating_add-number.result) c.args.failing.now c.loop-i.i c.at.result.now c.at.ensures in
    let other : eqb c.at.result.now c.saturating_add-number.result ≡ false = grind (arith, nat_tests) in
    rw (add-one c.loop-i.i) (second _ _ _ (sym here ∙ c.loop-i.invariant) other)
