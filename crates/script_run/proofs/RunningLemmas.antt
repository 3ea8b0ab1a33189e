-- The items that wait, one by one.
use Rattle.std.proofs.Common.{◌≡◌, ℕ, ◌+◌, ◌≤◌, ◌<◌, ◌^◌, List, [], ◌∷◌, ◌++◌, length, refl, sym, ◌∙◌, ap, subst}
use Rattle.std.proofs.Common.{arith, append_assoc}
use Rattle.script_run.specs.Answering.{Stopped, Took, TookOne}
use Rattle.script_run.specs.Effects.{Effects}
use Rattle.script_run.specs.Rules.{IsLawful, Rules}
use Rattle.script_run.specs.declared.run_end.RunEnd.{RunEnd}
use Rattle.script_run.proofs.RulesLemmas.{refusals-le}
use Rattle.script_run.proofs.TookLemmas.{Stopped-behind, Took-append, Took-from, Took-nil}

-- the first of all items were answered, and the others wait
pub record Running {State Item : Type 0} (rules : Rules State Item) (s t : State) (k m : Effects) (all waiting : List Item) (before refused : ℕ) : Type
    0 where
  pub ran : List Item
  pub split : all ≡ ran ++ waiting
  pub took : Took rules s t k m ran before refused
  pub room : refused + length waiting < 2 ^ 64

module _ {State Item : Type 0} (rules : Rules State Item) (lawful : IsLawful rules) where
  pub Running-start : (s : State) (k : Effects) (all : List Item) (refused : ℕ) → refused + length all < 2 ^ 64
      → Running rules s s k k all all refused refused
  Running-start s k all refused room = record { ran = []; split = refl; took = Took-nil rules lawful s k refused; room = room }

  -- an answer that was taken is one refusal at most
  pub took-one-le : (old new : List Item) (s t : State) (k m : Effects) (count : ℕ) → TookOne rules old new s t k m count → count ≤ 1
  took-one-le old new s t k m count one = omega (arith, one.took.counted, refusals-le rules lawful s (one.item ∷ []))

  pub Running-item : (s t u : State) (k m n : Effects) (all waiting rest : List Item) (before refused count : ℕ)
      → Running rules s t k m all waiting before refused → TookOne rules waiting rest t u m n count
      → Running rules s u k n all rest before (refused + count)
  Running-item s t u k m n all waiting rest before refused count running one = record {
    ran = running.ran ++ (one.item ∷ []);
    split = running.split ∙ ap (λ (l : List Item). running.ran ++ l) one.waiting ∙ sym (append_assoc running.ran (one.item ∷ []) rest);
    took = Took-append rules lawful s t u k m n running.ran (one.item ∷ []) before refused (refused + count) running.took
        (Took-from rules lawful t u m n (one.item ∷ []) refused count one.took);
    room = omega (arith, running.room, ap length one.waiting, took-one-le waiting rest t u m n count one);
  }

  pub Running-stopped : (s t : State) (k m n : Effects) (all waiting : List Item) (before refused : ℕ) (end : RunEnd)
      → Running rules s t k m all waiting before refused → Stopped rules t m n waiting end → Stopped rules s k n all end
  Running-stopped s t k m n all waiting before refused end running stopped =
      subst (λ (l : List Item). Stopped rules s k n l end) (sym running.split)
      (Stopped-behind rules lawful s t k m n running.ran waiting before refused end running.took stopped)
