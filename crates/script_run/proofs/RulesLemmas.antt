-- Items one after the other.
use Rattle.std.proofs.Common.{◌≡◌, ℕ, ◌+◌, ◌≤◌, List, [], ◌∷◌, ◌++◌, length, refl, sym, ◌∙◌, ap, arith, append_assoc}
use Rattle.script_run.specs.Rules.{IsLawful, Rules, after, refusals_of, text_of}

module _ {State Item : Type 0} (rules : Rules State Item) where
  pub after-append : (s : State) (a b : List Item) → after rules s (a ++ b) ≡ after rules (after rules s a) b
  after-append s [] b = refl
  after-append s (x ∷ a) b = after-append (rules.next s x) a b

  pub text-append : (s : State) (a b : List Item) → text_of rules s (a ++ b) ≡ text_of rules s a ++ text_of rules (after rules s a) b
  text-append s [] b = refl
  text-append s (x ∷ a) b =
      let behind = rules.next s x in
      ap (λ (t : List ℕ). rules.text s x ++ t) (text-append behind a b)
      ∙ sym (append_assoc (rules.text s x) (text_of rules behind a) (text_of rules (after rules behind a) b))

  pub refusals-append : (s : State) (a b : List Item) → refusals_of rules s (a ++ b) ≡ refusals_of rules s a + refusals_of rules (after rules s a) b
  refusals-append s [] b = omega arith
  refusals-append s (x ∷ a) b = let more = refusals-append (rules.next s x) a b in omega (arith, more)

  -- no more items are refused than are answered
  pub refusals-le : IsLawful rules → (s : State) (items : List Item) → refusals_of rules s items ≤ length items
  refusals-le lawful s [] = omega arith
  refusals-le lawful s (x ∷ items) = omega (arith, lawful.one s x, refusals-le lawful (rules.next s x) items)
