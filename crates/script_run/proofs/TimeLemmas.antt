-- A sink that took nothing took no answer that has a byte.
use Rattle.std.proofs.Common.{◌≡◌, ℕ, ◌-◌, ◌≤◌, false, true, List, [], ◌∷◌, ◌++◌, length, take, drop, Option, None, Some, refl, sym}
use Rattle.std.proofs.Common.{◌∙◌, ap, inl, inr, arith, length-append, length-take}
use Rattle.std.proofs.lemmas.List.{nil_from_length, take-append-drop}
use Rattle.std.specs.Io.KnownBytes.{Appends}
use Rattle.pool_io.specs.Flow.{Supply}
use Rattle.script_run.specs.Effects.{Effects}
use Rattle.script_run.specs.Ends.{AnswersFirst, AreDue, IsWriteFault}
use Rattle.script_run.specs.Rules.{IsLawful, Rules, after, text_of}
use Rattle.script_run.specs.Streams.{before_last}
use Rattle.script_run.proofs.RulesLemmas.{text-append}

some_same : (xs known : List ℕ) → ◌≡◌ {A = Option (List ℕ)} (Some xs) (Some known) → xs ≡ known
some_same xs known same = cc

none_appended : (old new : Option (List ℕ)) (known text : List ℕ) → old ≡ Some known → new ≡ Some known → Appends old new text
    → length text ≡ 0
none_appended None new known text from to appends = absurd (cc)
none_appended (Some xs) None known text from to appends = absurd (cc)
none_appended (Some xs) (Some ys) known text from to appends =
    omega (arith, ap length appends, length-append xs text, ap length (some_same xs known from), ap length (some_same ys known to))

-- of two beginnings of a list the shorter begins the longer
begins : {A : Type 0} (a b front others : List A) → front ++ others ≡ a ++ b → length a ≤ length front → (more : List A) × (front ≡ a ++ more)
begins [] b front others is fits = (front, refl)
begins (x ∷ a) b [] others is fits = absurd (omega arith)
begins {A} (x ∷ a) b (y ∷ front) others is fits =
    let first : y ≡ x = cc in
    let rest : front ++ others ≡ a ++ b = cc in
    let more = begins a b front others rest (omega arith) in
    (more.0, ap (λ (z : A). z ∷ front) first ∙ ap (λ (l : List A). x ∷ l) more.1)

module _ {State Item : Type 0} (rules : Rules State Item) (lawful : IsLawful rules) (start : State) where
  -- the items that had ended before the last read come first among those that are due
  ended_begin : (t : Supply) (bytes : List ℕ) (items : List Item) → AreDue rules.given t bytes items
      → (more : List Item) × (items ≡ rules.given false (before_last t bytes) ++ more)
  ended_begin t bytes items (inl is) =
      let n : ℕ = length bytes - t.latest in
      let later = lawful.more (take n bytes) (drop n bytes) in
      (later.0, is ∙ ap (λ (b : List ℕ). rules.given false b) (sym (take-append-drop n bytes)) ∙ later.1)
  ended_begin t bytes items (inr is) =
      let n : ℕ = length bytes - t.latest in
      let later = lawful.whole (take n bytes) (drop n bytes) in
      (later.0, is.0 ∙ ap (λ (b : List ℕ). rules.given true b) (sym (take-append-drop n bytes)) ∙ later.1)

  pub answers_first : (s t : Supply) (k m : Effects) (fault : IsWriteFault rules start s t k m) (known : List ℕ) → k.sink.taken ≡ Some known
      → m.sink.taken ≡ Some known → AnswersFirst rules start t m fault.bytes fault.front fault.cut
  answers_first s t k m fault known from to =
      let before : List ℕ = text_of rules start fault.front in
      let cut : List ℕ = rules.text (after rules start fault.front) fault.cut in
      let piece : List ℕ = take fault.broke.count cut in
      let nothing = none_appended k.sink.taken m.sink.taken known (before ++ piece) from to fault.broke.taken in
      let both = length-append before piece in
      let ended : List Item = rules.given false (before_last t fault.bytes) in
      let due = ended_begin t fault.bytes (fault.front ++ fault.cut ∷ fault.behind) fault.due in
      let in_front = begins ended due.0 fault.front (fault.cut ∷ fault.behind) due.1 fault.in_time in
      let parts = ap (λ (l : List Item). length (text_of rules start l)) in_front.1 in
      let split = ap length (text-append rules start ended in_front.0) in
      let sum = length-append (text_of rules start ended) (text_of rules (after rules start ended) in_front.0) in
      record {
        first = nil_from_length before (omega (arith, nothing, both));
        alone = omega (arith, fault.broke.others, fault.broke.proper, nothing, both, length-take fault.broke.count cut);
        in_time = nil_from_length (text_of rules start ended) (omega (arith, nothing, both, parts, split, sum));
      }
