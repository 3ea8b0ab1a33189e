-- What follows from how a run ended.
use Rattle.std.proofs.Common.{◌≡◌, ◌≢◌, ◌↔◌, ℕ, ◌+◌, ◌-◌, ◌^◌, ◌<◌, ◌≤◌, true, List, [], ◌∷◌, ◌++◌, length}
use Rattle.std.proofs.Common.{Option, None, Some, Result, Err, IfSome, refl, sym, ◌∙◌, ap, inl, inr, arith, length-append, append_assoc}
use Rattle.std.proofs.lemmas.List.{append-nil}
use Rattle.std.specs.Io.KnownBytes.{Consumes}
use Rattle.pool_io.specs.Flow.{Rose, Supply}
use Rattle.script_run.specs.Effects.{Effects}
use Rattle.script_run.specs.Ends.{AreDue, Ends, IsDoneOrOutOfMemory, IsWriteFault}
use Rattle.script_run.specs.Limits.{input_limit}
use Rattle.script_run.specs.Rules.{IsLawful, Rules, after, text_of}
use Rattle.script_run.specs.declared.run_end.RunEnd.{RunEnd}
use Rattle.script_run.specs.declared.run_end.RunEnd.TheVariants.{Done, BadWords, ReadFault, WriteFault, TooLong, OutOfMemory}
use Rattle.script_run.proofs.RulesLemmas.{text-append}

if_some : (o : Option (List ℕ)) (P Q : List ℕ → Type 0) → ((x : List ℕ) → P x → Q x) → IfSome o P → IfSome o Q
if_some None P Q weaker p = tt
if_some (Some x) P Q weaker p = weaker x p

always : (o : Option (List ℕ)) (Q : List ℕ → Type 0) → ((x : List ℕ) → Q x) → IfSome o Q
always None Q q = tt
always (Some x) Q q = q x

module _ {State Item : Type 0} (rules : Rules State Item) (lawful : IsLawful rules) (start : State) where
  -- the items that are due come first among those of the whole input
  due_first : (t : Supply) (bytes more : List ℕ) (items : List Item) → t.left ≡ Some more → AreDue rules.given t bytes items
      → (others : List Item) × (rules.given true (bytes ++ more) ≡ items ++ others)
  due_first t bytes more items left (inl is) =
      let first = lawful.whole bytes more in
      (first.0, first.1 ∙ ap (λ (l : List Item). l ++ first.0) (sym is))
  due_first t bytes more items left (inr is) =
      let none : more ≡ [] = rw left at is.1 in (
        [],
        ap (λ (l : List ℕ). rules.given true (bytes ++ l)) none ∙ ap (λ (l : List ℕ). rules.given true l) (append-nil bytes) ∙ sym is.0
            ∙ sym (append-nil items),
      )

  -- the answers to some items and the next are no longer than those to all
  text-length : (front others : List Item) (cut : Item)
      → length (text_of rules start front) + length (rules.text (after rules start front) cut) ≤ length (text_of rules start (front ++ cut ∷ others))
  text-length front others cut =
      let at : State = after rules start front in
      let text = ap length (text-append rules start front (cut ∷ others)) in
      let here = length-append (text_of rules start front) (text_of rules at (cut ∷ others)) in
      let next = length-append (rules.text at cut) (text_of rules (rules.next at cut) others) in
      omega (arith, text, here, next)

  -- what a failed sink was sure of is less than the text of all answers
  unsure_left : (left right : Option (List ℕ)) (s t : Supply) (k m : Effects) → s.left ≡ left → t.left ≡ right
      → (fault : IsWriteFault rules start s t k m) → Consumes left right fault.bytes
      → IfSome left (λ bytes. length (text_of rules start (rules.given true bytes)) ≤ k.sink.sure → ⊥)
  unsure_left None right s t k m from to fault consumed = tt
  unsure_left (Some all) None s t k m from to fault consumed = absurd consumed
  unsure_left (Some all) (Some more) s t k m from to fault consumed = λ sure.
      let due = due_first t fault.bytes more (fault.front ++ fault.cut ∷ fault.behind) to fault.due in
      let items : rules.given true all ≡ fault.front ++ (fault.cut ∷ (fault.behind ++ due.0)) =
      ap (λ (l : List ℕ). rules.given true l) consumed ∙ due.1 ∙ append_assoc fault.front (fault.cut ∷ fault.behind) due.0 in
      let long = ap (λ (l : List Item). length (text_of rules start l)) items in
      omega (arith, sure, fault.broke.unsure, long, text-length fault.front (fault.behind ++ due.0) fault.cut)

  -- a run over a sink that was sure of all answers doesn't end with its fault
  pub Ends-sure : (s t : Supply) (k m : Effects) (end : RunEnd) → Ends rules start s t k m end
      → IfSome s.left (λ bytes. length (text_of rules start (rules.given true bytes)) ≤ k.sink.sure → end ≢ WriteFault)
  Ends-sure s t k m WriteFault fault =
      if_some s.left _ _ (λ bytes unsure sure is. unsure sure) (unsure_left s.left t.left s t k m refl refl fault fault.gave.consumed)
  Ends-sure s t k m (Done refused) ends = always s.left _ (λ bytes sure is. absurd (cc))
  Ends-sure s t k m BadWords ends = always s.left _ (λ bytes sure is. absurd (cc))
  Ends-sure s t k m ReadFault ends = always s.left _ (λ bytes sure is. absurd (cc))
  Ends-sure s t k m TooLong ends = always s.left _ (λ bytes sure is. absurd (cc))
  Ends-sure s t k m OutOfMemory ends = always s.left _ (λ bytes sure is. absurd (cc))

  -- the end by length comes exactly where one byte more was given than an input may have
  pub Ends-length : (s t : Supply) (k m : Effects) (end : RunEnd) → Ends rules start s t k m end → s.given + (input_limit + 1) < 2 ^ 64 - 1
      → (end ≡ TooLong) ↔ (t.given ≡ s.given + (input_limit + 1))
  Ends-length s t k m (Done refused) ends room = (λ is. absurd (cc), λ is. absurd (omega (arith, room, is, ends.gave.given, ends.within)))
  Ends-length s t k m BadWords ends room = (λ is. absurd (cc), λ is. absurd (omega (arith, room, is, ap (λ (x : Supply). x.given) ends.0)))
  Ends-length s t k m ReadFault ends room = (λ is. absurd (cc), λ is. absurd (omega (arith, room, is, ends.lost.given, ends.within)))
  Ends-length s t k m WriteFault ends room = (λ is. absurd (cc), λ is. absurd (omega (arith, room, is, ends.gave.given, ends.within)))
  Ends-length s t k m TooLong ends room = (λ is. omega (arith, room, ends.gave.given, ends.full, length-append ends.bytes (ends.last ∷ [])), λ is. refl)
  Ends-length s t k m OutOfMemory ends room = (λ is. absurd (cc), λ is. absurd (omega (arith, room, is, ends.gave.given, ends.within)))

  -- where no more was given than an input may have, and no fault rose, all was answered
  pub Ends-answered : (s t : Supply) (k m : Effects) (end : RunEnd) → Ends rules start s t k m end → end ≢ BadWords
      → s.given + (input_limit + 1) < 2 ^ 64 - 1 → t.given ≤ s.given + input_limit → ¬ Rose s.faults t.faults → ¬ Rose k.sink.faults m.sink.faults
      → IsDoneOrOutOfMemory end
  Ends-answered s t k m (Done refused) ends words room within read wrote = tt
  Ends-answered s t k m BadWords ends words room within read wrote = absurd (words refl)
  Ends-answered s t k m ReadFault ends words room within read wrote = absurd (read ends.lost.rose)
  Ends-answered s t k m WriteFault ends words room within read wrote = absurd (wrote ends.broke.rose)
  Ends-answered s t k m TooLong ends words room within read wrote =
      absurd (omega (arith, room, within, ends.gave.given, ends.full, length-append ends.bytes (ends.last ∷ [])))
  Ends-answered s t k m OutOfMemory ends words room within read wrote = tt

  -- there were no more reads than bytes given, and one
  pub Ends-reads : (s t : Supply) (k m : Effects) (end : RunEnd) → Ends rules start s t k m end → s.given + (input_limit + 1) < 2 ^ 64 - 1
      → t.reads + s.given ≤ s.reads + (t.given + 1)
  Ends-reads s t k m (Done refused) ends room = omega (arith, room, ends.gave.given, ends.gave.reads, ends.within)
  Ends-reads s t k m BadWords ends room = omega (arith, room, ap (λ (x : Supply). x.given) ends.0, ap (λ (x : Supply). x.reads) ends.0)
  Ends-reads s t k m ReadFault ends room = omega (arith, room, ends.lost.given, ends.lost.reads, ends.within)
  Ends-reads s t k m WriteFault ends room = omega (arith, room, ends.gave.given, ends.gave.reads, ends.within)
  Ends-reads s t k m TooLong ends room = omega (arith, room, ends.gave.given, ends.gave.reads, ends.full, length-append ends.bytes (ends.last ∷ []))
  Ends-reads s t k m OutOfMemory ends room = omega (arith, room, ends.gave.given, ends.gave.reads, ends.within)

pub err-words : ◌≢◌ {A = Result ℕ RunEnd} (Err ReadFault) (Err BadWords)
err-words is = absurd (cc)
