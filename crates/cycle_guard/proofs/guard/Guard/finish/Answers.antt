use Rattle.std.proofs.Common.{◌≡◌, List, Option, Some, None, IfSome, get_or, set, length, position, slice_get, subst, ap, sym, ◌∙◌, refl}
use Rattle.std.specs.Option.{option_or}
use Rattle.std.proofs.lemmas.List.{length-set}
use Rattle.std.proofs.lemmas.List.Quantifiers.{position-Some}
use Rattle.std.proofs.lemmas.Option.{slice_get-get_or}
use Rattle.cycle_guard.specs.declared.guard.Entry.{Entry}
use Rattle.cycle_guard.specs.declared.guard.Kept.{Kept}
use Rattle.cycle_guard.specs.Sights.{same_pos}
use Rattle.cycle_guard.specs.Shown.{entry_of, other_of, sight_of_entry}
use Rattle.cycle_guard.proofs.GuardLemmas.{entry_of-kept, entry_of-none, kept_first, kept_other, pending-other, refill-same, same_pos-equal}
use Rattle.cycle_guard.proofs.guard.Guard.finish.Goals as goal

pub returns-in-Some : goal.returns-in-Some
returns-in-Some c = λ q.
    let g = c.args.self.now in
    let pos = c.args.pos in
    let es = g.first.items in
    let i = c.in-Some.place in
    let d : Entry = record { pos = pos; kept = None } in
    let kept : Kept = record { value = c.args.v; height = c.args.height } in
    let m = other_of g.others q in
    let e = get_or es i d in
    let first =
    position-Some (λ x. same_pos x.pos pos) es i d (sym (ap (λ (xs : List Entry). position (λ x. same_pos x.pos pos) xs) c.as_slice.ensures)
    ∙ (sym c.place_of.ensures ∙ c.in-Some.is)) in
    let read =
    subst (λ (xs : List Entry). IfSome (slice_get xs i) (λ x. c.keep.new.entries ≡ set xs i (record { pos = x.pos; kept = Some kept })))
    c.as_mut_slice.ensures.value c.keep.ensures in
    let written =
    subst (λ (o : Option Entry). IfSome o (λ x. c.keep.new.entries ≡ set es i (record { pos = x.pos; kept = Some kept }))) (slice_get-get_or es i d first.0)
    read in
    let long = ap (λ (xs : List Entry). length xs) written ∙ length-set es i (record { pos = e.pos; kept = Some kept }) in
    ap (λ (xs : List Entry). sight_of_entry (option_or (entry_of xs q) m)) (refill-same (length es) es c.keep.new.entries long ∙ written)
    ∙ ap (λ (o : Option (Option Kept)). sight_of_entry (option_or o m))
    (entry_of-kept es i e d pos q (Some kept) first.0 refl (same_pos-equal e.pos pos first.1) first.2)
    ∙ kept_first (entry_of es q) m pos q kept

pub keep_other-requires : goal.keep_other-requires
keep_other-requires c =
    let g = c.args.self.now in
    let pos = c.args.pos in
    let none =
    entry_of-none g.first.items pos (sym (ap (λ (xs : List Entry). position (λ x. same_pos x.pos pos) xs) c.as_slice.ensures)
    ∙ (sym c.place_of.ensures ∙ c.in-None.is)) in
    pending-other (entry_of g.first.items pos) (other_of g.others pos) none c.requires

pub returns-in-None : goal.returns-in-None
returns-in-None c = λ q.
    let g = c.args.self.now in
    let pos = c.args.pos in
    let es = g.first.items in
    let kept : Kept = record { value = c.args.v; height = c.args.height } in
    let o = entry_of es q in
    let none =
    entry_of-none es pos (sym (ap (λ (xs : List Entry). position (λ x. same_pos x.pos pos) xs) c.as_slice.ensures)
    ∙ (sym c.place_of.ensures ∙ c.in-None.is)) in
    ap (λ (x : Option (Option Kept)). sight_of_entry (option_or o x)) (c.keep_other.ensures q)
    ∙ kept_other o (other_of g.others q) pos q kept (λ same. ap (entry_of es) (sym same) ∙ none)
