use Rattle.std.proofs.Common.{Vec, Global, ℕ, List, bytes_eq, map, sym, ◌∙◌, ap}
use Rattle.std.specs.List.{list_any}
use Rattle.pool_text.specs.Folding.{folded}
use Rattle.significant_attrs.proofs.SetLemmas.{asked, folded-folded, has-again, pushed-folded, set-has}
use Rattle.significant_attrs.proofs.name_set.NameSet.add.Goals as goal

pub returns-then-contains : goal.returns-then-contains
returns-then-contains c = λ x.
    has-again x c.args.name.now (map (λ key. key.items) c.args.self.now.names.keys)
    (sym (c.contains.ensures ∙ asked c.bytes.result.now c.args.self.now.names.keys
    ∙ ap (λ (n : List ℕ). list_any (λ key. bytes_eq n key.items) c.args.self.now.names.keys) (c.bytes.ensures ∙ c.in_ok-small.ensures)
    ∙ set-has (λ (key : Vec ℕ Global). key.items) c.args.self.now.names.keys c.args.name.now c.args.self.now.are_folded)
    ∙ c.if-contains.true)

pub insert-requires : goal.insert-requires
insert-requires c =
    let small = c.bytes-2.ensures ∙ c.in_ok-small.ensures in
    ap folded small ∙ folded-folded c.args.name.now ∙ sym small

pub invariant_of-self : goal.invariant_of-self
invariant_of-self c = record { are_folded = c.insert.ensures.folded c.args.self.now.are_folded }

pub returns : goal.returns
returns c =
    pushed-folded c.insert.result (map (λ key. key.items) c.args.self.now.names.keys) (map (λ key. key.items) c.insert.new.names.keys) c.args.name.now
    c.bytes-2.result.now
    (c.bytes-2.ensures ∙ c.in_ok-small.ensures) c.insert.ensures.has
