use Rattle.std.proofs.Common.{ℕ, List, [], ◌∷◌, ◌++◌, map, take, sym, ◌∙◌, ap, arith}
use Rattle.std.proofs.lemmas.List.{map_more}
use Rattle.ad_store.specs.Store.{stock_of}
use Rattle.pool_books.specs.Books.{name_in}
use Rattle.pool_books.proofs.naming.names_of.Goals as goal

pub loop-slot-preserved : goal.loop-slot-preserved
loop-slot-preserved c =
    let named = name_in (stock_of c.args.store.now) in
    c.in_ok-push.ensures.ok ∙ ap (λ (names : List (List ℕ)). names ++ c.in_ok-name_of.field-0 ∷ []) c.loop-slot.invariant
    ∙ ap (λ (name : List ℕ). map named (take c.loop-slot.slot-index c.args.slots.now) ++ name ∷ []) c.in_ok-name_of.ensures
    ∙ sym (map_more named c.args.slots.now c.loop-slot.slot-index _ (omega (arith, c.loop-slot-test.true)))
