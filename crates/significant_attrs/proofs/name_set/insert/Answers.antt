use Rattle.std.proofs.Common.{◌≡◌, ◌∙◌, ◌∷◌, ◌++◌, [], ap, map, subst, sym}
use Rattle.std.specs.Ordering.{nat_cmp}
use Rattle.std.specs.Cmp.Lexicographic.{slice_cmp}
use Rattle.pool_text.specs.Folding.{folded}
use Rattle.ad_tree.specs.Names.{has_name}
use Rattle.significant_attrs.proofs.SetLemmas.{equal-items, folded-inserted, has-inserted, has-push}
use Rattle.significant_attrs.proofs.name_set.insert.Goals as goal

pub returns-clause-has : goal.returns-clause-has
returns-clause-has c = λ x.
    let keys = c.args.names.now.keys in
    let key = c.in_ok-key.key in
    ap (λ ks. has_name x (map (λ k. k.items) ks)) c.in_ok-insert.ensures.keys
    ∙ has-inserted (λ a b. slice_cmp nat_cmp a.items b.items) (λ k. k.items) x key (λ y. equal-items key y) keys
    ∙ sym (has-push x key.items (map (λ k. k.items) keys))
    ∙ ap (λ n. has_name x (map (λ k. k.items) keys ++ n ∷ [])) c.in_ok-key.ensures.items

pub returns-clause-folded : goal.returns-clause-folded
returns-clause-folded c = λ h.
    let keys = c.args.names.now.keys in
    let key = c.in_ok-key.key in
    let small : folded key.items ≡ key.items = subst (λ n. folded n ≡ n) (sym c.in_ok-key.ensures.items) c.requires in
    subst (λ ks. map folded (map (λ k. k.items) ks) ≡ map (λ k. k.items) ks) (sym c.in_ok-insert.ensures.keys)
    (folded-inserted (λ a b. slice_cmp nat_cmp a.items b.items) (λ k. k.items) key small keys h)
