-- Conjuncts one after another, and labels port by port.
use Rattle.std.proofs.Common.{◌≡◌, ◌∙◌, ap, sym, ℕ, zero, suc, ◌+◌, Bool, ◌||◌, List, [], ◌∷◌, ◌++◌, append_assoc, drop, Some, slice_get, Option}
use Rattle.std.proofs.lemmas.List.Elements.{filter_map-append}
use Rattle.std.proofs.lemmas.List.Folds.{list_any-append}
use Rattle.std.specs.List.{filter_map, list_any}
use Rattle.ad_tree.specs.declared.request.Port.{Port}
use Rattle.ad_tree.specs.Names.{same_name, has_name}
use Rattle.ad_tree.specs.Tree.{Tree, Trees, pack}
use Rattle.ad_tree.proofs.TreeLemmas.{pack-drop}
use Rattle.conjunct_plan.specs.declared.test.Test.{Test}
use Rattle.conjunct_plan.specs.Tests.{conjuncts, conjuncts_of_all, labels_of}

-- the tests among the conjuncts from an element on: those of the element, and those behind it
tests-behind : (F : Tree → Option Test) (ts : List Tree) (i : ℕ) (t : Tree) → slice_get ts i ≡ Some t
    → filter_map F (conjuncts_of_all (pack (drop i ts))) ≡ filter_map F (conjuncts t) ++ filter_map F (conjuncts_of_all (pack (drop (i + 1) ts)))
tests-behind F ts i t is =
    ap (λ (rest : Trees). filter_map F (conjuncts_of_all rest)) (pack-drop ts i t is)
    ∙ filter_map-append F (conjuncts t) (conjuncts_of_all (pack (drop (i + 1) ts)))

pub added-behind : (F : Tree → Option Test) (ts : List Tree) (i : ℕ) (t : Tree) → slice_get ts i ≡ Some t → (old new : List Test)
    → new ≡ old ++ filter_map F (conjuncts t)
    → new ++ filter_map F (conjuncts_of_all (pack (drop (i + 1) ts))) ≡ old ++ filter_map F (conjuncts_of_all (pack (drop i ts)))
added-behind F ts i t is old new added =
    ap (λ tests. tests ++ filter_map F (conjuncts_of_all (pack (drop (i + 1) ts)))) added
    ∙ append_assoc old (filter_map F (conjuncts t)) (filter_map F (conjuncts_of_all (pack (drop (i + 1) ts))))
    ∙ ap (λ tests. old ++ tests) (sym (tests-behind F ts i t is))

pub ruled-behind : (F : Tree → Option Test) (D : Test → Bool) (ts : List Tree) (i : ℕ) (t : Tree) → slice_get ts i ≡ Some t
    → list_any D (filter_map F (conjuncts_of_all (pack (drop i ts))))
    ≡ (list_any D (filter_map F (conjuncts t)) || list_any D (filter_map F (conjuncts_of_all (pack (drop (i + 1) ts)))))
ruled-behind F D ts i t is =
    ap (list_any D) (tests-behind F ts i t is) ∙ list_any-append D (filter_map F (conjuncts t)) (filter_map F (conjuncts_of_all (pack (drop (i + 1) ts))))

-- a name among the labels from a port on
pub label-behind : (name : List ℕ) (ports : List Port) (i : ℕ) (port : Port) → slice_get ports i ≡ Some port
    → has_name name (labels_of (drop i ports)) ≡ (same_name port.label name || has_name name (labels_of (drop (suc i) ports)))
label-behind name [] i port is = absurd (cc)
label-behind name (p ∷ ports) zero port is = let same : p ≡ port = cc in ap (λ q. same_name q.label name || has_name name (labels_of ports)) same
label-behind name (p ∷ ports) (suc i) port is = label-behind name ports i port is
