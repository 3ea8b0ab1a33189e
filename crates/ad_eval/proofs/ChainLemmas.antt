-- Chains, conditionals and calls in a scene, part by part.
use Rattle.std.proofs.Common.{◌≡◌, ◌≢◌, ◌≤◌, ◌+◌, ℕ, suc, Bool, true, false, List, [], ◌∷◌, ◌++◌, length, drop, Option, Some, option_map, slice_get, codes}
use Rattle.std.proofs.Common.{if◌then◌else◌, refl, ap, sym, ◌∙◌, arith}
use Rattle.std.specs.Option.{option_and_then}
use Rattle.std.proofs.lemmas.List.{drop_all}
use Rattle.ad_value.specs.Plain.{Plain, error}
use Rattle.ad_value.specs.Logic.{and_is_decided, and_value, or_is_decided, or_value}
use Rattle.ad_value.specs.Demands.{all_demanded, chosen, conjunction, disjunction}
use Rattle.builtin_funcs.specs.Calls.{is_known}
use Rattle.ad_tree.specs.Names.{same_name}
use Rattle.ad_tree.specs.Tree.{Tree, none, more, pack, three}
use Rattle.ad_tree.proofs.TreeLemmas.{pack-drop}
use Rattle.ad_eval.specs.declared.chain.Chain.{Chain}
use Rattle.ad_eval.specs.Chain.{chained, is_decided, joined}
use Rattle.ad_eval.specs.declared.scene.Scene.{Scene as TheScene}
use Rattle.ad_eval.specs.Node.{called, conditional, function_value}
use Rattle.ad_eval.specs.Scene.{results_in, values_in, world_in}
use Rattle.ad_eval.proofs.NodeLemmas.{all_demanded-end, all_demanded-next, conjunction-decided, conjunction-next, disjunction-decided, disjunction-next}
use Rattle.ad_eval.proofs.NodeLemmas.{listed-next, values_and}
use Rattle.ad_eval.proofs.SceneLemmas.{results-more, results-none}

-- the results from a place of a list on
module _ (s : TheScene) (ts : List Tree) (i : ℕ) (t : Tree) (at : slice_get ts i ≡ Some t) (n : ℕ) where
  pub results-from : results_in s (pack (drop i ts)) n ≡ values_in s t n ∷ results_in s (pack (drop (i + 1) ts)) n
  results-from = ap (λ us. results_in s us n) (pack-drop ts i t at) ∙ results-more s t (pack (drop (i + 1) ts)) n

  conjunction-from : (v : Plain) → and_is_decided v ≡ false
      → conjunction v (results_in s (pack (drop i ts)) n)
      ≡ option_and_then (λ p. conjunction (and_value v p) (results_in s (pack (drop (i + 1) ts)) n)) (values_in s t n)
  conjunction-from v open_yet = ap (conjunction v) results-from ∙ conjunction-next v (values_in s t n) (results_in s (pack (drop (i + 1) ts)) n) open_yet

  disjunction-from : (v : Plain) → or_is_decided v ≡ false
      → disjunction v (results_in s (pack (drop i ts)) n)
      ≡ option_and_then (λ p. disjunction (or_value v p) (results_in s (pack (drop (i + 1) ts)) n)) (values_in s t n)
  disjunction-from v open_yet = ap (disjunction v) results-from ∙ disjunction-next v (values_in s t n) (results_in s (pack (drop (i + 1) ts)) n) open_yet

  pub chained-from : (kind : Chain) (v : Plain) → is_decided kind v ≡ false
      → chained kind v (results_in s (pack (drop i ts)) n)
      ≡ option_and_then (λ p. chained kind (joined kind v p) (results_in s (pack (drop (i + 1) ts)) n)) (values_in s t n)
  chained-from Chain.And v open_yet = conjunction-from v open_yet
  chained-from Chain.Or v open_yet = disjunction-from v open_yet

  pub all_demanded-from : (vs : List Plain)
      → values_and vs (all_demanded (results_in s (pack (drop i ts)) n))
      ≡ option_and_then (λ p. values_and (vs ++ p ∷ []) (all_demanded (results_in s (pack (drop (i + 1) ts)) n))) (values_in s t n)
  all_demanded-from vs =
      ap (λ rs. values_and vs (all_demanded rs)) results-from ∙ all_demanded-next vs (values_in s t n) (results_in s (pack (drop (i + 1) ts)) n)

  pub listed-from : (value : List Plain → Plain)
      → option_map value (all_demanded (results_in s (pack (drop i ts)) n))
      ≡ option_and_then (λ p. option_map (λ ps. value (p ∷ ps)) (all_demanded (results_in s (pack (drop (i + 1) ts)) n))) (values_in s t n)
  listed-from value = ap (λ rs. option_map value (all_demanded rs)) results-from ∙ listed-next value (values_in s t n) (results_in s (pack (drop (i + 1) ts)) n)

-- nothing is left behind the end
module _ (s : TheScene) (ts : List Tree) (i : ℕ) (past : length ts ≤ i) (n : ℕ) where
  pub results-end : results_in s (pack (drop i ts)) n ≡ []
  results-end = ap (λ us. results_in s (pack us) n) (drop_all i ts past) ∙ results-none s n

  conjunction-end : (v : Plain) → conjunction v (results_in s (pack (drop i ts)) n) ≡ Some v
  conjunction-end v = ap (conjunction v) results-end

  disjunction-end : (v : Plain) → disjunction v (results_in s (pack (drop i ts)) n) ≡ Some v
  disjunction-end v = ap (disjunction v) results-end

  pub chained-end : (kind : Chain) (v : Plain) → chained kind v (results_in s (pack (drop i ts)) n) ≡ Some v
  chained-end Chain.And v = conjunction-end v
  chained-end Chain.Or v = disjunction-end v

  pub values-end : (vs : List Plain) → values_and vs (all_demanded (results_in s (pack (drop i ts)) n)) ≡ Some vs
  values-end vs = ap (λ rs. values_and vs (all_demanded rs)) results-end ∙ all_demanded-end vs

  pub listed-end : (value : List Plain → Plain) → option_map value (all_demanded (results_in s (pack (drop i ts)) n)) ≡ Some (value [])
  listed-end value = ap (λ rs. option_map value (all_demanded rs)) results-end

pub chained-decided : (kind : Chain) (v : Plain) (rs : List (Option Plain)) → is_decided kind v ≡ true → chained kind v rs ≡ Some v
chained-decided Chain.And v rs decided = conjunction-decided v rs decided
chained-decided Chain.Or v rs decided = disjunction-decided v rs decided

-- ---- conditionals

pub results-three : (s : TheScene) (a b d : Tree) (n : ℕ) → results_in s (three a b d) n ≡ values_in s a n ∷ values_in s b n ∷ values_in s d n ∷ []
results-three s a b d n =
    results-more s a (more b (more d none)) n
    ∙ ap (λ rs. values_in s a n ∷ rs) (results-more s b (more d none) n
    ∙ ap (λ rs. values_in s b n ∷ rs) (results-more s d none n ∙ ap (λ rs. values_in s d n ∷ rs) (results-none s n)))

pub conditional-three : (s : TheScene) (a b d : Tree) (n : ℕ)
    → conditional (results_in s (three a b d) n) ≡ option_and_then (chosen (values_in s b n) (values_in s d n)) (values_in s a n)
conditional-three s a b d n = ap conditional (results-three s a b d n)

pub pack-three : (ts : List Tree) (a b d : Tree) → length ts ≡ 3 → slice_get ts 0 ≡ Some a → slice_get ts 1 ≡ Some b → slice_get ts 2 ≡ Some d
    → pack ts ≡ three a b d
pack-three [] a b d long x y z = absurd (cc)
pack-three (t ∷ []) a b d long x y z = absurd (cc)
pack-three (t ∷ u ∷ []) a b d long x y z = absurd (cc)
pack-three (t ∷ u ∷ v ∷ []) a b d long x y z =
    let first : t ≡ a = cc in
    let second : u ≡ b = cc in
    let third : v ≡ d = cc in
    cc
pack-three (t ∷ u ∷ v ∷ r ∷ rest) a b d long x y z = absurd (omega arith)

conditional-others : (rs : List (Option Plain)) → length rs ≢ 3 → conditional rs ≡ Some error
conditional-others [] h = refl
conditional-others (a ∷ []) h = refl
conditional-others (a ∷ b ∷ []) h = refl
conditional-others (a ∷ b ∷ d ∷ []) h = absurd (h refl)
conditional-others (a ∷ b ∷ d ∷ e ∷ rs) h = refl

-- ---- calls

pub results-length : (s : TheScene) (ts : List Tree) (n : ℕ) → length (results_in s (pack ts) n) ≡ length ts
results-length s [] n = ap length (results-none s n)
results-length s (t ∷ ts) n = ap length (results-more s t (pack ts) n) ∙ ap suc (results-length s ts n)

pub conditional-wrong : (s : TheScene) (ts : List Tree) (n : ℕ) → length ts ≢ 3 → conditional (results_in s (pack ts) n) ≡ Some error
conditional-wrong s ts n other = conditional-others (results_in s (pack ts) n) (λ e. other (sym (results-length s ts n) ∙ e))

module _ (s : TheScene) (x : List ℕ) (ts : List Tree) (n : ℕ) where
  body : Bool → Bool → Option Plain
  body known choice =
      if known then if choice then conditional (results_in s (pack ts) n) else option_map (function_value (world_in s) x)
      (all_demanded (results_in s (pack ts) n)) else Some error

  called-by : (known choice : Bool) → is_known x (length ts) ≡ known → same_name x (codes "ifThenElse") ≡ choice
      → called (world_in s) x (results_in s (pack ts) n) ≡ body known choice
  unfolding body
  called-by known choice k c =
      ap (λ b. if b then if same_name x (codes "ifThenElse") then conditional (results_in s (pack ts) n) else option_map (function_value (world_in s) x)
      (all_demanded (results_in s (pack ts) n)) else Some error) (ap (is_known x) (results-length s ts n) ∙ k)
      ∙ ap (λ b. if known then if b then conditional (results_in s (pack ts) n) else option_map (function_value (world_in s) x)
      (all_demanded (results_in s (pack ts) n)) else Some error) c

  pub called-unknown : is_known x (length ts) ≡ false → called (world_in s) x (results_in s (pack ts) n) ≡ Some error
  unfolding body
  called-unknown k = called-by false (same_name x (codes "ifThenElse")) k refl

  pub called-choice : is_known x (length ts) ≡ true → same_name x (codes "ifThenElse") ≡ true
      → called (world_in s) x (results_in s (pack ts) n) ≡ conditional (results_in s (pack ts) n)
  unfolding body
  called-choice k c = called-by true true k c

  pub called-function : is_known x (length ts) ≡ true → same_name x (codes "ifThenElse") ≡ false
      → called (world_in s) x (results_in s (pack ts) n) ≡ option_map (function_value (world_in s) x) (all_demanded (results_in s (pack ts) n))
  unfolding body
  called-function k c = called-by true false k c
