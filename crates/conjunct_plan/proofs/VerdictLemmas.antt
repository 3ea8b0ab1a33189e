-- What tests say of conjuncts one after another.
use Rattle.std.proofs.Common.{refl, ◌≡◌, ◌∙◌, ap, sym, ℕ, ◌+◌, Bool, true, false, ◌&&◌, ◌||◌, List, [], ◌∷◌, drop, Some, slice_get, Option}
use Rattle.std.proofs.lemmas.List.Folds.{list_all-append}
use Rattle.std.specs.List.{cons_option, filter_map, list_all, list_any}
use Rattle.std.specs.Option.{option_map_or}
use Rattle.ad_tree.specs.Frames.{Frame}
use Rattle.ad_tree.specs.Tree.{Tree, Trees, pack, node, frame, literal, name, unary, binary, all, any, choice, select, subscript, call, list}
use Rattle.ad_tree.proofs.TreeLemmas.{pack-drop}
use Rattle.conjunct_plan.specs.declared.test.Test.{Test}
use Rattle.conjunct_plan.specs.declared.verdict.Verdict.{Verdict}
use Rattle.conjunct_plan.specs.Decided.{is_decided, is_met, verdict_by, verdict_on}
use Rattle.conjunct_plan.specs.Tests.{conjuncts, conjuncts_of_all, test_of}
use Rattle.conjunct_plan.proofs.TestLemmas.{ruled-behind}

-- ---- what a verdict tells

pub ruled-out : (v : Verdict) (ruled met : Bool) → v ≡ verdict_by ruled met → v ≡ Verdict.Against → true ≡ ruled
ruled-out v true met says is = refl
ruled-out v false true says is = absurd (cc)
ruled-out v false false says is = absurd (cc)

pub not-ruled : (v : Verdict) (ruled met : Bool) → v ≡ verdict_by ruled met → (v ≡ Verdict.Against → ⊥) → false ≡ ruled
not-ruled v true met says never = absurd (never says)
not-ruled v false met says never = refl

-- ---- a test that is the only conjunct

module _ (fs : List Frame) (f : ℕ) (labels : List (List ℕ)) (other : List Frame) (g : ℕ) (test : Test) where
  alone : (t : Tree) → Some test ≡ test_of fs f labels t → verdict_by (is_decided test other g) (is_met test other g) ≡ verdict_on fs f labels other g (t ∷ [])
  alone t is =
      by (is_decided test other g) (is_met test other g)
      ∙ ap (λ (o : Option Test). verdict_by (list_any (λ u. is_decided u other g) (cons_option o [])) (option_map_or (λ u. is_met u other g) o false && true))
      is
    where
      by : (ruled met : Bool) → verdict_by ruled met ≡ verdict_by (ruled || false) (met && true)
      by true met = refl
      by false true = refl
      by false false = refl

  pub says-alone : (t : Tree) → Some test ≡ test_of fs f labels t
      → verdict_by (is_decided test other g) (is_met test other g) ≡ verdict_on fs f labels other g (conjuncts t)
  says-alone (node all ts) is = absurd (cc)
  says-alone (node (literal lit) ts) is = alone (node (literal lit) ts) is
  says-alone (node (name s x) ts) is = alone (node (name s x) ts) is
  says-alone (node (unary op) ts) is = alone (node (unary op) ts) is
  says-alone (node (binary op) ts) is = alone (node (binary op) ts) is
  says-alone (node any ts) is = alone (node any ts) is
  says-alone (node choice ts) is = alone (node choice ts) is
  says-alone (node (select x) ts) is = alone (node (select x) ts) is
  says-alone (node subscript ts) is = alone (node subscript ts) is
  says-alone (node (call x) ts) is = alone (node (call x) ts) is
  says-alone (node list ts) is = alone (node list ts) is
  says-alone (frame h) is = alone (frame h) is

-- ---- a verdict and what is said later; `met` tells of what stands before both

pub against-first : (v : Verdict) (ruled each later rest met : Bool) → v ≡ verdict_by ruled each → v ≡ Verdict.Against
    → verdict_by (ruled || later) (met && (each && rest)) ≡ Verdict.Against
against-first v true each later rest met says is = refl
against-first v false true later rest met says is = absurd (cc)
against-first v false false later rest met says is = absurd (cc)

pub for-first : (v : Verdict) (ruled each later rest met : Bool) → v ≡ verdict_by ruled each → v ≡ Verdict.For
    → verdict_by later (met && rest) ≡ verdict_by (ruled || later) (met && (each && rest))
for-first v true each later rest met says is = absurd (cc)
for-first v false true later rest met says is = refl
for-first v false false later rest met says is = absurd (cc)

pub open-first : (v : Verdict) (ruled each later rest met : Bool) → v ≡ verdict_by ruled each → v ≡ Verdict.Open
    → verdict_by later false ≡ verdict_by (ruled || later) (met && (each && rest))
open-first v true each later rest met says is = absurd (cc)
open-first v false true later rest met says is = absurd (cc)
open-first v false false later rest true says is = refl
open-first v false false later rest false says is = refl

-- ---- conjuncts from an element on; `met` tells of those before it

module _ (F : Tree → Option Test) (D : Test → Bool) (M : Tree → Bool) (ts : List Tree) (i : ℕ) (t : Tree) (here : slice_get ts i ≡ Some t) where
  abbrev from : ℕ → Trees
  from k = pack (drop k ts)

  -- of the element, and of those behind it
  abbrev later : Bool → Verdict
  later met = verdict_by (list_any D (filter_map F (conjuncts_of_all (from (i + 1))))) (met && list_all M (conjuncts_of_all (from (i + 1))))

  abbrev now : Bool → Verdict
  now met = verdict_by (list_any D (filter_map F (conjuncts_of_all (from i)))) (met && list_all M (conjuncts_of_all (from i)))

  parted : (met : Bool)
      → now met ≡ verdict_by (list_any D (filter_map F (conjuncts t)) || list_any D (filter_map F (conjuncts_of_all (from (i + 1))))) (met
      && (list_all M (conjuncts t) && list_all M (conjuncts_of_all (from (i + 1)))))
  parted met =
      ap (λ ruled. verdict_by ruled (met && list_all M (conjuncts_of_all (from i)))) (ruled-behind F D ts i t here)
      ∙ ap (λ each. verdict_by (list_any D (filter_map F (conjuncts t)) || list_any D (filter_map F (conjuncts_of_all (from (i + 1))))) (met && each))
      (ap (λ rest. list_all M (conjuncts_of_all rest)) (pack-drop ts i t here) ∙ list_all-append M (conjuncts t) (conjuncts_of_all (from (i + 1))))

  abbrev Says : Verdict → Type 0
  Says v = v ≡ verdict_by (list_any D (filter_map F (conjuncts t))) (list_all M (conjuncts t))

  pub against-behind : (v : Verdict) (met : Bool) → Says v → v ≡ Verdict.Against → now met ≡ Verdict.Against
  against-behind v met says is =
      parted met
      ∙ against-first v (list_any D (filter_map F (conjuncts t))) (list_all M (conjuncts t)) (list_any D (filter_map F (conjuncts_of_all (from (i + 1)))))
      (list_all M (conjuncts_of_all (from (i + 1)))) met says is

  pub for-behind : (v : Verdict) (met : Bool) → Says v → v ≡ Verdict.For → later met ≡ now met
  for-behind v met says is =
      for-first v (list_any D (filter_map F (conjuncts t))) (list_all M (conjuncts t)) (list_any D (filter_map F (conjuncts_of_all (from (i + 1)))))
      (list_all M (conjuncts_of_all (from (i + 1)))) met says is
      ∙ sym (parted met)

  pub open-behind : (v : Verdict) (met : Bool) → Says v → v ≡ Verdict.Open → later false ≡ now met
  open-behind v met says is =
      open-first v (list_any D (filter_map F (conjuncts t))) (list_all M (conjuncts t)) (list_any D (filter_map F (conjuncts_of_all (from (i + 1)))))
      (list_all M (conjuncts_of_all (from (i + 1)))) met says is
      ∙ sym (parted met)
