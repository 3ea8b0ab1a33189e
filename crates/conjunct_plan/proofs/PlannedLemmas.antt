-- What tests that are found once say of a requirement.
use Rattle.std.proofs.Common.{refl, ◌≡◌, ◌<◌, ◌∙◌, ap, sym, ℕ, ◌+◌, Bool, true, false, ◌&&◌, List, [], ◌∷◌, drop, get_or, length, map, Option, None, Some}
use Rattle.std.proofs.lemmas.List.{at_drop_more}
use Rattle.std.specs.List.{cons_option, filter_map, list_all, list_any}
use Rattle.std.specs.Option.{option_map_or}
use Rattle.ad_tree.specs.Frames.{Frame}
use Rattle.ad_tree.specs.Tree.{Tree}
use Rattle.conjunct_plan.specs.declared.probe.Probe.{Probe}
use Rattle.conjunct_plan.specs.declared.test.Test.{Test}
use Rattle.conjunct_plan.specs.declared.verdict.Verdict.{Verdict}
use Rattle.conjunct_plan.specs.Decided.{is_decided, is_met, is_met_test, rules_out, verdict_by, verdict_of}
use Rattle.conjunct_plan.specs.Planned.{has_tests_alone, is_test, verdict_by_all}
use Rattle.conjunct_plan.specs.Seen.{test_seen}
use Rattle.conjunct_plan.specs.Tests.{conjuncts, requirement_expr, test_of, tests_of}
use Rattle.conjunct_plan.proofs.VerdictLemmas.{against-first, for-first, open-first}

-- of one more conjunct, which is a test
one-more : (m a b c : Bool) → (a && b) ≡ c → (a && (m && b)) ≡ (m && c)
one-more m true b c e = ap (λ x. m && x) e
one-more true false b c e = e
one-more false false b c e = refl

module _ (fs : List Frame) (f : ℕ) (labels : List (List ℕ)) (other : List Frame) (g : ℕ) where
  -- each conjunct is met where each is a test, and each test is met
  all-met : (ts : List Tree)
      → (list_all (is_test fs f labels) ts && list_all (λ test. is_met test other g) (filter_map (test_of fs f labels) ts))
      ≡ list_all (is_met_test fs f labels other g) ts
  all-met [] = refl
  all-met (t ∷ ts) = by (test_of fs f labels t) (all-met ts)
    where
      by : (o : Option Test)
          → (list_all (is_test fs f labels) ts && list_all (λ test. is_met test other g) (filter_map (test_of fs f labels) ts))
          ≡ list_all (is_met_test fs f labels other g) ts
          → ((option_map_or (λ test. true) o false && list_all (is_test fs f labels) ts)
          && list_all (λ test. is_met test other g) (cons_option o (filter_map (test_of fs f labels) ts)))
          ≡ (option_map_or (λ test. is_met test other g) o false && list_all (is_met_test fs f labels other g) ts)
      by None e = refl
      by (Some test) e =
          one-more (is_met test other g) (list_all (is_test fs f labels) ts)
          (list_all (λ test. is_met test other g) (filter_map (test_of fs f labels) ts)) (list_all (is_met_test fs f labels other g) ts) e

  -- so the tests of a requirement, and whether it has no other conjuncts, tell the verdict
  pub verdict-planned : (tests : List Test) (whole : Bool) → tests ≡ tests_of fs f labels → whole ≡ has_tests_alone fs f labels
      → verdict_by_all other g whole tests ≡ verdict_of fs f labels other g
  verdict-planned tests whole same alone =
      ap (verdict_by_all other g whole) same
      ∙ ap (λ (b : Bool). verdict_by_all other g b (tests_of fs f labels)) alone
      ∙ ap (verdict_by (rules_out fs f labels other g)) (by (requirement_expr fs f))
    where
      by : (o : Option Tree)
          → (option_map_or (λ t. list_all (is_test fs f labels) (conjuncts t)) o false
          && list_all (λ test. is_met test other g) (option_map_or (λ t. filter_map (test_of fs f labels) (conjuncts t)) o []))
          ≡ option_map_or (λ t. list_all (is_met_test fs f labels other g) (conjuncts t)) o false
      by None = refl
      by (Some t) = all-met (conjuncts t)

-- ---- tests from a place on

module _ (other : List Frame) (g : ℕ) (tests : List Probe) (i : ℕ) (test : Probe) (there : test ≡ get_or tests i test) (within : i < length tests)
    (met : Bool) where
  abbrev later : List Test
  later = map test_seen (drop (i + 1) tests)

  -- those from the place on are the one there, and those behind it
  parted : verdict_by_all other g met (map test_seen (drop i tests)) ≡ verdict_by_all other g met (test_seen test ∷ later)
  parted =
      at_drop_more (λ us. verdict_by_all other g met (map test_seen us)) tests i test within
      ∙ ap (λ (u : Probe). verdict_by_all other g met (test_seen u ∷ later)) (sym there)

  abbrev Says : Verdict → Type 0
  Says v = v ≡ verdict_by (is_decided (test_seen test) other g) (is_met (test_seen test) other g)

  pub against-next : (v : Verdict) → Says v → v ≡ Verdict.Against → verdict_by_all other g met (map test_seen (drop i tests)) ≡ Verdict.Against
  against-next v says is =
      parted
      ∙ against-first v (is_decided (test_seen test) other g) (is_met (test_seen test) other g) (list_any (λ u. is_decided u other g) later)
      (list_all (λ u. is_met u other g) later) met says is

  pub for-next : (v : Verdict) → Says v → v ≡ Verdict.For
      → verdict_by_all other g met later ≡ verdict_by_all other g met (map test_seen (drop i tests))
  for-next v says is =
      for-first v (is_decided (test_seen test) other g) (is_met (test_seen test) other g) (list_any (λ u. is_decided u other g) later)
      (list_all (λ u. is_met u other g) later) met says is
      ∙ sym parted

  pub open-next : (v : Verdict) → Says v → v ≡ Verdict.Open
      → verdict_by_all other g false later ≡ verdict_by_all other g met (map test_seen (drop i tests))
  open-next v says is =
      open-first v (is_decided (test_seen test) other g) (is_met (test_seen test) other g) (list_any (λ u. is_decided u other g) later)
      (list_all (λ u. is_met u other g) later) met says is
      ∙ sym parted
