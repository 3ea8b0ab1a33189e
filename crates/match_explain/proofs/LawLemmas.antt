-- An ad is accepted exactly where its dock is true. Each step is an equation of tests, so that it serves both directions.
use Rattle.std.proofs.Common.{◌≡◌, ◌∙◌, ap, sym, refl, ℕ, suc, Bool, true, false, ◌&&◌, List, [], ◌∷◌, Option, None, Some, is_none}
use Rattle.std.proofs.Common.{option_map, option_and_then, unwrap_or, cond}
use Rattle.std.specs.List.{list_all}
use Rattle.std.specs.Option.{option_map_or}
use Rattle.std.proofs.lemmas.List.Folds.{list_all-append}
use Rattle.pool_text.specs.declared.language.AdPlace.{AdPlace}
use Rattle.pool_text.specs.declared.language.Pos.{Pos}
use Rattle.ad_value.specs.Demands.{conjunction}
use Rattle.ad_value.specs.Logic.{is_true}
use Rattle.ad_value.specs.Plain.{Plain, undefined, error, boolean, integer, decimal, text, list, ad_at}
use Rattle.ad_tree.specs.Frames.{expr_at}
use Rattle.ad_tree.specs.Special.{requirement_of}
use Rattle.ad_tree.specs.Tree.{Tree, node, frame, Trees, none, more, literal, name, unary, binary, all, any, choice, select, subscript, call}
use Rattle.ad_tree.specs.Tree as trees
use Rattle.ad_eval.specs.Dock.{attribute_of, is_docked, meets_requirement}
use Rattle.ad_eval.specs.Value.{evaluation_at, results_by, value_at, value_by}
use Rattle.conjunct_plan.specs.Tests.{conjuncts, conjuncts_of_all}
use Rattle.eval_scope.specs.World.{PlainWorld, frames_of_ad, request_side, resource_side}
use Rattle.match_explain.specs.declared.report.Verdict.{Verdict}
use Rattle.match_explain.specs.Why.{failing, first_failing, holds, verdict, verdict_by}

-- a result is the Boolean true
abbrev pub truth : Option Plain → Bool
truth o = is_true (unwrap_or o error)

-- ---- chains of `&&`

-- a chain that begins with anything but true is never true
untrue : (left : Plain) (rs : List (Option Plain)) → is_true left ≡ false → truth (conjunction left rs) ≡ false
untrue left [] not = not
untrue (boolean true) (r ∷ rs) not = absurd (cc)
untrue (boolean false) (r ∷ rs) not = refl
untrue undefined (None ∷ rs) not = refl
untrue undefined (Some (boolean true) ∷ rs) not = untrue undefined rs refl
untrue undefined (Some (boolean false) ∷ rs) not = untrue (boolean false) rs refl
untrue undefined (Some undefined ∷ rs) not = untrue undefined rs refl
untrue undefined (Some error ∷ rs) not = untrue error rs refl
untrue undefined (Some (integer n) ∷ rs) not = untrue error rs refl
untrue undefined (Some (decimal m) ∷ rs) not = untrue error rs refl
untrue undefined (Some (text s) ∷ rs) not = untrue error rs refl
untrue undefined (Some (list ps) ∷ rs) not = untrue error rs refl
untrue undefined (Some (ad_at p) ∷ rs) not = untrue error rs refl
untrue error (r ∷ rs) not = refl
untrue (integer n) (r ∷ rs) not = refl
untrue (decimal m) (r ∷ rs) not = refl
untrue (text s) (r ∷ rs) not = refl
untrue (list ps) (r ∷ rs) not = refl
untrue (ad_at p) (r ∷ rs) not = refl

joined : (r : Option Plain) (rs : List (Option Plain)) → truth (conjunction (boolean true) (r ∷ rs)) ≡ (truth r && truth (conjunction (boolean true) rs))
joined None rs = refl
joined (Some (boolean true)) rs = refl
joined (Some (boolean false)) rs = untrue (boolean false) rs refl
joined (Some undefined) rs = untrue undefined rs refl
joined (Some error) rs = untrue error rs refl
joined (Some (integer n)) rs = untrue error rs refl
joined (Some (decimal m)) rs = untrue error rs refl
joined (Some (text s)) rs = untrue error rs refl
joined (Some (list ps)) rs = untrue error rs refl
joined (Some (ad_at p)) rs = untrue error rs refl

alone : (b : Bool) → b ≡ (b && true)
alone true = refl
alone false = refl

-- an expression is true where each of its conjuncts is
module _ (at : Pos → Option Plain) (w : PlainWorld) (p : AdPlace) where
  abbrev pub is_met : Tree → Bool
  is_met t = truth (value_by at w p t)

  mutual
    pub conjuncts-hold : (t : Tree) → truth (value_by at w p t) ≡ list_all is_met (conjuncts t)
    conjuncts-hold (node all ts) = chain-holds ts
    conjuncts-hold (node (literal lit) ts) = alone _
    conjuncts-hold (node (name s x) ts) = alone _
    conjuncts-hold (node (unary op) ts) = alone _
    conjuncts-hold (node (binary op) ts) = alone _
    conjuncts-hold (node any ts) = alone _
    conjuncts-hold (node choice ts) = alone _
    conjuncts-hold (node (select x) ts) = alone _
    conjuncts-hold (node subscript ts) = alone _
    conjuncts-hold (node (call x) ts) = alone _
    conjuncts-hold (node trees.list ts) = alone _
    conjuncts-hold (frame f) = alone _

    chain-holds : (ts : Trees) → truth (conjunction (boolean true) (results_by at w p ts)) ≡ list_all is_met (conjuncts_of_all ts)
    chain-holds none = refl
    chain-holds (more t ts) =
        joined (value_by at w p t) (results_by at w p ts)
        ∙ (λ i. (conjuncts-hold t) i && (chain-holds ts) i)
        ∙ sym (list_all-append is_met (conjuncts t) (conjuncts_of_all ts))

-- ---- sides

suc-fails : (o : Option ℕ) → is_none (option_map suc o) ≡ is_none o
suc-fails None = refl
suc-fails (Some n) = refl

none-fails : {X : Type 0} (test : X → Bool) (xs : List X) → is_none (first_failing test xs) ≡ list_all test xs
none-fails test [] = refl
none-fails {X} test (x ∷ xs) = by (test x) (none-fails test xs)
  where
    by : (b : Bool) → is_none (first_failing test xs) ≡ list_all test xs
        → is_none (cond b (option_map suc (first_failing test xs)) (Some 1)) ≡ (b && list_all test xs)
    by true behind = suc-fails (first_failing test xs) ∙ behind
    by false behind = refl

-- a side fails by no conjunct where its requirement is met
side-holds : (w : PlainWorld) (p : AdPlace) → is_none (failing w p) ≡ meets_requirement w p
unfolding value_at
side-holds w p = by (requirement_of (frames_of_ad w p.ad) p.frame)
  where
    told : (t : Option Tree)
        → is_none (option_map_or (λ t. first_failing (holds w p) (conjuncts t)) t (Some 0)) ≡ truth (option_and_then (value_by (value_at 23 w) w p) t)
    told None = refl
    told (Some t) = none-fails (holds w p) (conjuncts t) ∙ sym (conjuncts-hold (value_at 23 w) w p t)

    by : (k : Option ℕ)
        → is_none (option_map_or (λ t. first_failing (holds w p) (conjuncts t)) (option_and_then (λ k. expr_at (frames_of_ad w p.ad) p.frame k) k) (Some 0))
        ≡ option_map_or (λ k. is_true (evaluation_at w (attribute_of p k))) k false
    by None = refl
    by (Some k) = told (expr_at (frames_of_ad w p.ad) p.frame k)

-- ---- verdicts

abbrev is_accepted : Verdict → Bool
is_accepted Verdict.Accepted = true
is_accepted other = false

by-both : (a b : Option ℕ) → is_accepted (verdict_by a b) ≡ (is_none a && is_none b)
by-both (Some j) b = refl
by-both None (Some j) = refl
by-both None None = refl

accepted-docks : (w : PlainWorld) → is_accepted (verdict w) ≡ is_docked w
accepted-docks w =
    by-both (failing w (request_side w)) (failing w (resource_side w))
    ∙ (λ i. (side-holds w (request_side w)) i && (side-holds w (resource_side w)) i)

pub accepted-is : (w : PlainWorld) → verdict w ≡ Verdict.Accepted → is_docked w ≡ true
accepted-is w is = sym (accepted-docks w) ∙ ap is_accepted is

pub docked-is : (w : PlainWorld) → is_docked w ≡ true → verdict w ≡ Verdict.Accepted
docked-is w docked = by (verdict w) (accepted-docks w ∙ docked)
  where
    by : (v : Verdict) → is_accepted v ≡ true → v ≡ Verdict.Accepted
    by Verdict.Accepted is = refl
    by (Verdict.Request j) is = absurd (cc)
    by (Verdict.Resource j) is = absurd (cc)
