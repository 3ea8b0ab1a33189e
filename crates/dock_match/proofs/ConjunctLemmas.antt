-- An expression is true only where each of its conjuncts is.
use Rattle.std.proofs.Common.{◌≡◌, Bool, true, false, refl, List, [], ◌∷◌, Option, None, Some, if◌then◌else◌, All, ap, sym, ◌∙◌, arith}
use Rattle.std.specs.Option.{option_and_then}
use Rattle.std.proofs.lemmas.List.Elements.{All-append, All-cons, All-nil, All-tail}
use Rattle.pool_text.specs.declared.language.AdPlace.{AdPlace}
use Rattle.pool_text.specs.declared.language.Pos.{Pos}
use Rattle.ad_value.specs.Plain.{Plain, undefined, error, boolean, integer, decimal, text, ad_at}
use Rattle.ad_value.specs.Plain.{list as list_value}
use Rattle.ad_value.specs.Logic.{and_is_decided, and_value}
use Rattle.ad_value.specs.Demands.{conjunction}
use Rattle.ad_tree.specs.Tree.{Tree, Trees, node, frame, none, more, literal, name, unary, binary, all, any, choice, select, subscript, call, list}
use Rattle.eval_scope.specs.World.{PlainWorld}
use Rattle.ad_eval.specs.Value.{results_by, value_by}
use Rattle.conjunct_plan.specs.Tests.{conjuncts, conjuncts_of_all}

abbrev pub IsTrueResult : Option Plain → Type 0
IsTrueResult r = r ≡ Some (boolean true)

both-true : (left right : Plain) → and_value left right ≡ boolean true → (left ≡ boolean true) × (right ≡ boolean true)
both-true (boolean true) (boolean true) e = (refl, refl)
both-true (boolean true) (boolean false) e = absurd (cc)
both-true (boolean true) undefined e = absurd (cc)
both-true (boolean true) error e = absurd (cc)
both-true (boolean true) (integer n) e = absurd (cc)
both-true (boolean true) (decimal m) e = absurd (cc)
both-true (boolean true) (text bytes) e = absurd (cc)
both-true (boolean true) (list_value items) e = absurd (cc)
both-true (boolean true) (ad_at place) e = absurd (cc)
both-true (boolean false) right e = absurd (cc)
both-true undefined (boolean true) e = absurd (cc)
both-true undefined (boolean false) e = absurd (cc)
both-true undefined undefined e = absurd (cc)
both-true undefined error e = absurd (cc)
both-true undefined (integer n) e = absurd (cc)
both-true undefined (decimal m) e = absurd (cc)
both-true undefined (text bytes) e = absurd (cc)
both-true undefined (list_value items) e = absurd (cc)
both-true undefined (ad_at place) e = absurd (cc)
both-true error right e = absurd (cc)
both-true (integer n) right e = absurd (cc)
both-true (decimal m) right e = absurd (cc)
both-true (text bytes) right e = absurd (cc)
both-true (list_value items) right e = absurd (cc)
both-true (ad_at place) right e = absurd (cc)

-- the same once one more result is joined
abbrev Behind : Plain → List (Option Plain) → Type 0
Behind left rs = (p : Plain) → conjunction (and_value left p) rs ≡ Some (boolean true) → (and_value left p ≡ boolean true) × All IsTrueResult rs

-- a chain of `&&` is true only where its beginning and each result are
all-true : (left : Plain) (rs : List (Option Plain)) → conjunction left rs ≡ Some (boolean true) → (left ≡ boolean true) × All IsTrueResult rs
all-true left [] e = (cc, All-nil IsTrueResult)
all-true left (r ∷ rs) e = by (λ p h. all-true (and_value left p) rs h) (and_is_decided left) refl e
  where
    open_yet : Behind left rs → (o : Option Plain) → r ≡ o → option_and_then (λ p. conjunction (and_value left p) rs) o ≡ Some (boolean true)
        → (left ≡ boolean true) × All IsTrueResult (r ∷ rs)
    open_yet behind None is h = absurd (cc)
    open_yet behind (Some p) is h =
        let both = behind p h in
        let parts = both-true left p both.0 in
        (parts.0, All-cons IsTrueResult r rs (is ∙ ap Some parts.1) both.1)

    by : Behind left rs → (b : Bool) → and_is_decided left ≡ b
        → (if b then Some left else option_and_then (λ p. conjunction (and_value left p) rs) r) ≡ Some (boolean true)
        → (left ≡ boolean true) × All IsTrueResult (r ∷ rs)
    by behind true decided h =
        let same : left ≡ boolean true = cc in
        let turned : true ≡ false = sym decided ∙ ap and_is_decided same in
        absurd (cc)
    by behind false decided h = open_yet behind r refl h

module _ (at : Pos → Option Plain) (w : PlainWorld) (p : AdPlace) where
  abbrev pub IsTrueAt : Tree → Type 0
  IsTrueAt t = value_by at w p t ≡ Some (boolean true)

  itself : (t : Tree) → IsTrueAt t → All IsTrueAt (t ∷ [])
  itself t e = All-cons IsTrueAt t [] e (All-nil IsTrueAt)

  first-true : (r : Option Plain) (rs : List (Option Plain)) → All IsTrueResult (r ∷ rs) → IsTrueResult r
  first-true r rs h = h 0 r (omega arith)

  mutual
    pub conjuncts-true : (t : Tree) → IsTrueAt t → All IsTrueAt (conjuncts t)
    conjuncts-true (node all ts) e = conjuncts_of_all-true ts (all-true (boolean true) (results_by at w p ts) e).1
    conjuncts-true (node (literal lit) ts) e = itself (node (literal lit) ts) e
    conjuncts-true (node (name s x) ts) e = itself (node (name s x) ts) e
    conjuncts-true (node (unary op) ts) e = itself (node (unary op) ts) e
    conjuncts-true (node (binary op) ts) e = itself (node (binary op) ts) e
    conjuncts-true (node any ts) e = itself (node any ts) e
    conjuncts-true (node choice ts) e = itself (node choice ts) e
    conjuncts-true (node (select x) ts) e = itself (node (select x) ts) e
    conjuncts-true (node subscript ts) e = itself (node subscript ts) e
    conjuncts-true (node (call x) ts) e = itself (node (call x) ts) e
    conjuncts-true (node list ts) e = itself (node list ts) e
    conjuncts-true (frame f) e = itself (frame f) e

    conjuncts_of_all-true : (ts : Trees) → All IsTrueResult (results_by at w p ts) → All IsTrueAt (conjuncts_of_all ts)
    conjuncts_of_all-true none h = All-nil IsTrueAt
    conjuncts_of_all-true (more t ts) h =
        All-append IsTrueAt (conjuncts t) (conjuncts_of_all ts) (conjuncts-true t (first-true (value_by at w p t) (results_by at w p ts) h))
        (conjuncts_of_all-true ts (All-tail IsTrueResult (value_by at w p t) (results_by at w p ts) h))
