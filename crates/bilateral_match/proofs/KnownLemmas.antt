-- An expression that an ad settles has one value beside it for all requests, and so has a rank by that expression.
use Rattle.std.proofs.Common.{◌≡◌, ◌<◌, ◌+◌, ◌-◌, ℕ, ℤ, pos, zero, suc, Bool, true, false}
use Rattle.std.proofs.Common.{not, ◌&&◌, List, [], ◌∷◌, All, drop, eqb, get_or, length, set, slice_get}
use Rattle.std.proofs.Common.{Option, None, Some, is_some, swap_remove, IfSome, if◌then◌else◌, refl, ap, sym, ◌∙◌, subst, arith}
use Rattle.std.specs.Prelude.{codes, option_map, unwrap_or}
use Rattle.std.specs.Option.{option_and_then, option_map_or}
use Rattle.std.proofs.lemmas.Bool.Decides.{nat_tests}
use Rattle.std.proofs.lemmas.List.Elements.{All-get_or, All-set, All-take}
use Rattle.pool_text.specs.declared.language.AdPlace.{AdPlace}
use Rattle.pool_text.specs.declared.language.Pos.{Pos}
use Rattle.ad_value.specs.Plain.{Plain, error}
use Rattle.ad_tree.specs.declared.tree.Scope.{Scope}
use Rattle.ad_tree.specs.Enclosing.{expr_named}
use Rattle.ad_tree.specs.Frames.{Frame, expr_at}
use Rattle.ad_tree.specs.Special.{attribute_named}
use Rattle.ad_tree.specs.Tree.{Label, Tree, Trees, all, any, binary, call, choice, frame, list, literal, more, name, node, none, pack, select, subscript, unary}
use Rattle.ad_tree.proofs.TreeLemmas.{pack-drop}
use Rattle.ad_store.specs.Stock.{Advert}
use Rattle.conjunct_plan.specs.Decided.{counted}
use Rattle.eval_scope.specs.Look.{find, first_found, in_frame}
use Rattle.eval_scope.specs.World.{PlainWorld, expr_of, frame_of_attribute}
use Rattle.ad_eval.specs.Dock.{attribute_of, rank_number}
use Rattle.ad_eval.specs.Node.{named, node_value}
use Rattle.ad_eval.specs.Value.{evaluation_at, results_by, value_at, value_by}
use Rattle.dock_match.specs.Docks.{pair_world, rank_of_dock}
use Rattle.dock_match.specs.Pool.{Pool}
use Rattle.dock_match.proofs.FindLemmas.{finds-alone, named-counted}
use Rattle.bilateral_match.specs.Known.{AreRanks, are_settled, is_known_below, is_rank_settled, is_settled, is_settled_label, known_at, rank_expr}
use Rattle.bilateral_match.specs.Members.{as_member, is_member, member_with}
use Rattle.bilateral_match.specs.Scan.{member_above, member_at, reaches}

both-true : (b c : Bool) → (b && c) ≡ true → (b ≡ true) × (c ≡ true)
both-true true c e = (refl, e)
both-true false c e = absurd (cc)

-- the root of the request, and that of the ad docked to it
abbrev root : AdPlace
root = record { ad = 0; frame = 0 }

abbrev resource : AdPlace
resource = record { ad = 1; frame = 0 }

module _ (moment : ℕ) (a b ad : List Frame) where
  abbrev w : PlainWorld
  w = pair_world moment a ad

  abbrev v : PlainWorld
  v = pair_world moment b ad

  -- ---- an attribute of the ad that is a literal, or absent

  name-same : (n : ℕ) (x : List ℕ) → is_some (counted (expr_named ad 0 x)) ≡ true
      → named (value_at (suc n) w) (find w root Scope.Target x) ≡ named (value_at (suc n) v) (find v root Scope.Target x)
  name-same n x some = by (counted (expr_named ad 0 x)) refl some
    where
      by : (o : Option Plain) → counted (expr_named ad 0 x) ≡ o → is_some o ≡ true
          → named (value_at (suc n) w) (find w root Scope.Target x) ≡ named (value_at (suc n) v) (find v root Scope.Target x)
      by None e some = absurd (cc)
      by (Some p) e some =
          named-counted w n (first_found w x (in_frame resource ∷ [])) (expr_named ad 0 x) p (finds-alone w resource x) e
          ∙ sym (named-counted v n (first_found v x (in_frame resource ∷ [])) (expr_named ad 0 x) p (finds-alone v resource x) e)

  -- ---- values

  node-same : (n : ℕ) (label : Label) (rs : List (Option Plain)) → is_settled_label ad label ≡ true
      → node_value (value_at (suc n) w) w root label rs ≡ node_value (value_at (suc n) v) v root label rs
  node-same n (literal lit) rs s = refl
  node-same n (name Scope.Target x) rs s = name-same n x s
  node-same n (name Scope.Bare x) rs s = absurd (cc)
  node-same n (name Scope.My x) rs s = absurd (cc)
  node-same n (unary op) [] s = refl
  node-same n (unary op) (x ∷ []) s = refl
  node-same n (unary op) (x ∷ y ∷ rs) s = refl
  node-same n (binary op) [] s = refl
  node-same n (binary op) (x ∷ []) s = refl
  node-same n (binary op) (x ∷ y ∷ []) s = refl
  node-same n (binary op) (x ∷ y ∷ z ∷ rs) s = refl
  node-same n all rs s = refl
  node-same n any rs s = refl
  node-same n choice rs s = refl
  node-same n (select x) rs s = absurd (cc)
  node-same n subscript rs s = absurd (cc)
  node-same n (call x) rs s = absurd (cc)
  node-same n list rs s = absurd (cc)

  mutual
    by-same : (n : ℕ) (t : Tree) → is_settled ad t ≡ true → value_by (value_at (suc n) w) w root t ≡ value_by (value_at (suc n) v) v root t
    by-same n (node label ts) s =
        let halves = both-true (is_settled_label ad label) (are_settled ad ts) s in
        ap (node_value (value_at (suc n) w) w root label) (results-same n ts halves.1)
        ∙ node-same n label (results_by (value_at (suc n) v) v root ts) halves.0
    by-same n (frame f) s = absurd (cc)

    results-same : (n : ℕ) (ts : Trees) → are_settled ad ts ≡ true
        → results_by (value_at (suc n) w) w root ts ≡ results_by (value_at (suc n) v) v root ts
    results-same n none s = refl
    results-same n (more t ts) s =
        let halves = both-true (is_settled ad t) (are_settled ad ts) s in
        ap (λ r. r ∷ results_by (value_at (suc n) w) w root ts) (by-same n t halves.0)
        ∙ ap (λ rs. value_by (value_at (suc n) v) v root t ∷ rs) (results-same n ts halves.1)

-- ---- ranks

-- the number that an expression gives as a rank, with the references that are left behind that to the rank
abbrev number : PlainWorld → Tree → ℤ
number w expr = rank_number (unwrap_or (value_by (value_at 23 w) w root expr) error)

module _ (moment : ℕ) (a ad : List Frame) where
  value-is : (n : ℕ) (s : Pos)
      → value_at (suc n) (pair_world moment a ad) s ≡ option_and_then (value_by (value_at n (pair_world moment a ad)) (pair_world moment a ad)
      (frame_of_attribute s)) (expr_of (pair_world moment a ad) s)
  unfolding value_at
  value-is n s = refl

  rank-is : (expr : Tree) → rank_expr a ≡ Some expr → rank_of_dock moment a ad ≡ number (pair_world moment a ad) expr
  rank-is expr is = by (attribute_named a 0 (codes "Rank")) refl is
    where
      by : (o : Option ℕ) → attribute_named a 0 (codes "Rank") ≡ o → option_and_then (λ k. expr_at a 0 k) o ≡ Some expr
          → rank_of_dock moment a ad ≡ number (pair_world moment a ad) expr
      by None e is = absurd (cc)
      by (Some k) e is =
          ap (λ (o : Option ℕ). option_map_or (λ k. rank_number (evaluation_at (pair_world moment a ad) (attribute_of root k))) o (pos 0)) e
          ∙ ap (λ (o : Option Plain). rank_number (unwrap_or o error)) (value-is 23 (attribute_of root k))
          ∙ ap (λ (o : Option Tree). rank_number (unwrap_or (option_and_then (value_by (value_at 23 (pair_world moment a ad)) (pair_world moment a ad) root)
          o) error)) is

-- two requests with the same rank expression give an ad that settles it the same rank
pub rank-same : (moment : ℕ) (a b ad : List Frame) (expr : Option Tree) → rank_expr a ≡ expr → rank_expr b ≡ expr → is_rank_settled ad expr ≡ true
    → rank_of_dock moment a ad ≡ rank_of_dock moment b ad
rank-same moment a b ad None here there settled = absurd (cc)
rank-same moment a b ad (Some expr) here there settled =
    rank-is moment a ad expr here
    ∙ ap (λ (o : Option Plain). rank_number (unwrap_or o error)) (by-same moment a b ad 22 expr settled)
    ∙ sym (rank-is moment b ad expr there)

-- ---- expressions one after another

-- those from a place on are settled where the first of them is, and those behind it
pub settled-at : (ad : List Frame) (ts : List Tree) (k : ℕ) (t : Tree) (b : Bool) → slice_get ts k ≡ Some t → b ≡ is_settled ad t
    → are_settled ad (pack (drop k ts)) ≡ (b && are_settled ad (pack (drop (k + 1) ts)))
settled-at ad ts k t b at is = ap (are_settled ad) (pack-drop ts k t at) ∙ ap (λ (c : Bool). c && are_settled ad (pack (drop (k + 1) ts))) (sym is)

-- ---- lists of ranks

module _ {X : Type 0} where
  set-here : (xs : List X) (k : ℕ) (x y : X) → slice_get (set xs k x) k ≡ Some y → y ≡ x
  set-here [] k x y e = absurd (cc)
  set-here (z ∷ xs) zero x y e = cc
  set-here (z ∷ xs) (suc k) x y e = set-here xs k x y e

  set-there : (xs : List X) (k i : ℕ) (x : X) → eqb k i ≡ false → slice_get (set xs k x) i ≡ slice_get xs i
  set-there [] k i x apart = refl
  set-there (z ∷ xs) zero zero x apart = absurd (cc)
  set-there (z ∷ xs) zero (suc i) x apart = refl
  set-there (z ∷ xs) (suc k) zero x apart = refl
  set-there (z ∷ xs) (suc k) (suc i) x apart = set-there xs k i x (grind (arith, nat_tests))

-- ranks with one that a request gives an ad that settles it
module _ (moment : ℕ) (ads : List Advert) (expr : Option Tree) (ranks : List (Option ℤ)) (place : ℕ) (r : ℤ) (request ad : List Frame)
    (are : AreRanks moment ads expr ranks) where
  pub one-noted : option_map (λ (a : Advert). a.ad) (slice_get ads place) ≡ Some ad → r ≡ rank_of_dock moment request ad → rank_expr request ≡ expr
      → is_rank_settled ad expr ≡ true → AreRanks moment ads expr (set ranks place (Some r))
  one-noted at is same settled q rank advert there within other alike = by (eqb place q) refl
    where
      by : (b : Bool) → eqb place q ≡ b → rank_of_dock moment other advert.ad ≡ rank
      by false apart = are q rank advert (sym (set-there ranks place q (Some r) apart) ∙ there) within other alike
      by true equal =
          let here : place ≡ q = grind (arith, nat_tests) in
          let ranked : slice_get (set ranks place (Some r)) place ≡ Some (Some rank) = ap (slice_get (set ranks place (Some r))) here ∙ there in
          let found : Some advert.ad ≡ Some ad = sym (ap (option_map (λ (a : Advert). a.ad)) (ap (slice_get ads) here ∙ within)) ∙ at in
          let ad-is : advert.ad ≡ ad = cc in
          let rank-is : Some rank ≡ Some r = set-here ranks place (Some r) (Some rank) ranked in
          ap (rank_of_dock moment other) ad-is ∙ rank-same moment other request ad expr alike same settled ∙ sym is ∙ cc

-- a rank that is noted
pub noted : (moment : ℕ) (ads : List Advert) (expr : Option Tree) (ranks : List (Option ℤ)) (place : ℕ) (rank : Option ℤ) (request ad : List Frame)
    → AreRanks moment ads expr ranks
    → option_map (λ (a : Advert). a.ad) (slice_get ads place) ≡ Some ad → IfSome rank (λ n. n ≡ rank_of_dock moment request ad)
    → is_some rank ≡ true → rank_expr request ≡ expr
    → is_rank_settled ad expr ≡ true → AreRanks moment ads expr (set ranks place rank)
noted moment ads expr ranks place None request ad are at is some same settled = absurd (cc)
noted moment ads expr ranks place (Some r) request ad are at is some same settled = one-noted moment ads expr ranks place r request ad are at is same settled

-- a resource whose rank is known not to reach the bar is no member above it
module _ (pool : Pool) (request : List Frame) (number place : ℕ) (bar : Option ℤ) where
  low : (advert : Advert) (rank : ℤ) → rank_of_dock pool.moment request advert.ad ≡ rank → not (reaches bar rank) ≡ true
      → None ≡ member_above bar (member_with pool request number place advert)
  low advert rank is under = by (is_member pool request number place advert) (reaches bar rank) refl under
    where
      by : (member high : Bool) → reaches bar rank ≡ high → not high ≡ true
          → None ≡ member_above bar (if member then Some (as_member pool request place advert) else None)
      by member true e under = absurd (cc)
      by false false e under = refl
      by true false e under = sym (ap (λ (c : Bool). if c then Some (as_member pool request place advert) else None) (ap (reaches bar) is ∙ e))

  pub below-known : (ranks : List (Option ℤ)) → AreRanks pool.moment pool.ads (rank_expr request) ranks
      → is_known_below bar (known_at ranks place) ≡ true
      → None ≡ member_above bar (member_at pool request number place)
  below-known ranks are under = by (slice_get ranks place) (slice_get pool.ads place) refl refl under
    where
      by : (known : Option (Option ℤ)) (there : Option Advert) → slice_get ranks place ≡ known → slice_get pool.ads place ≡ there
          → is_known_below bar (option_and_then (λ rank. rank) known) ≡ true
          → None ≡ member_above bar (option_and_then (member_with pool request number place) there)
      by None there e at under = absurd (cc)
      by (Some None) there e at under = absurd (cc)
      by (Some (Some rank)) None e at under = refl
      by (Some (Some rank)) (Some advert) e at under = low advert rank (are place rank advert e at request refl) under

-- a rank that is known is that of the dock
pub known-is : (moment : ℕ) (ads : List Advert) (request ad : List Frame) (ranks : List (Option ℤ)) (place : ℕ) (known : Option ℤ)
    → AreRanks moment ads (rank_expr request) ranks
    → option_map (λ (a : Advert). a.ad) (slice_get ads place) ≡ Some ad → known ≡ known_at ranks place
    → IfSome known (λ n. n ≡ rank_of_dock moment request ad)
known-is moment ads request ad ranks place known are at is =
    subst (λ (o : Option ℤ). IfSome o (λ n. n ≡ rank_of_dock moment request ad)) (sym is) (by (slice_get ranks place) (slice_get ads place) refl refl at)
  where
    by : (o : Option (Option ℤ)) (there : Option Advert) → slice_get ranks place ≡ o → slice_get ads place ≡ there
        → option_map (λ (a : Advert). a.ad) there ≡ Some ad
        → IfSome (option_and_then (λ rank. rank) o) (λ n. n ≡ rank_of_dock moment request ad)
    by None there e within at = tt
    by (Some None) there e within at = tt
    by (Some (Some rank)) None e within at = absurd (cc)
    by (Some (Some rank)) (Some advert) e within at =
        let same : advert.ad ≡ ad = cc in
        sym (are place rank advert e within request refl) ∙ ap (rank_of_dock moment request) same

-- ---- what is remembered

-- what holds of all entries holds of those that are left when the last takes the place of one
pub All-swap_remove : {X : Type 0} (P : X → Type 0) (xs : List X) (k : ℕ) (x : X) → k < length xs → All P xs → All P (swap_remove xs k x)
All-swap_remove P xs k x within each =
    All-take P (length xs - 1) (set xs k (get_or xs (length xs - 1) x))
    (All-set P xs k (get_or xs (length xs - 1) x) (All-get_or P xs (length xs - 1) x (omega arith) each) each)
