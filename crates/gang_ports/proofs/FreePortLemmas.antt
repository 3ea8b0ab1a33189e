-- A free port: no expression of the request has the label of a port before it, so that its docks are the same behind all prefixes of one length.
use Rattle.std.proofs.Common.{◌≡◌, ◌<◌, ℕ, zero, suc, Bool, true, false, ◌||◌, not, refl, List, [], ◌∷◌, ◌++◌, length, map, take}
use Rattle.std.proofs.Common.{Option, None, Some, option_map, slice_get, unwrap_or, ap, sym, ◌∙◌, arith}
use Rattle.std.specs.List.{list_any}
use Rattle.ad_tree.specs.Frames.{Frame, attributes_in, expr_at}
use Rattle.ad_tree.specs.Tree.{Tree}
use Rattle.ad_tree.specs.declared.request.Port.{Port}
use Rattle.eval_scope.specs.World.{frames_of_ad}
use Rattle.dock_match.specs.Pool.{Pool}
use Rattle.gang_ports.specs.FreePorts.{is_free_port, is_referred, refers}
use Rattle.gang_ports.specs.Gangs.{ad_at, choice_of, gang_world}
use Rattle.gang_ports.proofs.AlikeLemmas.{dock-same, rank-same}
use Rattle.gang_ports.proofs.DockLemmas.{get-last}
use Rattle.gang_ports.proofs.ListLemmas.{length-mapped, length-more, map-more}

not-true : (b : Bool) → not b ≡ true → b ≡ false
not-true true e = absurd (cc)
not-true false e = refl

-- an item of a list of which none passes a test
none-passes : {X : Type 0} (p : X → Bool) (xs : List X) (k : ℕ) (x : X) → list_any p xs ≡ false → slice_get xs k ≡ Some x → p x ≡ false
none-passes p [] k x none at = absurd (cc)
none-passes p (y ∷ xs) zero x none at = let same : y ≡ x = cc in sym (ap p same) ∙ first (p y) (list_any p xs) none
  where
    first : (a b : Bool) → (a || b) ≡ false → a ≡ false
    first true b e = absurd (cc)
    first false b e = refl
none-passes p (y ∷ xs) (suc k) x none at = none-passes p xs k x (rest (p y) (list_any p xs) none) at
  where
    rest : (a b : Bool) → (a || b) ≡ false → b ≡ false
    rest true b e = absurd (cc)
    rest false b e = e

get-take : {X : Type 0} (xs : List X) (i j : ℕ) (x : X) → j < i → slice_get xs j ≡ Some x → slice_get (take i xs) j ≡ Some x
get-take [] i j x low at = absurd (cc)
get-take (y ∷ xs) zero j x low at = absurd (omega (arith, low))
get-take (y ∷ xs) (suc i) zero x low at = at
get-take (y ∷ xs) (suc i) (suc j) x low at = get-take xs i j x (omega (arith, low)) at

-- an expression of an attribute
expr-unnamed : (request : List Frame) (label : List ℕ) → is_referred request label ≡ false → (f k : ℕ) (t : Tree) → expr_at request f k ≡ Some t
    → refers label t ≡ false
expr-unnamed request label none f k t at = by (slice_get request f) refl at
  where
    attribute : (attributes : List (List ℕ × Tree)) → list_any (λ a. refers label a.1) attributes ≡ false → (o : Option (List ℕ × Tree))
        → slice_get attributes k ≡ o → option_map (λ a. a.1) o ≡ Some t → refers label t ≡ false
    attribute attributes unnamed None e is = absurd (cc)
    attribute attributes unnamed (Some a) e is =
        let same : a.1 ≡ t = cc in sym (ap (refers label) same) ∙ none-passes (λ (b : List ℕ × Tree). refers label b.1) attributes k a unnamed e

    by : (o : Option Frame) → slice_get request f ≡ o → option_map (λ a. a.1) (slice_get (attributes_in o) k) ≡ Some t → refers label t ≡ false
    by None e is = absurd (cc)
    by (Some g) e is =
        attribute g.attributes (none-passes (λ (h : Frame). list_any (λ a. refers label a.1) h.attributes) request f g none e) (slice_get g.attributes k) refl
        is

module _ (pool : Pool) (request : List Frame) (ports : List Port) (before others : List ℕ) (place : ℕ) (many : length others ≡ length before)
    (free : is_free_port request ports (length before) ≡ true) where
  unnamed : (f k : ℕ) (t : Tree) → expr_at request f k ≡ Some t → (j : ℕ) (port : Port) → j < length before → slice_get ports j ≡ Some port
      → refers port.label t ≡ false
  unfolding is_free_port
  unnamed f k t at j port low is =
      expr-unnamed request port.label
      (none-passes (λ (p : Port). is_referred request p.label) (take (length before) ports) j port
      (not-true (list_any (λ (p : Port). is_referred request p.label) (take (length before) ports)) free) (get-take ports (length before) j port low is))
      f k t at

  docked-many : (places : List ℕ) → length places ≡ length before → length (map (ad_at pool) (places ++ place ∷ [])) ≡ suc (length before)
  docked-many places same = length-mapped (ad_at pool) (places ++ place ∷ []) ∙ length-more places place ∙ ap suc same

  last-is : (places : List ℕ) → length places ≡ length before
      → frames_of_ad (gang_world pool request ports (places ++ place ∷ [])) (suc (length before)) ≡ ad_at pool place
  last-is places same =
      let docked = map (ad_at pool) places in
      let long : length docked ≡ length before = length-mapped (ad_at pool) places ∙ same in
      ap (λ (ads : List (List Frame)). unwrap_or (slice_get ads (length before)) []) (map-more (ad_at pool) places place)
      ∙ ap (λ (n : ℕ). unwrap_or (slice_get (docked ++ ad_at pool place ∷ []) n) []) (sym long)
      ∙ ap (λ (o : Option (List Frame)). unwrap_or o []) (get-last docked (ad_at pool place))

  one : length (map (ad_at pool) (others ++ place ∷ [])) ≡ suc (length before)
  one = docked-many others many

  other : length (map (ad_at pool) (before ++ place ∷ [])) ≡ suc (length before)
  other = docked-many before refl

  same-last : frames_of_ad (gang_world pool request ports (others ++ place ∷ [])) (suc (length before))
      ≡ frames_of_ad (gang_world pool request ports (before ++ place ∷ [])) (suc (length before))
  same-last = last-is others many ∙ sym (last-is before refl)

  pub free-dock : (choice_of pool request ports).dock others place ≡ (choice_of pool request ports).dock before place
  free-dock =
      dock-same pool.moment request ports (length before) (map (ad_at pool) (others ++ place ∷ [])) (map (ad_at pool) (before ++ place ∷ [])) one other
      same-last unnamed

  pub free-rank : (choice_of pool request ports).rank others place ≡ (choice_of pool request ports).rank before place
  free-rank =
      rank-same pool.moment request ports (length before) (map (ad_at pool) (others ++ place ∷ [])) (map (ad_at pool) (before ++ place ∷ [])) one other
      same-last unnamed
