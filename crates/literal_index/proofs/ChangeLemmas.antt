-- Attributes put in and taken out one after another.
use Rattle.std.proofs.Common.{refl, arith, ◌≡◌, ◌≢◌, ◌<◌, ◌≤◌, ◌∙◌, ap, sym, ℕ, ◌+◌}
use Rattle.std.proofs.Common.{Bool, true, false, ◌&&◌, ◌||◌, cond, List, Option, None, Some, option_map}
use Rattle.std.proofs.Common.{slice_get, nat_lt}
use Rattle.std.specs.Option.{option_map_or}
use Rattle.std.specs.BTreeMap.{BTreeMap, get, is_at}
use Rattle.ad_tree.specs.Tree.{Tree}
use Rattle.literal_index.specs.declared.place.Place.{Place}
use Rattle.literal_index.specs.declared.entry.Entry.{Entry}
use Rattle.literal_index.specs.Entries.{entry_of, is_place, place_of}
use Rattle.literal_index.specs.Order.{place_order}
use Rattle.literal_index.specs.Changes.{HasPut, HasPutOne, HasTaken, IsSame, is_place_below}
use Rattle.literal_index.proofs.Orders.{at_place}

-- an attribute is its name with its expression
pub attribute : (o : Option (List ℕ × Tree)) (name : List ℕ) (t : Tree) → option_map (λ a. a.0) o ≡ Some name → option_map (λ a. a.1) o ≡ Some t
    → o ≡ Some (name, t)
attribute None name t n e = absurd (cc)
attribute (Some a) name t n e = let left : a.0 ≡ name = cc in let right : a.1 ≡ t = cc in ap (λ x. Some (x, a.1)) left ∙ ap (λ y. Some (name, y)) right

not_less : (i j : ℕ) → j ≤ i → nat_lt i j ≡ false
not_less i j h = grind arith

less : (i j : ℕ) → i < j → nat_lt i j ≡ true
less i j h = grind arith

module _ (slot k : ℕ) (attrs : List (List ℕ × Tree)) (a : List ℕ × Tree) (is : slice_get attrs k ≡ Some a) where
  -- one more attribute
  pub below-more : (q : Place) → is_place_below (k + 1) slot attrs q ≡ (is_at (place_order (place_of slot k a)) q || is_place_below k slot attrs q)
  below-more q = by (nat_lt q.attr k) (nat_lt k q.attr) refl refl
    where
      here : q.attr ≡ k → is_place slot attrs q ≡ is_at (place_order (place_of slot k a)) q
      here e =
          ap (λ i. option_map_or (λ b. is_at (place_order (place_of slot i b)) q) (slice_get attrs i) false) e
          ∙ ap (λ o. option_map_or (λ b. is_at (place_order (place_of slot k b)) q) o false) is

      apart : q.attr ≢ k → is_at (place_order (place_of slot k a)) q ≡ false
      apart ne = no (is_at (place_order (place_of slot k a)) q) refl
        where
          no : (b : Bool) → is_at (place_order (place_of slot k a)) q ≡ b → is_at (place_order (place_of slot k a)) q ≡ false
          no false e = e
          no true e = absurd (ne (sym (ap (λ p. p.attr) (at_place (place_of slot k a) q e))))

      or_false : (b : Bool) → (b || false) ≡ b
      or_false true = refl
      or_false false = refl

      by : (below above : Bool) → nat_lt q.attr k ≡ below → nat_lt k q.attr ≡ above
          → is_place_below (k + 1) slot attrs q ≡ (is_at (place_order (place_of slot k a)) q || is_place_below k slot attrs q)
      by true above l g =
          ap (λ b. b && is_place slot attrs q) (less q.attr (k + 1) (grind arith))
          ∙ sym (ap (λ b. b || is_place_below k slot attrs q) (apart (grind arith)) ∙ ap (λ b. b && is_place slot attrs q) l)
      by false true l g =
          ap (λ b. b && is_place slot attrs q) (not_less q.attr (k + 1) (grind arith))
          ∙ sym (ap (λ b. b || is_place_below k slot attrs q) (apart (grind arith)) ∙ ap (λ b. b && is_place slot attrs q) l)
      by false false l g =
          let same : q.attr ≡ k = grind arith in
          ap (λ b. b && is_place slot attrs q) (less q.attr (k + 1) (omega arith))
          ∙ here same
          ∙ sym (ap (λ b. is_at (place_order (place_of slot k a)) q || (b && is_place slot attrs q)) l ∙ or_false (is_at (place_order (place_of slot k a)) q))

  -- what stands at its place
  pub stands : (q : Place) → is_at (place_order (place_of slot k a)) q ≡ true → option_map entry_of (slice_get attrs q.attr) ≡ Some (entry_of a)
  stands q e = ap (option_map entry_of) (ap (slice_get attrs) (sym (ap (λ p. p.attr) (at_place (place_of slot k a) q e))) ∙ is)

  pub taken-more : (m n p : BTreeMap Place Entry) → HasTaken k slot attrs m n
      → ((q : Place) → get place_order p q ≡ cond (is_at (place_order (place_of slot k a)) q) None (get place_order n q)) → HasTaken (k + 1) slot attrs m p
  taken-more m n p before taken q =
      taken q ∙ by (is_at (place_order (place_of slot k a)) q) refl ∙ sym (ap (λ b. cond b None (get place_order m q)) (below-more q))
    where
      by : (b : Bool) → is_at (place_order (place_of slot k a)) q ≡ b
          → cond (is_at (place_order (place_of slot k a)) q) None (get place_order n q)
          ≡ cond (is_at (place_order (place_of slot k a)) q || is_place_below k slot attrs q) None (get place_order m q)
      by true e = ap (λ b. cond b None (get place_order n q)) e ∙ sym (ap (λ b. cond (b || is_place_below k slot attrs q) None (get place_order m q)) e)
      by false e =
          ap (λ b. cond b None (get place_order n q)) e ∙ before q ∙ sym (ap (λ b. cond (b || is_place_below k slot attrs q) None (get place_order m q)) e)

  pub put-more : (m n p : BTreeMap Place Entry) → HasPut k slot attrs m n → HasPutOne slot k a n p → HasPut (k + 1) slot attrs m p
  put-more m n p before put q =
      put q ∙ by (is_at (place_order (place_of slot k a)) q) refl
      ∙ sym (ap (λ b. cond b (option_map entry_of (slice_get attrs q.attr)) (get place_order m q)) (below-more q))
    where
      by : (b : Bool) → is_at (place_order (place_of slot k a)) q ≡ b
          → cond (is_at (place_order (place_of slot k a)) q) (Some (entry_of a)) (get place_order n q)
          ≡ cond (is_at (place_order (place_of slot k a)) q || is_place_below k slot attrs q) (option_map entry_of (slice_get attrs q.attr))
          (get place_order m q)
      by true e =
          ap (λ b. cond b (Some (entry_of a)) (get place_order n q)) e
          ∙ sym (stands q e)
          ∙ sym (ap (λ b. cond (b || is_place_below k slot attrs q) (option_map entry_of (slice_get attrs q.attr)) (get place_order m q)) e)
      by false e =
          ap (λ b. cond b (Some (entry_of a)) (get place_order n q)) e
          ∙ before q
          ∙ sym (ap (λ b. cond (b || is_place_below k slot attrs q) (option_map entry_of (slice_get attrs q.attr)) (get place_order m q)) e)

-- what was put in and taken out again leaves all as it was, where nothing stood at those places
pub undone : (n slot : ℕ) (attrs : List (List ℕ × Tree)) (m p r : BTreeMap Place Entry) → HasPut n slot attrs m p → HasTaken n slot attrs p r
    → ((q : Place) → is_place slot attrs q ≡ true → get place_order m q ≡ None) → IsSame m r
undone n slot attrs m p r put taken empty q = taken q ∙ by (nat_lt q.attr n) (is_place slot attrs q) refl refl
  where
    by : (low here : Bool) → nat_lt q.attr n ≡ low → is_place slot attrs q ≡ here
        → cond (is_place_below n slot attrs q) None (get place_order p q) ≡ get place_order m q
    by true true l h =
        ap (λ b. cond (b && is_place slot attrs q) None (get place_order p q)) l ∙ ap (λ b. cond b None (get place_order p q)) h ∙ sym (empty q h)
    by true false l h =
        ap (λ b. cond (b && is_place slot attrs q) None (get place_order p q)) l
        ∙ ap (λ b. cond b None (get place_order p q)) h
        ∙ put q
        ∙ ap (λ b. cond (b && is_place slot attrs q) (option_map entry_of (slice_get attrs q.attr)) (get place_order m q)) l
        ∙ ap (λ b. cond b (option_map entry_of (slice_get attrs q.attr)) (get place_order m q)) h
    by false here l h =
        ap (λ b. cond (b && is_place slot attrs q) None (get place_order p q)) l
        ∙ put q
        ∙ ap (λ b. cond (b && is_place slot attrs q) (option_map entry_of (slice_get attrs q.attr)) (get place_order m q)) l
