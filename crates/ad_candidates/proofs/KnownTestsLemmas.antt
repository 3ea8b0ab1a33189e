-- What is known of tests stays so when more is noted.
use Rattle.std.proofs.Common.{◌≡◌, ◌<◌, ℕ, Bool, true, false, if◌then◌else◌, List, [], ◌∷◌, ◌++◌, All, length, nat_lt, remove}
use Rattle.std.proofs.Common.{get_or, sym, subst}
use Rattle.std.proofs.lemmas.List.Elements.{All-append, All-cons, All-nil, All-tail}
use Rattle.ad_candidates.specs.KnownTests.{with_room}

module _ {X : Type 0} (P : X → Type 0) where
  All-rest : (xs : List X) → All P xs → All P (remove xs 0)
  All-rest [] all = all
  All-rest (x ∷ xs) all = All-tail P x xs all

  pub All-room : (xs : List X) → All P xs → All P (with_room xs)
  All-room xs all = by (nat_lt (length xs) 64)
    where
      by : (b : Bool) → All P (if b then xs else remove xs 0)
      by true = all
      by false = All-rest xs all

  -- one more item, in place of the oldest where the list is full
  pub All-room-more : (xs : List X) (x : X) → All P xs → P x → All P (with_room xs ++ x ∷ [])
  All-room-more xs x all one = All-append P (with_room xs) (x ∷ []) (All-room xs all) (All-cons P x [] one (All-nil P))

  -- what is so of all items is so of that at a place
  pub All-at : (xs ys : List X) (i : ℕ) (x : X) → All P xs → ys ≡ xs → i < length ys → x ≡ get_or ys i x → P x
  All-at xs ys i x all same within is = subst P (sym is) (subst (All P) (sym same) all i x within)
