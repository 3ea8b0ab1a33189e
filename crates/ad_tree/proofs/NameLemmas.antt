-- Laws of names that are apart.
use Rattle.std.proofs.Common.{refl, ◌≡◌, ℕ, List, [], ◌∷◌, ◌++◌, Bool, true, false, not, ◌&&◌, ◌||◌, bytes_eq, ap}
use Rattle.std.proofs.lemmas.Bool.Decides.{Decides-eqb}
use Rattle.std.proofs.lemmas.Slice.Eq.{slice_eq-Decides}
use Rattle.pool_text.specs.Folding.{folded}
use Rattle.ad_tree.specs.Names.{same_name, has_name}

-- both parts of a test that holds
pub both_left : (a b : Bool) → (a && b) ≡ true → a ≡ true
both_left true b h = refl
both_left false b h = absurd (cc)

pub both_right : (a b : Bool) → (a && b) ≡ true → b ≡ true
both_right true b h = h
both_right false b h = absurd (cc)

pub both : (a b : Bool) → a ≡ true → b ≡ true → (a && b) ≡ true
both true b h k = k
both false b h k = absurd (cc)

pub not_true : (a : Bool) → not a ≡ true → a ≡ false
not_true true h = absurd (cc)
not_true false h = refl

-- the parts of a choice that fails
pub neither_left : (a b : Bool) → (a || b) ≡ false → a ≡ false
neither_left true b h = absurd (cc)
neither_left false b h = refl

pub neither_right : (a b : Bool) → (a || b) ≡ false → b ≡ false
neither_right true b h = absurd (cc)
neither_right false b h = h

pub neither : (a b : Bool) → a ≡ false → b ≡ false → (a || b) ≡ false
neither true b h k = absurd (cc)
neither false b h k = k

-- equal names have one folded form
pub same_folded_form : (a b : List ℕ) → same_name a b ≡ true → folded a ≡ folded b
same_folded_form a b h = (slice_eq-Decides Decides-eqb (folded a) (folded b) (same_name a b) refl).0 h

-- so they are equal to the same names
pub same_name-along : (a b c : List ℕ) → same_name a b ≡ true → same_name c a ≡ same_name c b
same_name-along a b c h = ap (λ f. bytes_eq (folded c) f) (same_folded_form a b h)

pub same_name-along_left : (a b c : List ℕ) → same_name a b ≡ true → same_name a c ≡ same_name b c
same_name-along_left a b c h = ap (λ f. bytes_eq f (folded c)) (same_folded_form a b h)

-- a name beside more names
pub has_name-append : (name : List ℕ) (ns ms : List (List ℕ)) → has_name name (ns ++ ms) ≡ (has_name name ns || has_name name ms)
has_name-append name [] ms = refl
has_name-append name (n ∷ ns) ms = by (same_name n name) (has_name-append name ns ms)
  where
    by : (b : Bool) → has_name name (ns ++ ms) ≡ (has_name name ns || has_name name ms)
        → (b || has_name name (ns ++ ms)) ≡ ((b || has_name name ns) || has_name name ms)
    by true e = refl
    by false e = e
