-- `is` is equality of plain values.
use Rattle.std.proofs.Common.{◌≡◌, ◌≢◌, ℕ, suc, ◌+◌, Bool, true, false, ◌&&◌, ◌==◌, List, [], ◌∷◌, length, drop, slice_get, Some, refl, sym, ap, ◌∙◌, add-one}
use Rattle.std.proofs.Common.{arith}
use Rattle.std.proofs.Math.Seq.{drop-cons}
use Rattle.std.proofs.lemmas.Option.{slice_get_within, get_or_from_slice_get}
use Rattle.std.specs.Cmp.{booleans_Decides, signed_Decides}
use Rattle.std.specs.Cmp.Lexicographic.{bytes_decides}
use Rattle.std.proofs.lemmas.Bool.Decides.{nat_tests}
use Rattle.pool_text.specs.declared.language.AdPlace.{AdPlace}
use Rattle.ad_value.specs.Plain.{Plain, undefined, error, boolean, integer, decimal, text, list, ad_at, Plains, no_plains, plain_then, plains_of}
use Rattle.ad_value.specs.Operators.{is_same, are_same}

both : (a b : Bool) → (a && b) ≡ true → (a ≡ true) × (b ≡ true)
both true true h = (refl, refl)
both true false h = cc
both false b h = cc

same_place : (a b : AdPlace) → (a.ad == b.ad && a.frame == b.frame) ≡ true → a ≡ b
same_place a b h =
    let parts = both (a.ad == b.ad) (a.frame == b.frame) h in
    let ads : a.ad ≡ b.ad = grind (arith, nat_tests, parts.0) in
    let frames : a.frame ≡ b.frame = grind (arith, nat_tests, parts.1) in
    λ i. record { ad = ads i; frame = frames i }

same_place-itself : (a : AdPlace) → (a.ad == a.ad && a.frame == a.frame) ≡ true
same_place-itself a = grind (arith, nat_tests)

and-false : (a : Bool) → (a && false) ≡ false
and-false true = refl
and-false false = refl

-- lists of different lengths are never the same
pub are_same-lengths : (one other : List Plain) → length one ≢ length other → are_same (plains_of one) (plains_of other) ≡ false
are_same-lengths [] [] differ = absurd (differ refl)
are_same-lengths [] (b ∷ others) differ = refl
are_same-lengths (a ∷ more) [] differ = refl
are_same-lengths (a ∷ more) (b ∷ others) differ =
    rw (are_same-lengths more others (λ e. differ (ap suc e))) (and-false (is_same a b))

mutual
  pub is_same-equal : (a b : Plain) → is_same a b ≡ true → a ≡ b
  is_same-equal undefined undefined same = refl
  is_same-equal error error same = refl
  is_same-equal (boolean a) (boolean b) same = ap boolean ((booleans_Decides a b).0 same)
  is_same-equal (integer a) (integer b) same = ap integer ((signed_Decides a b).0 same)
  is_same-equal (decimal a) (decimal b) same = ap decimal ((signed_Decides a b).0 same)
  is_same-equal (text a) (text b) same = ap text ((bytes_decides a b).0 same)
  is_same-equal (list a) (list b) same = ap list (are_same-equal a b same)
  is_same-equal (ad_at a) (ad_at b) same = ap ad_at (same_place a b same)
  is_same-equal a b same = cc

  pub are_same-equal : (a b : Plains) → are_same a b ≡ true → a ≡ b
  are_same-equal no_plains no_plains same = refl
  are_same-equal (plain_then a more) (plain_then b others) same =
      let parts = both (is_same a b) (are_same more others) same in
      let first : a ≡ b = is_same-equal a b parts.0 in
      let rest : more ≡ others = are_same-equal more others parts.1 in
      cc
  are_same-equal a b same = cc

mutual
  pub is_same-itself : (a : Plain) → is_same a a ≡ true
  is_same-itself undefined = refl
  is_same-itself error = refl
  is_same-itself (boolean a) = (booleans_Decides a a).1 refl
  is_same-itself (integer a) = (signed_Decides a a).1 refl
  is_same-itself (decimal a) = (signed_Decides a a).1 refl
  is_same-itself (text a) = (bytes_decides a a).1 refl
  is_same-itself (list a) = are_same-itself a
  is_same-itself (ad_at a) = same_place-itself a

  pub are_same-itself : (a : Plains) → are_same a a ≡ true
  are_same-itself no_plains = refl
  are_same-itself (plain_then a more) = rw (is_same-itself a) (are_same-itself more)

pub is_same-symmetric : (a b : Plain) → is_same a b ≡ true → is_same b a ≡ true
is_same-symmetric a b same = rw (is_same-equal a b same) (is_same-itself b)

pub is_same-transitive : (a b c : Plain) → is_same a b ≡ true → is_same b c ≡ true → is_same a c ≡ true
is_same-transitive a b c first second = rw (is_same-equal a b first) second

-- what is left of two lists at a place, by the elements there
module _ (one other : List Plain) (i : ℕ) (a b : Plain) (here : slice_get one i ≡ Some a) (there : slice_get other i ≡ Some b) (whole : Bool)
    (left : are_same (plains_of (drop i one)) (plains_of (drop i other)) ≡ whole) where
  drop_at : (ps : List Plain) (p : Plain) → slice_get ps i ≡ Some p → drop i ps ≡ p ∷ drop (i + 1) ps
  drop_at ps p found =
      let within = slice_get_within ps i p found in
      rw add-one (drop-cons ps i p within ∙ ap (λ q. q ∷ drop (suc i) ps) (get_or_from_slice_get ps i p p found))

  by_elements : (is_same a b && are_same (plains_of (drop (i + 1) one)) (plains_of (drop (i + 1) other))) ≡ whole
  by_elements =
      sym (ap (λ l. are_same (plains_of l) (plains_of (drop i other))) (drop_at one a here)
      ∙ ap (λ l. are_same (plains_of (a ∷ drop (i + 1) one)) (plains_of l)) (drop_at other b there))
      ∙ left

  pub are_same-differ : is_same a b ≡ false → false ≡ whole
  are_same-differ differ = sym (ap (λ t. t && are_same (plains_of (drop (i + 1) one)) (plains_of (drop (i + 1) other))) differ) ∙ by_elements

  pub are_same-more : is_same a b ≡ true → are_same (plains_of (drop (i + 1) one)) (plains_of (drop (i + 1) other)) ≡ whole
  are_same-more same = sym (ap (λ t. t && are_same (plains_of (drop (i + 1) one)) (plains_of (drop (i + 1) other))) same) ∙ by_elements
