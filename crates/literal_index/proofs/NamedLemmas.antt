-- The attribute of a name, and what a test says of an ad by it.
use Rattle.std.proofs.Common.{refl, arith, ◌≡◌, ◌∙◌, ap, sym, true≢false, ℕ, suc, ◌+◌, Bool, true, false, not, ◌&&◌, ◌||◌, cond, List, [], ◌∷◌, map, filter}
use Rattle.std.proofs.Common.{length, Option, None, Some, option_map, slice_get, nat_lt, one-add}
use Rattle.std.specs.Prelude.{position, bytes_eq}
use Rattle.std.specs.List.{position_or_len}
use Rattle.std.specs.Option.{option_and_then, option_map_or, option_or}
use Rattle.std.proofs.lemmas.Slice.Eq.{bytes_eq-Decides}
use Rattle.pool_text.specs.declared.language.Lit.{Lit}
use Rattle.pool_text.specs.Folding.{folded}
use Rattle.ad_tree.specs.Tree.{Tree, node, literal}
use Rattle.ad_tree.specs.Names.{same_name, has_name, are_apart}
use Rattle.ad_tree.specs.Frames.{attributes_at, names_of}
use Rattle.ad_tree.specs.Enclosing.{expr_named}
use Rattle.ad_value.specs.Logic.{is_true}
use Rattle.conjunct_plan.specs.declared.test.Test.{Test}
use Rattle.conjunct_plan.specs.Decided.{asked, counted, value_with}
use Rattle.literal_index.specs.declared.entry.Entry.{Entry}
use Rattle.literal_index.specs.declared.place.Place.{Place}
use Rattle.literal_index.specs.Rows.{Row, passes}
use Rattle.literal_index.specs.Entries.{entry_of, holds_with, literal_of, place_of}

-- the expression of the first attribute of a name
abbrev pub first_named : List ℕ → List (List ℕ × Tree) → Option Tree
first_named n [] = None
first_named n (a ∷ attrs) = cond (same_name n a.0) (Some a.1) (first_named n attrs)

-- that is what the name has in the frame
named : (n : List ℕ) (attrs : List (List ℕ × Tree))
    → option_and_then (λ k. option_map (λ a. a.1) (slice_get attrs k)) (position (same_name n) (names_of attrs)) ≡ first_named n attrs
named n [] = refl
named n (a ∷ attrs) = by (named n attrs) (same_name n a.0) refl
  where
    at : ℕ → Option Tree
    at k = option_map (λ b. b.1) (slice_get (a ∷ attrs) k)

    rest : ℕ
    rest = position_or_len (same_name n) (names_of attrs)

    first : (len : ℕ) → nat_lt 0 (suc len) ≡ true
    first len = grind arith

    more : (m len : ℕ) → nat_lt (1 + m) (suc len) ≡ nat_lt m len
    more m len = grind arith

    behind : (m : ℕ) → slice_get (a ∷ attrs) (1 + m) ≡ slice_get attrs m
    behind m = ap (slice_get (a ∷ attrs)) (one-add m)

    step : (m len : ℕ) (b : Bool) → nat_lt m len ≡ b
        → option_and_then at (cond (nat_lt (1 + m) (suc len)) (Some (1 + m)) None)
        ≡ option_and_then (λ k. option_map (λ b. b.1) (slice_get attrs k)) (cond (nat_lt m len) (Some m) None)
    step m len true e =
        ap (λ b. option_and_then at (cond b (Some (1 + m)) None)) (more m len ∙ e) ∙ ap (option_map (λ b. b.1)) (behind m)
        ∙ sym (ap (λ b. option_and_then (λ k. option_map (λ b. b.1) (slice_get attrs k)) (cond b (Some m) None)) e)
    step m len false e =
        ap (λ b. option_and_then at (cond b (Some (1 + m)) None)) (more m len ∙ e)
        ∙ sym (ap (λ b. option_and_then (λ k. option_map (λ b. b.1) (slice_get attrs k)) (cond b (Some m) None)) e)

    by : option_and_then (λ k. option_map (λ b. b.1) (slice_get attrs k)) (position (same_name n) (names_of attrs)) ≡ first_named n attrs → (b : Bool)
        → same_name n a.0 ≡ b
        → option_and_then at (position (same_name n) (a.0 ∷ names_of attrs)) ≡ cond (same_name n a.0) (Some a.1) (first_named n attrs)
    by others true e =
        ap (λ b. option_and_then at (cond (nat_lt (cond (not b) (1 + rest) 0) (length (a.0 ∷ names_of attrs))) (Some (cond (not b) (1 + rest) 0)) None)) e
        ∙ ap (λ b. option_and_then at (cond b (Some 0) None)) (first (length (names_of attrs)))
        ∙ sym (ap (λ b. cond b (Some a.1) (first_named n attrs)) e)
    by others false e =
        ap (λ b. option_and_then at (cond (nat_lt (cond (not b) (1 + rest) 0) (length (a.0 ∷ names_of attrs))) (Some (cond (not b) (1 + rest) 0)) None)) e
        ∙ step rest (length (names_of attrs)) (nat_lt rest (length (names_of attrs))) refl
        ∙ others
        ∙ sym (ap (λ b. cond b (Some a.1) (first_named n attrs)) e)

-- a literal, or none, doesn't decide against the test
abbrev pub keeps : Test → Option Lit → Bool
keeps test None = true
keeps test (Some lit) = holds_with test lit

-- an ad isn't decided against where its attribute keeps it, or, if it has none, where the test is true of Undefined
passes_found : (test : Test) (found : Option Tree)
    → not (option_map_or (λ value. not (is_true value)) (option_map (value_with test) (counted (option_or found None))) false)
    ≡ option_map_or (λ t. keeps test (literal_of t)) found (holds_with test Lit.Undefined)
passes_found test None = notnot (holds_with test Lit.Undefined)
  where
    notnot : (b : Bool) → not (not b) ≡ b
    notnot true = refl
    notnot false = refl
passes_found test (Some (node (literal lit) ts)) = notnot (holds_with test lit)
  where
    notnot : (b : Bool) → not (not b) ≡ b
    notnot true = refl
    notnot false = refl
passes_found test (Some t) = refl

pub passes-named : (test : Test) (row : Row)
    → passes test row ≡ option_map_or (λ t. keeps test (literal_of t)) (first_named (asked test) (attributes_at row.ad 0)) (holds_with test Lit.Undefined)
passes-named test row =
    passes_found test (expr_named row.ad 0 (asked test))
    ∙ ap (λ found. option_map_or (λ t. keeps test (literal_of t)) found (holds_with test Lit.Undefined)) (named (asked test) (attributes_at row.ad 0))

-- ---- names apart

pub bytes_same : (a b : List ℕ) → bytes_eq a b ≡ true → a ≡ b
bytes_same a b e = (bytes_eq-Decides a b).0 e

has-along : (n m : List ℕ) (names : List (List ℕ)) → folded n ≡ folded m → has_name n names ≡ has_name m names
has-along n m [] e = refl
has-along n m (other ∷ names) e = ap (λ b. b || has_name n names) (ap (bytes_eq (folded other)) e) ∙ ap (λ b. same_name other m || b) (has-along n m names e)

-- ---- what is kept of an ad's attributes

-- the entries of attributes of the ad under a slot, the first of which has place k, before others
abbrev pub entries_onto : ℕ → ℕ → List (List ℕ × Tree) → List (Place × Entry) → List (Place × Entry)
entries_onto slot k [] rest = rest
entries_onto slot k (a ∷ attrs) rest = (place_of slot k a, entry_of a) ∷ entries_onto slot (suc k) attrs rest

-- the attribute is the one of this name, and its literal keeps its ad
abbrev pub is_kept : List ℕ → (Option Lit → Bool) → Entry → Bool
is_kept n keep entry = keep entry.literal && same_name n entry.name

abbrev pub kept_slots : List ℕ → (Option Lit → Bool) → List (Place × Entry) → List ℕ
kept_slots n keep entries = map (λ e. e.0.slot) (filter (λ e. is_kept n keep e.1) entries)

module _ (n : List ℕ) (keep : Option Lit → Bool) (slot : ℕ) (rest : List (Place × Entry)) where
  no_and : (b : Bool) → (b && false) ≡ false
  no_and true = refl
  no_and false = refl

  yes_and : (b : Bool) → (b && true) ≡ b
  yes_and true = refl
  yes_and false = refl

  flip : (a b : List ℕ) → bytes_eq a b ≡ false → bytes_eq b a ≡ false
  flip a b e = by (bytes_eq b a) refl
    where
      by : (c : Bool) → bytes_eq b a ≡ c → bytes_eq b a ≡ false
      by false h = h
      by true h = absurd (true≢false (sym ((bytes_eq-Decides a b).1 (sym (bytes_same b a h))) ∙ e))

  -- none of the attributes has the name
  kept-none : (k : ℕ) (attrs : List (List ℕ × Tree)) → has_name n (names_of attrs) ≡ false
      → kept_slots n keep (entries_onto slot k attrs rest) ≡ kept_slots n keep rest
  kept-none k [] none = refl
  kept-none k (a ∷ attrs) none = by (kept-none (suc k) attrs) (same_name a.0 n) refl
    where
      by : (has_name n (names_of attrs) ≡ false → kept_slots n keep (entries_onto slot (suc k) attrs rest) ≡ kept_slots n keep rest) → (b : Bool)
          → same_name a.0 n ≡ b
          → kept_slots n keep (entries_onto slot k (a ∷ attrs) rest) ≡ kept_slots n keep rest
      by others true e = absurd (true≢false (sym (ap (λ b. b || has_name n (names_of attrs)) e) ∙ none))
      by others false e =
          ap (λ b. map (λ x. x.0.slot) (cond b ((place_of slot k a, entry_of a) ∷ filter (λ x. is_kept n keep x.1) (entries_onto slot (suc k) attrs rest))
          (filter (λ x. is_kept n keep x.1) (entries_onto slot (suc k) attrs rest))))
          (ap (λ b. keep (literal_of a.1) && b) (flip (folded a.0) (folded n) e) ∙ no_and (keep (literal_of a.1)))
          ∙ others (sym (ap (λ b. b || has_name n (names_of attrs)) e) ∙ none)

  -- one at most has it
  pub kept-apart : (k : ℕ) (attrs : List (List ℕ × Tree)) → are_apart (names_of attrs) ≡ true
      → kept_slots n keep (entries_onto slot k attrs rest)
      ≡ cond (option_map_or (λ t. keep (literal_of t)) (first_named n attrs) false) (slot ∷ kept_slots n keep rest) (kept_slots n keep rest)
  kept-apart k [] apart = refl
  kept-apart k (a ∷ attrs) apart = by (kept-apart (suc k) attrs) (same_name n a.0) refl (has_name a.0 (names_of attrs)) refl
    where
      shown : Bool → List ℕ
      shown b =
          map (λ x. x.0.slot) (cond b ((place_of slot k a, entry_of a) ∷ filter (λ x. is_kept n keep x.1) (entries_onto slot (suc k) attrs rest))
          (filter (λ x. is_kept n keep x.1) (entries_onto slot (suc k) attrs rest)))

      chosen : (c : Bool) → kept_slots n keep (entries_onto slot (suc k) attrs rest) ≡ kept_slots n keep rest
          → shown c ≡ cond c (slot ∷ kept_slots n keep rest) (kept_slots n keep rest)
      chosen true e = ap (λ slots. slot ∷ slots) e
      chosen false e = e

      by : (are_apart (names_of attrs) ≡ true
          → kept_slots n keep (entries_onto slot (suc k) attrs rest)
          ≡ cond (option_map_or (λ t. keep (literal_of t)) (first_named n attrs) false) (slot ∷ kept_slots n keep rest) (kept_slots n keep rest))
          → (b : Bool) → same_name n a.0 ≡ b → (c : Bool) → has_name a.0 (names_of attrs) ≡ c
          → shown (keep (literal_of a.1) && same_name n a.0)
          ≡ cond (option_map_or (λ t. keep (literal_of t)) (cond (same_name n a.0) (Some a.1) (first_named n attrs)) false) (slot ∷ kept_slots n keep rest)
          (kept_slots n keep rest)
      by others b e true h = absurd (true≢false (sym apart ∙ ap (λ c. not c && are_apart (names_of attrs)) h))
      by others true e false h =
          ap (λ b. shown (keep (literal_of a.1) && b)) e
          ∙ ap shown (yes_and (keep (literal_of a.1)))
          ∙ chosen (keep (literal_of a.1)) (kept-none (suc k) attrs (has-along n a.0 (names_of attrs) (bytes_same (folded n) (folded a.0) e) ∙ h))
          ∙ sym (ap (λ b. cond (option_map_or (λ t. keep (literal_of t)) (cond b (Some a.1) (first_named n attrs)) false) (slot ∷ kept_slots n keep rest)
          (kept_slots n keep rest)) e)
      by others false e false h =
          ap (λ b. shown (keep (literal_of a.1) && b)) e
          ∙ ap shown (no_and (keep (literal_of a.1)))
          ∙ others (sym (ap (λ c. not c && are_apart (names_of attrs)) h) ∙ apart)
          ∙ sym (ap (λ b. cond (option_map_or (λ t. keep (literal_of t)) (cond b (Some a.1) (first_named n attrs)) false) (slot ∷ kept_slots n keep rest)
          (kept_slots n keep rest)) e)
