-- A guard from attribute to attribute.
use Rattle.std.proofs.Common.{◌≡◌, ◌≢◌, ◌≤◌, ◌<◌, ◌+◌, ℕ, zero, suc, Bool, true, false, not}
use Rattle.std.proofs.Common.{◌&&◌, ◌==◌, refl, List, [], ◌∷◌, ◌++◌, length, drop, get_or, set}
use Rattle.std.proofs.Common.{position, nat_lt, Option, Some, None, IsSome, cond, ap, sym, ◌∙◌, subst, arith, ◌⊎◌, inl, inr}
use Rattle.std.specs.Option.{option_or}
use Rattle.std.specs.List.{position_or_len, refill}
use Rattle.std.proofs.lemmas.Bool.Decides.{nat_tests}
use Rattle.std.proofs.lemmas.List.{take-append-le, take_all}
use Rattle.pool_text.specs.declared.language.Pos.{Pos}
use Rattle.ad_value.specs.Plain.{plain}
use Rattle.cycle_guard.specs.declared.guard.Entry.{Entry}
use Rattle.cycle_guard.specs.declared.guard.Kept.{Kept}
use Rattle.cycle_guard.specs.Sights.{unseen, pending, done, same_pos}
use Rattle.cycle_guard.specs.Shown.{entry_of, key_of, same_key, sight_of_entry}

-- ---- one attribute or another

both : (a b : Bool) → (a && b) ≡ true → (a ≡ true) × (b ≡ true)
both true true h = (refl, refl)
both true false h = cc
both false b h = cc

pub same_pos-equal : (a b : Pos) → same_pos a b ≡ true → a ≡ b
same_pos-equal a b h =
    let first = both (a.ad == b.ad) (a.frame == b.frame && a.attr == b.attr) h in
    let rest = both (a.frame == b.frame) (a.attr == b.attr) first.1 in
    let ads : a.ad ≡ b.ad = grind (arith, nat_tests, first.0) in
    let frames : a.frame ≡ b.frame = grind (arith, nat_tests, rest.0) in
    let attrs : a.attr ≡ b.attr = grind (arith, nat_tests, rest.1) in
    λ i. record { ad = ads i; frame = frames i; attr = attrs i }

pub same_pos-itself : (a : Pos) → same_pos a a ≡ true
same_pos-itself a = grind (arith, nat_tests)

and-both : (a b c : Bool) → (a && b && c) ≡ (a && (b && c))
and-both true b c = refl
and-both false b c = refl

-- keys are one where attributes are
pub same_key-same_pos : (a b : Pos) → same_key (key_of a) (key_of b) ≡ same_pos a b
same_key-same_pos a b = and-both (a.ad == b.ad) (a.frame == b.frame) (a.attr == b.attr)

-- two attributes are equal, or apart
pub same_pos-cases : (a b : Pos) → ((same_pos a b ≡ true) × (a ≡ b)) ⊎ ((same_pos a b ≡ false) × (a ≢ b))
same_pos-cases a b = by (same_pos a b) refl
  where
    by : (t : Bool) → same_pos a b ≡ t → ((same_pos a b ≡ true) × (a ≡ b)) ⊎ ((same_pos a b ≡ false) × (a ≢ b))
    by true e = inl (e, same_pos-equal a b e)
    by false e = inr (e, λ same. let itself : same_pos a b ≡ true = subst (λ x. same_pos a x ≡ true) same (same_pos-itself a) in absurd (cc))

-- ---- entries

-- the first entry of an attribute is what entries have of it
pub entry_of-first : (es : List Entry) (q : Pos) (i : ℕ) (d : Entry) → i < length es → same_pos (get_or es i d).pos q ≡ true
    → ((k : ℕ) → k < i → same_pos (get_or es k d).pos q ≡ false) → entry_of es q ≡ Some (get_or es i d).kept
entry_of-first [] q i d within here before = absurd (omega arith)
entry_of-first (e ∷ es) q zero d within here before = ap (λ t. cond t (Some e.kept) (entry_of es q)) here
entry_of-first (e ∷ es) q (suc i) d within here before =
    ap (λ t. cond t (Some e.kept) (entry_of es q)) (before zero (omega arith))
    ∙ entry_of-first es q i d (omega arith) here (λ k h. before (suc k) (omega arith))

-- no entry of an attribute
past-None : (a b : ℕ) → cond (nat_lt a b) (Some a) None ≡ None → b ≤ a
past-None a b none = by (nat_lt a b) refl
  where
    by : (t : Bool) → nat_lt a b ≡ t → b ≤ a
    by true e = absurd (cc (ap (λ t. cond t (Some a) None) e))
    by false e = grind (arith, nat_tests, e)

prefix-one : (t : Bool) (n : ℕ) → cond (not t) (1 + n) 0 ≡ cond t 0 (1 + n)
prefix-one true n = refl
prefix-one false n = refl

entry_of-past : (es : List Entry) (q : Pos) → length es ≤ position_or_len (λ e. same_pos e.pos q) es → entry_of es q ≡ None
entry_of-past [] q past = refl
entry_of-past (e ∷ es) q past =
    by (same_pos e.pos q) (rw (prefix-one (same_pos e.pos q) (position_or_len (λ e. same_pos e.pos q) es)) at past) (λ more. entry_of-past es q more)
  where
    by : (t : Bool) → length (e ∷ es) ≤ cond t 0 (1 + position_or_len (λ e. same_pos e.pos q) es)
        → (length es ≤ position_or_len (λ e. same_pos e.pos q) es → entry_of es q ≡ None) → cond t (Some e.kept) (entry_of es q) ≡ None
    by true past more = absurd (omega arith)
    by false past more = more (omega arith)

pub entry_of-none : (es : List Entry) (q : Pos) → position (λ e. same_pos e.pos q) es ≡ None → entry_of es q ≡ None
entry_of-none es q none = entry_of-past es q (past-None (position_or_len (λ e. same_pos e.pos q) es) (length es) none)

-- the value of the first entry is kept
choose-kept : (x : Entry) (rest : Option (Option Kept)) (pos q : Pos) (kept : Option Kept) → x.pos ≡ pos
    → cond (same_pos x.pos q) (Some kept) rest ≡ cond (same_pos pos q) (Some kept) (cond (same_pos x.pos q) (Some x.kept) rest)
choose-kept x rest pos q kept same =
    subst (λ p. cond (same_pos x.pos q) (Some kept) rest ≡ cond (same_pos p q) (Some kept) (cond (same_pos x.pos q) (Some x.kept) rest)) same
    (by (same_pos x.pos q))
  where
    by : (t : Bool) → cond t (Some kept) rest ≡ cond t (Some kept) (cond t (Some x.kept) rest)
    by true = refl
    by false = refl

pass-kept : (x : Entry) (rest : Option (Option Kept)) (pos q : Pos) (kept : Option Kept) → same_pos x.pos pos ≡ false
    → cond (same_pos x.pos q) (Some x.kept) (cond (same_pos pos q) (Some kept) rest)
    ≡ cond (same_pos pos q) (Some kept) (cond (same_pos x.pos q) (Some x.kept) rest)
pass-kept x rest pos q kept apart = by (same_pos-cases pos q)
  where
    by : ((same_pos pos q ≡ true) × (pos ≡ q)) ⊎ ((same_pos pos q ≡ false) × (pos ≢ q))
        → cond (same_pos x.pos q) (Some x.kept) (cond (same_pos pos q) (Some kept) rest)
        ≡ cond (same_pos pos q) (Some kept) (cond (same_pos x.pos q) (Some x.kept) rest)
    by (inl same) =
        let other : same_pos x.pos q ≡ false = subst (λ p. same_pos x.pos p ≡ false) same.1 apart in
        rw (other, same.0) refl
    by (inr other) = rw other.0 refl

pub entry_of-kept : (es : List Entry) (i : ℕ) (e d : Entry) (pos q : Pos) (kept : Option Kept) → i < length es → e ≡ get_or es i d → e.pos ≡ pos
    → ((k : ℕ) → k < i → same_pos (get_or es k d).pos pos ≡ false)
    → entry_of (set es i (record { pos = e.pos; kept = kept })) q ≡ cond (same_pos pos q) (Some kept) (entry_of es q)
entry_of-kept [] i e d pos q kept within read same before = absurd (omega arith)
entry_of-kept (x ∷ xs) zero e d pos q kept within read same before =
    let there : x.pos ≡ pos = ap (λ (y : Entry). y.pos) (sym read) ∙ same in
    ap (λ (y : Entry). cond (same_pos y.pos q) (Some kept) (entry_of xs q)) read
    ∙ choose-kept x (entry_of xs q) pos q kept there
entry_of-kept (x ∷ xs) (suc i) e d pos q kept within read same before =
    ap (cond (same_pos x.pos q) (Some x.kept)) (entry_of-kept xs i e d pos q kept (omega arith) read same (λ k h. before (suc k) (omega arith)))
    ∙ pass-kept x (entry_of xs q) pos q kept (before zero (omega arith))

-- one more entry
push-choice : (x : Entry) (more all : Option (Option Kept)) (q : Pos) (last : Option (Option Kept)) → more ≡ option_or all last
    → cond (same_pos x.pos q) (Some x.kept) more ≡ option_or (cond (same_pos x.pos q) (Some x.kept) all) last
push-choice x more all q last rest = by (same_pos x.pos q)
  where
    by : (t : Bool) → cond t (Some x.kept) more ≡ option_or (cond t (Some x.kept) all) last
    by true = refl
    by false = rest

pub entry_of-pushed : (es : List Entry) (e : Entry) (q : Pos)
    → entry_of (es ++ e ∷ []) q ≡ option_or (entry_of es q) (cond (same_pos e.pos q) (Some e.kept) None)
entry_of-pushed [] e q = refl
entry_of-pushed (x ∷ xs) e q = push-choice x (entry_of (xs ++ e ∷ []) q) (entry_of xs q) q (cond (same_pos e.pos q) (Some e.kept) None) (entry_of-pushed xs e q)

-- ---- sights

pub unseen-None : (o : Option (Option Kept)) → sight_of_entry o ≡ unseen → o ≡ None
unseen-None None e = refl
unseen-None (Some None) e = cc
unseen-None (Some (Some kept)) e = cc

option_or-with_None : {A : Type 0} (a : Option A) → option_or a None ≡ a
option_or-with_None None = refl
option_or-with_None (Some a) = refl

pub option_or-None : {A : Type 0} (a b : Option A) → option_or a b ≡ None → (a ≡ None) × (b ≡ None)
option_or-None None b e = (refl, e)
option_or-None (Some a) b e = absurd (cc)

-- what stands for an attribute after it is entered among the entries, or in the map
module _ (o m : Option (Option Kept)) (pos q : Pos) where
  pub entered_first : (pos ≡ q → sight_of_entry (option_or o m) ≡ unseen)
      → sight_of_entry (option_or (option_or o (cond (same_pos pos q) (Some None) None)) m) ≡ cond (same_pos pos q) pending (sight_of_entry (option_or o m))
  entered_first fresh = by (same_pos-cases pos q)
    where
      by : ((same_pos pos q ≡ true) × (pos ≡ q)) ⊎ ((same_pos pos q ≡ false) × (pos ≢ q))
          → sight_of_entry (option_or (option_or o (cond (same_pos pos q) (Some None) None)) m) ≡ cond (same_pos pos q) pending (sight_of_entry (option_or o m))
      by (inl same) =
          let none = (option_or-None o m (unseen-None (option_or o m) (fresh same.1))).0 in
          rw (same.0, none) refl
      by (inr other) = rw other.0 (ap (λ (x : Option (Option Kept)). sight_of_entry (option_or x m)) (option_or-with_None o))

  pub entered_other : (pos ≡ q → sight_of_entry (option_or o m) ≡ unseen)
      → sight_of_entry (option_or o (cond (same_pos pos q) (Some None) m)) ≡ cond (same_pos pos q) pending (sight_of_entry (option_or o m))
  entered_other fresh = by (same_pos-cases pos q)
    where
      by : ((same_pos pos q ≡ true) × (pos ≡ q)) ⊎ ((same_pos pos q ≡ false) × (pos ≢ q))
          → sight_of_entry (option_or o (cond (same_pos pos q) (Some None) m)) ≡ cond (same_pos pos q) pending (sight_of_entry (option_or o m))
      by (inl same) =
          let none = (option_or-None o m (unseen-None (option_or o m) (fresh same.1))).0 in
          rw (same.0, none) refl
      by (inr other) = rw other.0 refl

module _ (o m : Option (Option Kept)) (pos q : Pos) (kept : Kept) where
  pub kept_first : sight_of_entry (option_or (cond (same_pos pos q) (Some (Some kept)) o) m)
      ≡ cond (same_pos pos q) (done (plain kept.value) kept.height) (sight_of_entry (option_or o m))
  kept_first = by (same_pos pos q)
    where
      by : (t : Bool)
          → sight_of_entry (option_or (cond t (Some (Some kept)) o) m) ≡ cond t (done (plain kept.value) kept.height) (sight_of_entry (option_or o m))
      by true = refl
      by false = refl

  pub kept_other : (pos ≡ q → o ≡ None)
      → sight_of_entry (option_or o (cond (same_pos pos q) (Some (Some kept)) m))
      ≡ cond (same_pos pos q) (done (plain kept.value) kept.height) (sight_of_entry (option_or o m))
  kept_other absent = by (same_pos-cases pos q)
    where
      by : ((same_pos pos q ≡ true) × (pos ≡ q)) ⊎ ((same_pos pos q ≡ false) × (pos ≢ q))
          → sight_of_entry (option_or o (cond (same_pos pos q) (Some (Some kept)) m))
          ≡ cond (same_pos pos q) (done (plain kept.value) kept.height) (sight_of_entry (option_or o m))
      by (inl same) = rw (same.0, absent same.1) refl
      by (inr other) = rw other.0 refl

-- entries written over by as many
pub refill-same : {X : Type 0} (n : ℕ) (xs ws : List X) → length ws ≡ n → refill n xs ws ≡ ws
refill-same n xs ws same =
    let past : n ≤ length ws = omega arith in
    take-append-le n ws (drop (length ws) xs) past ∙ take_all n ws (omega arith)

-- what is pending, and isn't among the entries, is in the map
pub pending-other : (o m : Option (Option Kept)) → o ≡ None → sight_of_entry (option_or o m) ≡ pending → IsSome m
pending-other o None none waits =
    let sight : sight_of_entry (option_or o None) ≡ unseen = rw none refl in
    absurd (cc)
pending-other o (Some kept) none waits = refl
