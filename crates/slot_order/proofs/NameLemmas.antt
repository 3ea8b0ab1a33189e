-- Look-ups by name.
use Rattle.std.proofs.Common.{◌≡◌, ℕ, Bool, true, false, cond, List, [], ◌∷◌, Option, None, Some, Vec, bytes_eq, refl, sym, ◌∙◌, ap}
use Rattle.std.specs.declared.alloc.Global.{Global}
use Rattle.std.specs.declared.collections.btree_map.BTreeMap.{BTreeMap}
use Rattle.std.specs.Map.{KeepsOthers, lookup}
use Rattle.std.specs.Ordering.{eq_by_cmp, nat_cmp}
use Rattle.std.specs.Cmp.Lexicographic.{slice_cmp}
use Rattle.std.specs.BTreeMap.{get, is_at}
use Rattle.std.specs.Option.{option_or}
use Rattle.std.proofs.lemmas.Map.Text.{is_eq-slice_cmp}
use Rattle.std.proofs.lemmas.Slice.Eq.{bytes_eq-Decides}
use Rattle.pool_text.specs.Digests.{name_digest}
use Rattle.slot_order.specs.declared.names.NamedSlot.{NamedSlot}
use Rattle.slot_order.specs.Names.{first_at, has_other, slot_if}

-- a key
abbrev pub Key : Type 0
Key = Vec ℕ Global

lookup-same : (one other : Key → Bool) → ((key : Key) → one key ≡ other key) → (entries : List (Key × ℕ)) → lookup one entries ≡ lookup other entries
lookup-same one other same [] = refl
lookup-same one other same (e ∷ entries) =
    ap (λ b. cond b (Some e.1) (lookup one entries)) (same e.0) ∙ ap (cond (other e.0) (Some e.1)) (lookup-same one other same entries)

-- a name is found by comparing
pub asked : (name : List ℕ) (entries : List (Key × ℕ))
    → lookup (is_at (λ key. slice_cmp nat_cmp name key.items)) entries ≡ lookup (λ key. bytes_eq name key.items) entries
asked name entries =
    lookup-same (is_at (λ key. slice_cmp nat_cmp name key.items)) (λ key. bytes_eq name key.items) (λ key. is_eq-slice_cmp name key.items) entries

module _ (name : List ℕ) (slot : Option ℕ) (old new : List (Key × ℕ)) where
  pub turns : lookup (is_at (λ key. slice_cmp nat_cmp name key.items)) new ≡ slot
      → KeepsOthers (eq_by_cmp (λ a b. slice_cmp nat_cmp a.items b.items)) (is_at (λ key. slice_cmp nat_cmp name key.items)) old new
      → (other : List ℕ) → lookup (λ key. bytes_eq other key.items) new ≡ cond (bytes_eq name other) slot (lookup (λ key. bytes_eq other key.items) old)
  unfolding KeepsOthers
  turns is keeps other = by (bytes_eq name other) refl
    where
      key_test : (x y : Key) → bytes_eq other x.items ≡ true → bytes_eq other y.items ≡ eq_by_cmp (λ a b. slice_cmp nat_cmp a.items b.items) x y
      key_test x y passes = ap (λ n. bytes_eq n y.items) ((bytes_eq-Decides other x.items).0 passes) ∙ sym (is_eq-slice_cmp x.items y.items)

      apart : bytes_eq name other ≡ false → (key : Key) → is_at (λ k. slice_cmp nat_cmp name k.items) key ≡ true → bytes_eq other key.items ≡ false
      apart differs key passes = tested (bytes_eq other key.items) refl
        where
          tested : (b : Bool) → bytes_eq other key.items ≡ b → b ≡ false
          tested false tells = refl
          tested true tells =
              let same : name ≡ other =
              (bytes_eq-Decides name key.items).0 (sym (is_eq-slice_cmp name key.items) ∙ passes) ∙ sym ((bytes_eq-Decides other key.items).0 tells) in
              let equal = (bytes_eq-Decides name other).1 same in
              absurd (cc)

      by : (b : Bool) → bytes_eq name other ≡ b → lookup (λ key. bytes_eq other key.items) new ≡ cond b slot (lookup (λ key. bytes_eq other key.items) old)
      by true tells = ap (λ n. lookup (λ key. bytes_eq n key.items) new) (sym ((bytes_eq-Decides name other).0 tells)) ∙ sym (asked name new) ∙ is
      by false tells = keeps (λ key. bytes_eq other key.items) key_test (apart tells)

-- ---- names that stand under their digests

pub no_first : (first other : Option ℕ) → first ≡ None → option_or first other ≡ other
no_first first other none = ap (λ f. option_or f other) none

none-other : (name : List ℕ) (there : Option NamedSlot) → has_other name there ≡ true → slot_if name there ≡ None
none-other name None is = refl
none-other name (Some first) is = by (bytes_eq name first.name.items) refl
  where
    by : (b : Bool) → bytes_eq name first.name.items ≡ b → slot_if name (Some first) ≡ None
    by false differs = ap (λ c. cond c (Some first.slot) None) differs
    by true same = absurd (cc)

-- a name goes behind another one that has its digest
pub goes_behind : (firsts : BTreeMap ℕ NamedSlot Global) (name : List ℕ) (slot was : Option ℕ) (other : List ℕ)
    → has_other name (get nat_cmp firsts (name_digest name)) ≡ true
    → option_or (first_at firsts other) (cond (bytes_eq name other) slot was) ≡ cond (bytes_eq name other) slot (option_or (first_at firsts other) was)
goes_behind firsts name slot was other taken = by (bytes_eq name other) refl
  where
    by : (b : Bool) → bytes_eq name other ≡ b → option_or (first_at firsts other) (cond b slot was) ≡ cond b slot (option_or (first_at firsts other) was)
    by false differs = refl
    by true same =
        no_first (first_at firsts other) slot
        (ap (first_at firsts) (sym ((bytes_eq-Decides name other).0 same)) ∙ none-other name (get nat_cmp firsts (name_digest name)) taken)

pub both_gone : (b : Bool) (first other : Option ℕ) → option_or (cond b None first) (cond b None other) ≡ cond b None (option_or first other)
both_gone true first other = refl
both_gone false first other = refl
