-- Entries without repeats, in another order.
use Rattle.std.proofs.Common.{refl, ◌≡◌, ◌∙◌, ap, sym, subst, Bool, true, false, cond, List, [], ◌∷◌, None, Some, IsPermutation}
use Rattle.std.specs.List.{IsDistinct, AllByRecursion}
use Rattle.std.specs.Map.{lookup, keys_of, remove_entry}
use Rattle.std.specs.Cmp.{IsEquivalence}
use Rattle.std.proofs.lemmas.List.Sorted.{IsPermutation-cons, IsPermutation-middle, IsPermutation-refl, IsPermutation-sym, IsPermutation-trans}
use Rattle.std.proofs.lemmas.Map.{lookup-remove_entry}
use Rattle.std.proofs.lemmas.Map.Keys.{IsDistinct-tail}

module _ {K X : Type 0} (R : K → K → Bool) (laws : IsEquivalence R) (exact : (x y : K) → R x y ≡ true → x ≡ y) where
  all-without : (P : K → Type 0) (test : K → Bool) (es : List (K × X)) → AllByRecursion P (keys_of es) → AllByRecursion P (keys_of (remove_entry test es))
  all-without P test [] h = tt
  all-without P test (e ∷ es) h = by (all-without P test es h.1) (test e.0)
    where
      by : AllByRecursion P (keys_of (remove_entry test es)) → (b : Bool) → AllByRecursion P (keys_of (cond b es (e ∷ remove_entry test es)))
      by rest true = h.1
      by rest false = (h.0, rest)

  distinct-without : (test : K → Bool) (es : List (K × X)) → IsDistinct R (keys_of es) → IsDistinct R (keys_of (remove_entry test es))
  unfolding IsDistinct
  distinct-without test [] h = tt
  distinct-without test (e ∷ es) h = by (distinct-without test es h.1) (test e.0)
    where
      by : IsDistinct R (keys_of (remove_entry test es)) → (b : Bool) → IsDistinct R (keys_of (cond b es (e ∷ remove_entry test es)))
      by rest true = h.1
      by rest false = (all-without (λ y. R e.0 y ≡ false) test es h.0, rest)

  -- an entry that is found, in front of the others
  pulled : (k : K) (v : X) (es : List (K × X)) → lookup (R k) es ≡ Some v → IsPermutation es ((k, v) ∷ remove_entry (R k) es)
  pulled k v [] found = absurd (cc)
  pulled k v (e ∷ es) found = by (pulled k v es) (R k e.0) refl
    where
      by : (lookup (R k) es ≡ Some v → IsPermutation es ((k, v) ∷ remove_entry (R k) es)) → (b : Bool) → R k e.0 ≡ b
          → IsPermutation (e ∷ es) ((k, v) ∷ cond (R k e.0) es (e ∷ remove_entry (R k) es))
      by rest true h =
          let value : Some e.1 ≡ Some v = sym (ap (λ b. cond b (Some e.1) (lookup (R k) es)) h) ∙ found in
          let same : e.1 ≡ v = cc in
          let P : List (K × X) → Type 0 = λ fs. IsPermutation (e ∷ es) ((k, v) ∷ fs) in
          let Q : (K × X) → Type 0 = λ f. IsPermutation (e ∷ es) (f ∷ es) in
          subst P (sym (ap (λ b. cond b es (e ∷ remove_entry (R k) es)) h))
          (subst Q (ap (λ y. (y, e.1)) (sym (exact k e.0 h)) ∙ ap (λ w. (k, w)) same) (IsPermutation-refl (e ∷ es)))
      by rest false h =
          let P : List (K × X) → Type 0 = λ fs. IsPermutation (e ∷ es) ((k, v) ∷ fs) in
          subst P (sym (ap (λ b. cond b es (e ∷ remove_entry (R k) es)) h))
          (IsPermutation-trans _ _ _ (IsPermutation-cons e _ _ (rest (sym (ap (λ b. cond b (Some e.1) (lookup (R k) es)) h) ∙ found)))
          (IsPermutation-middle (e ∷ []) (k, v) (remove_entry (R k) es)))

  -- two lists of entries without repeats that have the same value at each key
  pub same-entries : (es fs : List (K × X)) → IsDistinct R (keys_of es) → IsDistinct R (keys_of fs) → ((q : K) → lookup (R q) es ≡ lookup (R q) fs)
      → IsPermutation es fs
  same-entries [] [] apart apart' same = IsPermutation-refl []
  same-entries [] (f ∷ fs) apart apart' same =
      let no : None ≡ Some f.1 = same f.0 ∙ ap (λ b. cond b (Some f.1) (lookup (R f.0) fs)) (laws.refl f.0) in absurd (cc)
  same-entries (e ∷ es) fs apart apart' same =
      let here : lookup (R e.0) (e ∷ es) ≡ Some e.1 = ap (λ b. cond b (Some e.1) (lookup (R e.0) es)) (laws.refl e.0) in
      let gone : remove_entry (R e.0) (e ∷ es) ≡ es = ap (λ b. cond b es (e ∷ remove_entry (R e.0) es)) (laws.refl e.0) in
      IsPermutation-trans _ _ _
      (IsPermutation-cons e _ _
      (same-entries es (remove_entry (R e.0) fs) (IsDistinct-tail R e.0 (keys_of es) apart) (distinct-without (R e.0) fs apart')
      (λ q. ap (lookup (R q)) (sym gone) ∙ lookup-remove_entry laws (R e.0) (laws.congr e.0) q (e ∷ es) apart ∙ ap (cond (R e.0 q) None) (same q)
      ∙ sym (lookup-remove_entry laws (R e.0) (laws.congr e.0) q fs apart'))))
      (IsPermutation-sym _ _ (pulled e.0 e.1 fs (sym (same e.0) ∙ here)))
