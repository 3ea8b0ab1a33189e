-- Entries and classes, one by one.
use Rattle.std.proofs.Common.{◌≡◌, ◌≤◌, ◌<◌, ℕ, zero, suc, ◌+◌, Bool, true, false, ◌&&◌, cond, List, [], ◌∷◌, ◌++◌, length}
use Rattle.std.proofs.Common.{get_or, map, take, drop, bytes_eq, Option, None, Some, option_map, slice_get, refl, sym, ◌∙◌, ap, arith}
use Rattle.std.specs.List.{cons_option, filter_map}
use Rattle.std.specs.Ordering.{is_lt, nat_cmp}
use Rattle.std.specs.Cmp.Lexicographic.{slice_cmp}
use Rattle.std.proofs.lemmas.Bool.{and_parts}
use Rattle.std.proofs.lemmas.Slice.Eq.{bytes_eq-Decides}
use Rattle.ad_tree.specs.Frames.{Frame, attributes_at}
use Rattle.ad_tree.specs.Names.{has_name}
use Rattle.ad_tree.specs.Tree.{Tree}
use Rattle.significant_attrs.specs.Marking.{reached_marks}
use Rattle.significant_attrs.specs.Reach.{reached_from}
use Rattle.significant_attrs.proofs.AddLemmas.{drop-next}
use Rattle.job_classes.specs.Classes.{has_key, joined, number_of, same_key}
use Rattle.job_classes.specs.Keys.{Entry, arranged, digest_behind, entered, entry_of, key_from}
use Rattle.job_classes.specs.Shown.{marked_entries, place_among}

-- ---- where an entry goes

pub entered-place : (e : Entry) (es : List Entry) → take (place_among e.0 es) es ++ (e ∷ drop (place_among e.0 es) es) ≡ entered e es
entered-place e [] = refl
entered-place e (o ∷ es) = by (is_lt (slice_cmp nat_cmp e.0 o.0)) (entered-place e es)
  where
    by : (b : Bool) → take (place_among e.0 es) es ++ (e ∷ drop (place_among e.0 es) es) ≡ entered e es
        → take (cond b 0 (suc (place_among e.0 es))) (o ∷ es) ++ (e ∷ drop (cond b 0 (suc (place_among e.0 es))) (o ∷ es))
        ≡ cond b (e ∷ (o ∷ es)) (o ∷ entered e es)
    by true rest = refl
    by false rest = ap (λ l. o ∷ l) rest

-- ---- the marks of what is reached leave the entries of what is reached

pub marked-entries : (request : List Frame) (test : List ℕ × Tree → Bool) (attributes : List (List ℕ × Tree))
    → marked_entries request (map test attributes) attributes ≡ filter_map (λ a. cond (test a) (Some (entry_of request a)) None) attributes
marked-entries request test [] = refl
marked-entries request test (a ∷ rest) = by (test a) (marked-entries request test rest)
  where
    by : (b : Bool) → marked_entries request (map test rest) rest ≡ filter_map (λ c. cond (test c) (Some (entry_of request c)) None) rest
        → marked_entries request (b ∷ map test rest) (a ∷ rest)
        ≡ cons_option (cond b (Some (entry_of request a)) None) (filter_map (λ c. cond (test c) (Some (entry_of request c)) None) rest)
    by true later = ap (λ l. entry_of request a ∷ l) later
    by false later = later

pub key-marked : (first : List (List ℕ)) (request : List Frame) (marks : List Bool) → marks ≡ reached_marks first request
    → arranged [] (marked_entries request marks (attributes_at request 0)) ≡ key_from first request
key-marked first request marks is =
    ap (λ l. arranged [] (marked_entries request l (attributes_at request 0))) is
    ∙ ap (arranged []) (marked-entries request (λ a. has_name a.0 (reached_from first request)) (attributes_at request 0))

-- the entries of what is left, behind one attribute
mark-there : (marks : List Bool) (k : ℕ) (b d : Bool) → k < length marks → get_or marks k d ≡ b → slice_get marks k ≡ Some b
mark-there [] k b d low e = absurd (omega (arith, low))
mark-there (m ∷ marks) zero b d low e = ap Option.Some e
mark-there (m ∷ marks) (suc k) b d low e = mark-there marks k b d (omega (arith, low)) e

pub entry-added : (request : List Frame) (marks : List Bool) (attributes : List (List ℕ × Tree)) (k : ℕ) (d : Bool) (e : Entry)
    (done done2 whole : List Entry)
    → k < length marks → get_or marks k d ≡ true → option_map (entry_of request) (slice_get attributes k) ≡ Some e → done2 ≡ entered e done
    → arranged done (marked_entries request (drop k marks) (drop k attributes)) ≡ whole
    → arranged done2 (marked_entries request (drop (k + 1) marks) (drop (k + 1) attributes)) ≡ whole
entry-added request marks attributes k d e done done2 whole low mark is grown so_far = by (slice_get attributes k) refl is
  where
    by : (o : Option (List ℕ × Tree)) → slice_get attributes k ≡ o → option_map (entry_of request) o ≡ Some e
        → arranged done2 (marked_entries request (drop (k + 1) marks) (drop (k + 1) attributes)) ≡ whole
    by None at h = absurd (cc (h))
    by (Some a) at h =
        let same : entry_of request a ≡ e = cc (h) in
        ap (λ l. arranged l (marked_entries request (drop (k + 1) marks) (drop (k + 1) attributes))) (grown ∙ ap (λ x. entered x done) (sym same))
        ∙ sym (ap (λ l. arranged done (marked_entries request l (drop k attributes))) (drop-next marks k true (mark-there marks k true d low mark))
        ∙ ap (λ l. arranged done (marked_entries request (true ∷ drop (k + 1) marks) l)) (drop-next attributes k a at))
        ∙ so_far

pub entry-passed : (request : List Frame) (marks : List Bool) (attributes : List (List ℕ × Tree)) (k : ℕ) (d : Bool) (done done2 whole : List Entry)
    → k < length marks → length marks ≡ length attributes → get_or marks k d ≡ false → done2 ≡ done
    → arranged done (marked_entries request (drop k marks) (drop k attributes)) ≡ whole
    → arranged done2 (marked_entries request (drop (k + 1) marks) (drop (k + 1) attributes)) ≡ whole
entry-passed request marks attributes k d done done2 whole low many mark same so_far = by (slice_get attributes k) refl
  where
    none : {A : Type 0} (xs : List A) (j : ℕ) → slice_get xs j ≡ None → length xs ≤ j
    none [] j g = omega arith
    none (x ∷ xs) zero g = absurd (cc)
    none (x ∷ xs) (suc j) g = omega (arith, none xs j g)

    by : (o : Option (List ℕ × Tree)) → slice_get attributes k ≡ o
        → arranged done2 (marked_entries request (drop (k + 1) marks) (drop (k + 1) attributes)) ≡ whole
    by None at = absurd (omega (arith, low, many, none attributes k at))
    by (Some a) at =
        ap (λ l. arranged l (marked_entries request (drop (k + 1) marks) (drop (k + 1) attributes))) same
        ∙ sym (ap (λ l. arranged done (marked_entries request l (drop k attributes))) (drop-next marks k false (mark-there marks k false d low mark))
        ∙ ap (λ l. arranged done (marked_entries request (false ∷ drop (k + 1) marks) l)) (drop-next attributes k a at))
        ∙ so_far

-- keys of different lengths differ
pub same_key-length : (a b : List Entry) → (length a ≡ length b → ⊥) → false ≡ same_key a b
same_key-length [] [] other = absurd (other refl)
same_key-length [] (b ∷ bs) other = refl
same_key-length (a ∷ rest) [] other = refl
same_key-length (a ∷ rest) (b ∷ bs) other = by (bytes_eq a.0 b.0 && bytes_eq a.1 b.1) (same_key-length rest bs (λ e. other (ap suc e)))
  where
    by : (x : Bool) → false ≡ same_key rest bs → false ≡ (x && same_key rest bs)
    by true h = h
    by false h = refl

-- keys that are the same are one
same_key-one : (a b : List Entry) → same_key a b ≡ true → a ≡ b
same_key-one [] [] same = refl
same_key-one [] (b ∷ bs) same = absurd (cc)
same_key-one (a ∷ rest) [] same = absurd (cc)
same_key-one (a ∷ rest) (b ∷ bs) same =
    let both = and_parts (bytes_eq a.0 b.0 && bytes_eq a.1 b.1) (same_key rest bs) same in
    let parts = and_parts (bytes_eq a.0 b.0) (bytes_eq a.1 b.1) both.0 in
    let names : a.0 ≡ b.0 = (bytes_eq-Decides a.0 b.0).0 parts.0 in
    let texts : a.1 ≡ b.1 = (bytes_eq-Decides a.1 b.1).0 parts.1 in
    let rests = same_key-one rest bs both.1 in
    ap (λ (n : List ℕ). (n, a.1) ∷ rest) names ∙ ap (λ (t : List ℕ). (b.0, t) ∷ rest) texts ∙ ap (λ es. b ∷ es) rests

-- keys of two digests differ
pub same_key-digests : (a b : List Entry) → (digest_behind 0 a ≡ digest_behind 0 b → ⊥) → false ≡ same_key a b
same_key-digests a b other = by (same_key a b) refl
  where
    by : (x : Bool) → same_key a b ≡ x → false ≡ x
    by true is = absurd (other (ap (digest_behind 0) (same_key-one a b is)))
    by false is = refl

-- ---- classes

pub joined-new : (key : List Entry) (classes : List (Option (List Entry))) → number_of key classes ≡ length classes
    → joined key classes ≡ classes ++ Some key ∷ []
joined-new key [] same = refl
joined-new key (c ∷ classes) same = by (has_key key c) (joined-new key classes) same
  where
    by : (b : Bool) → (number_of key classes ≡ length classes → joined key classes ≡ classes ++ Some key ∷ [])
        → cond b 0 (suc (number_of key classes)) ≡ suc (length classes)
        → cond b (c ∷ classes) (c ∷ joined key classes) ≡ c ∷ (classes ++ Some key ∷ [])
    by true later h = absurd (omega (arith, h))
    by false later h = ap (λ l. c ∷ l) (later (omega (arith, h)))

pub joined-old : (key : List Entry) (classes : List (Option (List Entry))) → (number_of key classes ≡ length classes → ⊥)
    → joined key classes ≡ classes
joined-old key [] other = absurd (other refl)
joined-old key (c ∷ classes) other = by (has_key key c) (joined-old key classes) other
  where
    by : (b : Bool) → ((number_of key classes ≡ length classes → ⊥) → joined key classes ≡ classes)
        → (cond b 0 (suc (number_of key classes)) ≡ suc (length classes) → ⊥)
        → cond b (c ∷ classes) (c ∷ joined key classes) ≡ c ∷ classes
    by true later h = refl
    by false later h = ap (λ l. c ∷ l) (later (λ e. h (ap suc e)))
