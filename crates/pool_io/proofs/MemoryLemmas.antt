-- What the forms in memory give and take.
use Rattle.std.proofs.Common.{◌≡◌, ℕ, zero, suc, ◌+◌, ◌-◌, ◌≤◌, min, Bool, ◌||◌, List, [], ◌∷◌, ◌++◌, length, take, drop, Some, slice_get, Ok, refl, sym, ◌∙◌}
use Rattle.std.proofs.Common.{ap, arith, length-append, length-take, length-drop}
use Rattle.std.proofs.lemmas.List.{take-append-drop, take_at, drop_all, drop-drop}
use Rattle.std.specs.List.{list_any}
use Rattle.pool_io.specs.Flow.{Reads, counted}

-- the test of a list from a place on: that of the item there, or that of the rest
pub list_any-drop : (p : ℕ → Bool) (xs : List ℕ) (i x : ℕ) → slice_get xs i ≡ Some x → list_any p (drop i xs) ≡ (p x || list_any p (drop (suc i) xs))
list_any-drop p [] i x is = absurd (cc)
list_any-drop p (y ∷ xs) zero x is = let same : y ≡ x = cc in rw same refl
list_any-drop p (y ∷ xs) (suc i) x is = list_any-drop p xs i x is

-- a copy from the front of what is left is a read
pub Reads-copy : {E : Type 0} (text buf copied : List ℕ) (at latest given reads all_given all_reads most count faults : ℕ) (sure : Bool) → at ≤ length text
    → 1 ≤ most → count ≡ min (min (length text - at) most) (length buf) → copied ≡ take count (drop at text) → all_given ≡ counted given count
    → all_reads ≡ counted reads 1
    → Reads {E = E} (record { left = Some (drop at text); latest = latest; given = given; reads = reads; faults = faults; sure = sure })
    (record { left = Some (drop (at + count) text); latest = count; given = all_given; reads = all_reads; faults = faults; sure = sure }) (Ok count)
    (copied ++ drop count buf)
Reads-copy text buf copied at latest given reads all_given all_reads most count faults sure inside some is same gave called =
    let copied_length : length copied ≡ count = omega (arith, ap length same, length-take count (drop at text), length-drop at text) in
    let left = take-append-drop count (drop at text) in
    record {
      within = omega (arith, length-append copied (drop count buf), length-drop count buf);
      bytes = (
        sym left ∙ ap (λ (l : List ℕ). l ++ drop count (drop at text)) (sym same ∙ sym (take_at copied (drop count buf) count copied_length))
            ∙ ap (λ (l : List ℕ). take count (copied ++ drop count buf) ++ l) (drop-drop count at text),
        λ none room. drop_all (at + count) text (omega (arith, length-append copied (drop count buf), length-drop count buf)),
      );
      latest = refl;
      given = gave;
      none_given = tt;
      called = called;
      kept = refl;
      cause = tt;
      never = λ s. refl;
      still = λ s. s;
    }
