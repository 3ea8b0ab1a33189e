-- A piece that is offered again and again until all of it is taken.
use Rattle.std.proofs.Common.{◌≡◌, ℕ, ◌+◌, ◌-◌, ◌≤◌, ◌<◌, List, ◌++◌, length, take, drop, Ok, sym, ◌∙◌, ap, subst, arith, length-drop, length-take}
use Rattle.std.proofs.Math.Seq.{take-add}
use Rattle.std.proofs.lemmas.List.{take_rest}
use Rattle.std.specs.Io.KnownBytes.{Appends}
use Rattle.pool_io.specs.Flow.{Intake, Writes}
use Rattle.pool_io.proofs.KnownLemmas.{Appends-append}

-- the first bytes were taken, with no fault
pub record Underway (old new : Intake) (bytes : List ℕ) (at : ℕ) : Type 0 where
  pub inside : at ≤ length bytes
  pub taken : Appends old.taken new.taken (take at bytes)
  pub kept : new.faults ≡ old.faults
  pub spent : length bytes ≤ old.sure → old.sure ≤ new.sure + at

-- one more write
pub Underway-write : {E : Type 0} (old mid new : Intake) (bytes : List ℕ) (at count : ℕ) → at < length bytes → Underway old mid bytes at
    → Writes {E = E} mid new (Ok count) (take (length bytes - at) (drop at bytes)) → Underway old new bytes (at + count)
Underway-write old mid new bytes at count more so_far wrote =
    let piece : take count (take (length bytes - at) (drop at bytes)) ≡ take count (drop at bytes) = ap (λ (l : List ℕ). take count l) (take_rest bytes at) in
    let both = Appends-append old.taken mid.taken new.taken (take at bytes) (take count (take (length bytes - at) (drop at bytes))) so_far.taken wrote.bytes in
    let front : take at bytes ++ take count (take (length bytes - at) (drop at bytes)) ≡ take (at + count) bytes =
    ap (λ (l : List ℕ). take at bytes ++ l) piece ∙ sym (take-add at count bytes) in
    record {
      inside = omega (arith, wrote.within, length-take (length bytes - at) (drop at bytes), length-drop at bytes);
      taken = subst (λ (l : List ℕ). Appends old.taken new.taken l) front both;
      kept = wrote.kept ∙ so_far.kept;
      spent = λ s. omega (arith, so_far.spent s, wrote.spent (omega (arith, so_far.spent s)));
    }
