-- Writes one after the other.
use Rattle.std.proofs.Common.{ℕ, ◌<◌, List, [], ◌++◌, length, take, Err, IsOk, refl, sym, ◌∙◌, subst, inl, inr, arith, length-append}
use Rattle.std.proofs.Common.{append_assoc}
use Rattle.std.specs.Io.KnownBytes.{Appends}
use Rattle.pool_io.specs.Flow.{Intake, WritesAll}
use Rattle.pool_io.proofs.KnownLemmas.{Appends-append, Appends-nil}
use Rattle.script_run.specs.Streams.{Broke, Wrote}
use Rattle.script_run.proofs.Cases.{at_most_or_above}

-- at first nothing was written
pub Wrote-nil : (k : Intake) → Wrote k k []
Wrote-nil k = record { appended = Appends-nil k.taken; same = refl; spent = λ s. omega arith }

-- two texts one after the other
pub Wrote-append : (k m n : Intake) (a b : List ℕ) → Wrote k m a → Wrote m n b → Wrote k n (a ++ b)
Wrote-append k m n a b first second =
    let long = length-append a b in
    record {
      appended = Appends-append k.taken m.taken n.taken a b first.appended second.appended;
      same = second.same ∙ first.same;
      spent = λ s. omega (arith, first.spent (omega arith), second.spent (omega (arith, first.spent (omega arith))));
    }

is_err : {E : Type 0} (T : Type 0) (e : E) → IsOk {T = T} (Err e) → ⊥
is_err T e is = absurd (cc)

-- bytes that weren't all taken
pub Broke-at : {T E : Type 0} (k m : Intake) (bytes : List ℕ) (e : E) → WritesAll {T = T} {E = E} k m (Err e) bytes → Broke k m [] bytes
Broke-at {T} {E} k m bytes e wrote =
    let unsure : k.sure < length bytes =
    elim (at_most_or_above (length bytes) k.sure) [ inl sure ↦ absurd (is_err T e (wrote.never sure)) | inr less ↦ less ] in
    record {
      count = wrote.front.0;
      proper = wrote.front.1.proper;
      others = wrote.front.1.others;
      taken = wrote.front.1.taken;
      rose = wrote.cause;
      unsure = omega (arith, unsure);
    }

-- a text, and then another that wasn't taken whole
pub Broke-after : (k m n : Intake) (a b last : List ℕ) → Wrote k m a → Broke m n b last → Broke k n (a ++ b) last
Broke-after k m n a b last first second =
    let long = length-append a b in
    record {
      count = second.count;
      proper = second.proper;
      others = second.others;
      taken =
          subst (λ (l : List ℕ). Appends k.taken n.taken l) (sym (append_assoc a b (take second.count last)))
          (Appends-append k.taken m.taken n.taken a (b ++ take second.count last) first.appended second.taken);
      rose = omega (arith, first.same, second.rose);
      unsure = elim (at_most_or_above (length a) k.sure) [ inl sure ↦ omega (arith, first.spent sure, second.unsure) | inr unsure ↦ omega arith ];
    }
