-- An input that is read piece by piece.
use Rattle.std.proofs.Common.{◌≡◌, ◌≢◌, ℕ, zero, suc, ◌+◌, ◌-◌, ◌≤◌, ◌<◌, ◌^◌, true, false, List, [], ◌∷◌, ◌++◌}
use Rattle.std.proofs.Common.{length, take, Result, Ok, Err, IsOk, IfOk, IfErr, refl, sym, ◌∙◌, ap, subst, inl, inr, arith, append_assoc, length-append}
use Rattle.std.proofs.Common.{length-take}
use Rattle.std.proofs.Math.Seq.{take-nil}
use Rattle.std.proofs.lemmas.List.{append-nil, take_at, take_all}
use Rattle.pool_io.specs.Flow.{Supply, Reads}
use Rattle.pool_io.proofs.KnownLemmas.{Consumes-append, Consumes-Keeps, Consumes-nil}
use Rattle.pool_script.specs.Standing.{Held, StandsFor}
use Rattle.script_run.specs.Answering.{Stopped, Took}
use Rattle.script_run.specs.Effects.{Effects}
use Rattle.script_run.specs.Ends.{AreDue, Ends, IsDone, IsReadFault, IsTooLong, end_of}
use Rattle.script_run.specs.Limits.{input_limit}
use Rattle.script_run.specs.Rules.{IsLawful, Rules}
use Rattle.script_run.specs.Streams.{Gave, Lost, before_last}
use Rattle.script_run.specs.declared.run_end.RunEnd.{RunEnd}
use Rattle.script_run.specs.declared.run_end.RunEnd.TheVariants.{Done, BadWords, ReadFault, WriteFault, TooLong, OutOfMemory}
use Rattle.script_run.proofs.RulesLemmas.{refusals-le}
use Rattle.script_run.proofs.TookLemmas.{Took-append, Took-nil, broke_behind, did_behind, did_to, tried_behind, wrote_behind}
use Rattle.script_run.proofs.WroteLemmas.{Wrote-nil}

-- ---- what reads gave

Gave-read : {E : Type 0} (s t u : Supply) (bytes buf : List ℕ) (n : ℕ) → Gave s t bytes → t.reads ≤ s.reads + length bytes
    → Reads {E = E} t u (Ok n) buf → Gave s u (bytes ++ take n buf)
Gave-read s t u bytes buf n gave few read = record {
  consumed = Consumes-append s.left t.left u.left bytes (take n buf) gave.consumed read.bytes.0;
  same = read.kept ∙ gave.same;
  given = omega (arith, gave.given, read.given, read.within, length-append bytes (take n buf), length-take n buf);
  reads = omega (arith, few, read.called, length-append bytes (take n buf));
  still = λ sure. read.still (gave.still sure);
}

never_err : {E : Type 0} (e : E) → IsOk {T = ℕ} (Err e) → ⊥
never_err e is = absurd (cc)

Lost-read : {E : Type 0} (s t u : Supply) (bytes buf : List ℕ) (e : E) → Gave s t bytes → t.reads ≤ s.reads + length bytes
    → Reads {E = E} t u (Err e) buf → Lost s u bytes
Lost-read s t u bytes buf e gave few read = record {
  consumed = Consumes-Keeps s.left t.left u.left bytes gave.consumed read.bytes;
  rose = omega (arith, gave.same, read.cause);
  given = omega (arith, gave.given, read.none_given);
  reads = omega (arith, few, read.called);
  unsure = λ sure. never_err e (read.never (gave.still sure));
}

-- the end of the input was read, and nothing was given with it
gave_end : {E : Type 0} (s t u : Supply) (bytes buf : List ℕ) → Gave s t bytes → t.reads ≤ s.reads + length bytes → Reads {E = E} t u (Ok 0) buf
    → Gave s u bytes
gave_end s t u bytes buf gave few read = subst (λ (l : List ℕ). Gave s u l) (append-nil bytes) (Gave-read s t u bytes buf 0 gave few read)

-- the bytes before a piece that was read last
before_piece : (u : Supply) (bytes piece : List ℕ) → u.latest ≡ length piece → before_last u (bytes ++ piece) ≡ bytes
before_piece u bytes piece is = take_at bytes piece (length (bytes ++ piece) - u.latest) (omega (arith, is, length-append bytes piece))

before_end : (u : Supply) (bytes : List ℕ) → u.latest ≡ 0 → before_last u bytes ≡ bytes
before_end u bytes is = take_all (length bytes - u.latest) bytes (omega (arith, is))

at_least_one : (n : ℕ) → n ≢ 0 → 1 ≤ n
at_least_one zero some = absurd (some refl)
at_least_one (suc n) some = omega arith

-- a front of one byte
pub take_one : (buf : List ℕ) (count : ℕ) → count ≤ 1 → count ≢ 0 → 0 < length buf → (x : ℕ) × (take count buf ≡ x ∷ [])
take_one buf zero one some room = absurd (some refl)
take_one [] (suc count) one some room = absurd (omega arith)
take_one (x ∷ buf) (suc zero) one some room = (x, refl)
take_one (x ∷ buf) (suc (suc count)) one some room = absurd (omega arith)

-- ---- what was read so far

-- the bytes that were read, in no more reads than they are, for which the machine stands, and the items that have ended in them, which were answered
pub record Reading {State Item : Type 0} (rules : Rules State Item) (start : State) (s t : Supply) (k m : Effects) (held : Held Item) (now : State)
    (refused left : ℕ) : Type 0 where
  pub bytes : List ℕ
  pub count : length bytes + left ≡ input_limit
  pub gave : Gave s t bytes
  pub few : t.reads ≤ s.reads + length bytes
  pub taken : ℕ
  pub stands : StandsFor rules.given held bytes taken
  pub over : held.over ≡ false
  pub waiting : held.waiting ≡ []
  pub took : Took rules start now k m (rules.given false bytes) 0 refused

module _ {State Item : Type 0} (rules : Rules State Item) (lawful : IsLawful rules) (start : State) where
  -- no bytes give an item
  none_given : rules.given false [] ≡ []
  none_given = by (rules.given false []) (lawful.few false [])
    where
      by : (l : List Item) → length l ≤ 0 → l ≡ []
      by [] none = refl
      by (x ∷ l) none = absurd (omega (arith, none))

  pub Reading-start : (s : Supply) (k : Effects) (held : Held Item) → StandsFor rules.given held [] 0 → held.over ≡ false → held.waiting ≡ []
      → Reading rules start s s k k held start 0 input_limit
  Reading-start s k held stands over waiting = record {
    bytes = [];
    count = omega arith;
    gave = record { consumed = Consumes-nil s.left; same = refl; given = omega arith; reads = omega arith; still = λ sure. sure };
    few = omega arith;
    taken = 0;
    stands = stands;
    over = over;
    waiting = waiting;
    took = subst (λ (l : List Item). Took rules start start k k l 0 0) (sym none_given) (Took-nil rules lawful start k 0);
  }

  -- memory was wanting before anything was read
  pub Ends-none : (s : Supply) (k : Effects) → Ends rules start s s k k OutOfMemory
  Ends-none s k = record {
    bytes = [];
    within = omega arith;
    gave = record { consumed = Consumes-nil s.left; same = refl; given = omega arith; reads = omega arith; still = λ sure. sure };
    front = [];
    behind = [];
    due = inl (sym none_given);
    in_time = omega (arith, ap (λ (b : List ℕ). length (rules.given false b)) (take-nil {A = ℕ} (0 - s.latest)), lawful.few false []);
    wrote = Wrote-nil k.sink;
    between = k.others;
    did = lawful.none start k.others;
    tried = refl;
  }

  -- the items of a further piece, and those of the end
  ended_more : (held : Held Item) (bytes piece : List ℕ) (n : ℕ) → StandsFor rules.given held bytes n → held.over ≡ false
      → rules.given false (bytes ++ piece) ≡ rules.given false bytes ++ rules.given false (held.rest ++ piece)
  ended_more held bytes piece n stands over = (stands.resumes over).ended piece

  whole_more : (held : Held Item) (bytes : List ℕ) (n : ℕ) → StandsFor rules.given held bytes n → held.over ≡ false
      → rules.given true bytes ≡ rules.given false bytes ++ rules.given true held.rest
  whole_more held bytes n stands over =
      ap (λ (b : List ℕ). rules.given true b) (sym (append-nil bytes)) ∙ (stands.resumes over).whole []
      ∙ ap (λ (b : List ℕ). rules.given false bytes ++ rules.given true b) (append-nil held.rest)

  module _ (s t : Supply) (k m : Effects) (held : Held Item) (now : State) (refused left : ℕ) (r : Reading rules start s t k m held now refused left) where
    -- the refusals are fewer than 64 bits count
    pub Reading-room : (piece : List ℕ) → length piece ≤ left → refused + length (rules.given false (held.rest ++ piece)) < 2 ^ 64
    Reading-room piece fits =
        let more = ap length (ended_more held r.bytes piece r.taken r.stands r.over) in
        omega (
          arith,
          r.took.counted,
          r.count,
          refusals-le rules lawful start (rules.given false r.bytes),
          lawful.few false (r.bytes ++ piece),
          length-append r.bytes piece,
          more,
          length-append (rules.given false r.bytes) (rules.given false (held.rest ++ piece)),
        )

    pub Reading-room_last : refused + length (rules.given true held.rest) < 2 ^ 64
    Reading-room_last =
        let more = ap length (whole_more held r.bytes r.taken r.stands r.over) in
        omega (
          arith,
          r.took.counted,
          r.count,
          refusals-le rules lawful start (rules.given false r.bytes),
          lawful.few true r.bytes,
          more,
          length-append (rules.given false r.bytes) (rules.given true held.rest),
        )

    -- a further piece is read, and its items are answered
    pub Reading-piece : {E : Type 0} (u : Supply) (n : Effects) (next : Held Item) (behind : State) (buf : List ℕ) (more count : ℕ)
        → Reads {E = E} t u (Ok count) buf → count ≢ 0 → length (take count buf) ≡ count → count ≤ left
        → Took rules now behind m n (rules.given false (held.rest ++ take count buf)) refused more → next.waiting ≡ [] → next.over ≡ false
        → ((bytes : List ℕ) (i : ℕ) → StandsFor rules.given held bytes i → (j : ℕ) × StandsFor rules.given next (bytes ++ take count buf) j)
        → Reading rules start s u k n next behind more (left - count)
    Reading-piece u n next behind buf more count read some all fits took waiting over stands =
        let piece : List ℕ = take count buf in
        let later = stands r.bytes r.taken r.stands in
        record {
          bytes = r.bytes ++ piece;
          count = omega (arith, r.count, length-append r.bytes piece, all);
          gave = Gave-read s t u r.bytes buf count r.gave r.few read;
          few = omega (arith, r.few, read.called, length-append r.bytes piece, all, at_least_one count some);
          taken = later.0;
          stands = later.1;
          over = over;
          waiting = waiting;
          took = subst (λ (l : List Item). Took rules start behind k n l 0 more) (sym (ended_more held r.bytes piece r.taken r.stands r.over))
              (Took-append rules lawful start now behind k m n (rules.given false r.bytes) (rules.given false (held.rest ++ piece)) 0 refused more r.took took);
        }

    -- ---- the ends of a run

    -- answering stopped at items that were due: those before the last read were answered
    stopped_ends : (u : Supply) (n : Effects) (bytes : List ℕ) (a b : List Item) (end : RunEnd) → length bytes ≤ input_limit → Gave s u bytes
        → AreDue rules.given u bytes (a ++ b) → length (rules.given false (before_last u bytes)) ≤ length a → Took rules start now k m a 0 refused
        → Stopped rules now m n b end → Ends rules start s u k n end
    stopped_ends u n bytes a b WriteFault within gave due in_time took stopped =
        let split : a ++ b ≡ (a ++ stopped.front) ++ (stopped.cut ∷ stopped.behind) =
        ap (λ (l : List Item). a ++ l) stopped.split ∙ sym (append_assoc a stopped.front (stopped.cut ∷ stopped.behind)) in
        record {
          bytes = bytes;
          within = within;
          gave = gave;
          front = a ++ stopped.front;
          cut = stopped.cut;
          behind = stopped.behind;
          due = subst (λ (l : List Item). AreDue rules.given u bytes l) split due;
          in_time = omega (arith, in_time, length-append a stopped.front);
          broke = broke_behind rules lawful start now k.sink m.sink n.sink a stopped.front stopped.cut took.state took.wrote stopped.broke;
          did = did_to rules lawful start now k.others m.others n.others a stopped.front (stopped.cut ∷ []) took.state took.did stopped.did;
        }
    stopped_ends u n bytes a b OutOfMemory within gave due in_time took stopped =
        let split : a ++ b ≡ (a ++ stopped.front) ++ stopped.behind =
        ap (λ (l : List Item). a ++ l) stopped.split ∙ sym (append_assoc a stopped.front stopped.behind) in
        record {
          bytes = bytes;
          within = within;
          gave = gave;
          front = a ++ stopped.front;
          behind = stopped.behind;
          due = subst (λ (l : List Item). AreDue rules.given u bytes l) split due;
          in_time = omega (arith, in_time, length-append a stopped.front);
          wrote = wrote_behind rules lawful start now k.sink m.sink n.sink a stopped.front took.state took.wrote stopped.wrote;
          between = stopped.between;
          did = did_behind rules lawful start now k.others m.others stopped.between a stopped.front took.state took.did stopped.did;
          tried = tried_behind rules lawful start now stopped.between n.others a stopped.front stopped.behind took.state stopped.tried;
        }
    stopped_ends u n bytes a b (Done count) within gave due in_time took stopped = absurd stopped
    stopped_ends u n bytes a b BadWords within gave due in_time took stopped = absurd stopped
    stopped_ends u n bytes a b ReadFault within gave due in_time took stopped = absurd stopped
    stopped_ends u n bytes a b TooLong within gave due in_time took stopped = absurd stopped

    -- answering stopped at an item of a further piece
    pub Reading-stopped : {E : Type 0} (u : Supply) (n : Effects) (buf : List ℕ) (count : ℕ) (end : RunEnd) → Reads {E = E} t u (Ok count) buf
        → length (take count buf) ≡ count → count ≤ left → Stopped rules now m n (rules.given false (held.rest ++ take count buf)) end
        → Ends rules start s u k n end
    Reading-stopped u n buf count end read all fits stopped =
        let piece : List ℕ = take count buf in
        let before = ap (λ (b : List ℕ). length (rules.given false b)) (before_piece u r.bytes piece (read.latest ∙ sym all)) in
        stopped_ends u n (r.bytes ++ piece) (rules.given false r.bytes) (rules.given false (held.rest ++ piece)) end
        (omega (arith, r.count, length-append r.bytes piece, all, fits))
        (Gave-read s t u r.bytes buf count r.gave r.few read)
        (inl (sym (ended_more held r.bytes piece r.taken r.stands r.over)))
        (omega (arith, before)) r.took stopped

    -- answering stopped at an item that the end of the input gave
    Reading-stopped_last : {E : Type 0} (u : Supply) (n : Effects) (buf : List ℕ) (end : RunEnd) → Reads {E = E} t u (Ok 0) buf → 0 < length buf
        → Stopped rules now m n (rules.given true held.rest) end → Ends rules start s u k n end
    Reading-stopped_last u n buf end read room stopped =
        let before = ap (λ (b : List ℕ). length (rules.given false b)) (before_end u r.bytes read.latest) in
        stopped_ends u n r.bytes (rules.given false r.bytes) (rules.given true held.rest) end
        (omega (arith, r.count))
        (gave_end s t u r.bytes buf r.gave r.few read)
        (inr (sym (whole_more held r.bytes r.taken r.stands r.over), read.bytes.1 refl room))
        (omega (arith, before)) r.took stopped

    -- the end of the input was read, and all items were answered
    Reading-done : {E : Type 0} (u : Supply) (n : Effects) (behind : State) (buf : List ℕ) (all : ℕ) → Reads {E = E} t u (Ok 0) buf → 0 < length buf
        → Took rules now behind m n (rules.given true held.rest) refused all → IsDone rules start s u k n all
    Reading-done u n behind buf all read room took =
        let both = Took-append rules lawful start now behind k m n (rules.given false r.bytes) (rules.given true held.rest) 0 refused all r.took took in
        let whole : Took rules start behind k n (rules.given true r.bytes) 0 all =
        subst (λ (l : List Item). Took rules start behind k n l 0 all) (sym (whole_more held r.bytes r.taken r.stands r.over)) both in
        record {
          bytes = r.bytes;
          within = omega (arith, r.count);
          gave = gave_end s t u r.bytes buf r.gave r.few read;
          at_end = read.bytes.1 refl room;
          wrote = whole.wrote;
          counted = omega (arith, whole.counted);
          did = whole.did;
        }

    -- the end of the input was read, and its items were answered or not
    pub Reading-finish : {E : Type 0} (u : Supply) (n : Effects) (behind : State) (buf : List ℕ) (count : ℕ) (result : Result ℕ RunEnd)
        → Reads {E = E} t u (Ok count) buf → count ≡ 0 → 0 < length buf → IfOk result (Took rules now behind m n (rules.given true held.rest) refused)
        → IfErr result (Stopped rules now m n (rules.given true held.rest)) → Ends rules start s u k n (end_of result)
    Reading-finish u n behind buf zero (Ok all) read none room took stopped = Reading-done u n behind buf all read room took
    Reading-finish u n behind buf zero (Err end) read none room took stopped = Reading-stopped_last u n buf end read room stopped
    Reading-finish u n behind buf (suc count) result read none room took stopped = absurd (omega arith)

    -- the source failed
    pub Reading-lost : {E : Type 0} (u : Supply) (buf : List ℕ) (e : E) → Reads {E = E} t u (Err e) buf → IsReadFault rules start s u k m
    Reading-lost u buf e read = record {
      bytes = r.bytes;
      within = omega (arith, r.count);
      lost = Lost-read s t u r.bytes buf e r.gave r.few read;
      wrote = r.took.wrote;
      did = r.took.did;
    }

    -- a byte past the limit was read
    pub Reading-past : {E : Type 0} (u : Supply) (buf : List ℕ) (count x : ℕ) → left ≡ 0 → Reads {E = E} t u (Ok count) buf
        → take count buf ≡ x ∷ [] → IsTooLong rules start s u k m
    Reading-past u buf count x none read one = record {
      bytes = r.bytes;
      last = x;
      full = omega (arith, r.count, none);
      gave = subst (λ (l : List ℕ). Gave s u (r.bytes ++ l)) one (Gave-read s t u r.bytes buf count r.gave r.few read);
      wrote = r.took.wrote;
      did = r.took.did;
    }
