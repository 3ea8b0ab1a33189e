-- What contracts see of a source and of a sink, and what a read and a write do to it.
use Rattle.std.specs.Prelude.{◌≡◌, ℕ, ◌+◌, ◌-◌, ◌^◌, ◌≤◌, ◌<◌, Bool, List, Option, Result, min, length, take, IsTrue, IsOk, IfOk, OnOk, OnErr}
use Rattle.std.specs.Io.KnownBytes.{Appends, WriteAppends, ReadConsumes}

-- a count after so many more, up to the last value of 64 bits
abbrev pub counted : ℕ → ℕ → ℕ
counted before more = min (before + more) (2 ^ 64 - 1)

-- a source: the bytes still to come where it tells them, how many bytes its last read gave, how many all reads gave, how often it
-- was read, how often it has failed, and whether it never will again
pub record Supply : Type 0 where
  pub left : Option (List ℕ)
  pub latest : ℕ
  pub given : ℕ
  pub reads : ℕ
  pub faults : ℕ
  pub sure : Bool

-- a sink: the bytes that it took where it tells them, how long the piece was that it was offered last, how often it has
-- failed, and how many more bytes it surely takes
pub record Intake : Type 0 where
  pub taken : Option (List ℕ)
  pub offered : ℕ
  pub faults : ℕ
  pub sure : ℕ

-- a count rose, or stands at the last value of 64 bits
abbrev pub Rose : ℕ → ℕ → Type 0
Rose before now = min (before + 1) (2 ^ 64 - 1) ≤ now

-- a read put the next bytes at the front of the buffer, none only at the end of the input, and shows how many it gave;
-- or it failed and counted it, and gave nothing; each read is counted; a sure source doesn't fail and stays sure
pub record Reads {E : Type 0} (old new : Supply) (result : Result ℕ E) (buf : List ℕ) : Type 0 where
  pub within : IfOk result (λ n. n ≤ length buf)
  pub bytes : ReadConsumes old.left new.left result buf
  pub latest : IfOk result (λ n. new.latest ≡ n)
  pub given : IfOk result (λ n. new.given ≡ counted old.given n)
  pub none_given : OnErr result (new.given ≡ old.given)
  pub called : new.reads ≡ counted old.reads 1
  pub kept : OnOk result (new.faults ≡ old.faults)
  pub cause : OnErr result (Rose old.faults new.faults)
  pub never : IsTrue old.sure → IsOk result
  pub still : IsTrue old.sure → IsTrue new.sure

-- a write shows how long the piece was, and took one byte or more from the front of it, or failed and counted it;
-- a sink that is sure of a byte doesn't fail, and is then less sure by at most what it took
pub record Writes {E : Type 0} (old new : Intake) (result : Result ℕ E) (piece : List ℕ) : Type 0 where
  pub offered : new.offered ≡ length piece
  pub some : IfOk result (λ n. 1 ≤ n)
  pub within : IfOk result (λ n. n ≤ length piece)
  pub bytes : WriteAppends old.taken new.taken result piece
  pub kept : OnOk result (new.faults ≡ old.faults)
  pub cause : OnErr result (Rose old.faults new.faults)
  pub never : 1 ≤ old.sure → IsOk result
  pub spent : 1 ≤ old.sure → IfOk result (λ n. old.sure ≤ new.sure + n)

-- the first n of the bytes were taken, and the sink was last offered all the others as one piece
pub record TakesFront (old new : Intake) (bytes : List ℕ) (n : ℕ) : Type 0 where
  pub proper : n < length bytes
  pub others : n + new.offered ≡ length bytes
  pub taken : Appends old.taken new.taken (take n bytes)

-- all bytes were taken; or a proper front of them was, the rest was offered as one piece, and that failed and was counted;
-- a sink that is sure of all of them doesn't fail, and is then less sure by at most their number
pub record WritesAll {T E : Type 0} (old new : Intake) (result : Result T E) (bytes : List ℕ) : Type 0 where
  pub all : OnOk result (Appends old.taken new.taken bytes)
  pub front : OnErr result ((n : ℕ) × TakesFront old new bytes n)
  pub kept : OnOk result (new.faults ≡ old.faults)
  pub cause : OnErr result (Rose old.faults new.faults)
  pub never : length bytes ≤ old.sure → IsOk result
  pub spent : length bytes ≤ old.sure → old.sure ≤ new.sure + length bytes
