-- What a run read and wrote.
use Rattle.std.specs.Prelude.{◌≡◌, ℕ, ◌+◌, ◌-◌, ◌≤◌, ◌<◌, List, ◌++◌, length, take, IsTrue}
use Rattle.std.specs.Io.KnownBytes.{Appends, Consumes}
use Rattle.pool_io.specs.Flow.{Supply, Intake, Rose, counted}

-- a source gave these bytes without a fault, in no more reads than they are, and one
pub record Gave (s t : Supply) (bytes : List ℕ) : Type 0 where
  pub consumed : Consumes s.left t.left bytes
  pub same : t.faults ≡ s.faults
  pub given : counted t.given 0 ≡ counted s.given (length bytes)
  pub reads : t.reads ≤ s.reads + (length bytes + 1)
  pub still : IsTrue s.sure → IsTrue t.sure

-- a source gave these bytes and then failed, so it wasn't sure
pub record Lost (s t : Supply) (bytes : List ℕ) : Type 0 where
  pub consumed : Consumes s.left t.left bytes
  pub rose : Rose s.faults t.faults
  pub given : counted t.given 0 ≡ counted s.given (length bytes)
  pub reads : t.reads ≤ s.reads + (length bytes + 1)
  pub unsure : IsTrue s.sure → ⊥

-- a sink took these bytes without a fault
pub record Wrote (k m : Intake) (bytes : List ℕ) : Type 0 where
  pub appended : Appends k.taken m.taken bytes
  pub same : m.faults ≡ k.faults
  pub spent : length bytes ≤ k.sure → k.sure ≤ m.sure + length bytes

-- a sink took a text and a proper front of the last piece, was offered all the rest of that piece at once, and then failed,
-- so it wasn't sure of all
pub record Broke (k m : Intake) (text last : List ℕ) : Type 0 where
  pub count : ℕ
  pub proper : count < length last
  pub others : count + m.offered ≡ length last
  pub taken : Appends k.taken m.taken (text ++ take count last)
  pub rose : Rose k.faults m.faults
  pub unsure : k.sure < length text + length last

-- the bytes that were read before the last read
abbrev pub before_last : Supply → List ℕ → List ℕ
before_last t bytes = take (length bytes - t.latest) bytes
