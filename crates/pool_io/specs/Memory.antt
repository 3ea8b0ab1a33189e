-- What contracts see of the forms in memory.
use Rattle.std.specs.Prelude.{ℕ, ◌+◌, ◌-◌, ◌^◌, ◌==◌, Bool, true, false, List, [], ◌∷◌, Some, length, min, if◌then◌else◌}
use Rattle.std.specs.List.{list_any}
use Rattle.pool_io.specs.Flow.{Supply, Intake}

-- a source in memory: the bytes left, what the last read gave, what all reads gave, the most that a call gives, the numbers of the calls that
-- fail, and the counts
pub record Reserve : Type 0 where
  pub left : List ℕ
  pub latest : ℕ
  pub given : ℕ
  pub most : ℕ
  pub failing : List ℕ
  pub calls : ℕ
  pub faults : ℕ

-- a sink in memory: the bytes taken, the length of the last piece, the most that a call takes, room for all, the calls
-- that fail, and the counts
pub record Store : Type 0 where
  pub taken : List ℕ
  pub offered : ℕ
  pub most : ℕ
  pub room : ℕ
  pub failing : List ℕ
  pub calls : ℕ
  pub faults : ℕ

-- one more, up to the last value of 64 bits
abbrev pub next_count : ℕ → ℕ
next_count n = min (n + 1) (2 ^ 64 - 1)

-- whether the next call fails by the list
abbrev pub is_listed : List ℕ → ℕ → Bool
is_listed failing calls = list_any (λ n. n == next_count calls) failing

abbrev pub is_empty : List ℕ → Bool
is_empty [] = true
is_empty (n ∷ ns) = false

-- a source in memory as a source: it tells its bytes, and is sure where no call is to fail
abbrev pub supply_of : Reserve → Supply
supply_of s = record { left = Some s.left; latest = s.latest; given = s.given; reads = s.calls; faults = s.faults; sure = is_empty s.failing }

-- a sink in memory as a sink: it tells its bytes, and is sure of the room that is left where no call is to fail
abbrev pub intake_of : Store → Intake
intake_of s = record { taken = Some s.taken; offered = s.offered; faults = s.faults; sure = (if is_empty s.failing then s.room - length s.taken else 0) }
