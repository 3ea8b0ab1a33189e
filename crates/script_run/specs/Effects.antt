-- What a run changes besides its source and its machine.
use Rattle.std.specs.Prelude.{ℕ, List}
use Rattle.notice_desk.specs.Desk.{Row}
use Rattle.pool_io.specs.Flow.{Intake}
use Rattle.pool_steps.specs.declared.meter.Meter.{Meter}

-- the counts of whole evaluations and of looks at ads, and the rows of the desk
pub record Beside : Type 0 where
  pub tops : ℕ
  pub touch : ℕ
  pub rows : List Row

-- these counts and these rows
abbrev pub beside : ℕ → ℕ → List Row → Beside
beside tops touch rows = record { tops = tops; touch = touch; rows = rows }

-- the sink, and what is changed beside it
pub record Effects : Type 0 where
  pub sink : Intake
  pub others : Beside

-- this sink, with these counts and these rows beside it
abbrev pub effects : Intake → ℕ → ℕ → List Row → Effects
effects sink tops touch rows = record { sink = sink; others = beside tops touch rows }

-- ---- with the counts of a meter

-- what a meter counted, and these rows
abbrev pub beside_of : {F E T : Type 0} → Meter F E T → List Row → Beside
beside_of meter rows = beside meter.tops.now meter.touch.now rows

-- this sink, with what a meter counted and these rows beside it
abbrev pub effects_of : {F E T : Type 0} → Intake → Meter F E T → List Row → Effects
effects_of sink meter rows = effects sink meter.tops.now meter.touch.now rows
