-- How a run may end, and what stands then: what was read, what was written, and why it ended.
use Rattle.std.specs.Prelude.{◌≡◌, ◌⊎◌, ℕ, ◌≤◌, Bool, true, false, List, [], ◌∷◌, ◌++◌, length, Option, None, Some, Result, Ok}
use Rattle.std.specs.Prelude.{Err, ◌==◌, if◌then◌else◌}
use Rattle.std.specs.Io.KnownBytes.{IsAtEnd}
use Rattle.pool_io.specs.Flow.{Supply}
use Rattle.script_run.specs.Effects.{Beside, Effects}
use Rattle.script_run.specs.Limits.{input_limit}
use Rattle.script_run.specs.Rules.{Rules, Tried, after, refusals_of, text_of}
use Rattle.script_run.specs.Streams.{Broke, Gave, Lost, Wrote, before_last}
use Rattle.script_run.specs.declared.run_end.RunEnd.{RunEnd}
use Rattle.script_run.specs.declared.run_end.RunEnd.TheVariants.{Done, BadWords, ReadFault, WriteFault, TooLong, OutOfMemory}

-- the items to answer after these bytes: those that have ended, or all of them where nothing is left to read
abbrev pub AreDue : {Item : Type 0} → (Bool → List ℕ → List Item) → Supply → List ℕ → List Item → Type 0
AreDue given t bytes items = (items ≡ given false bytes) ⊎ ((items ≡ given true bytes) × IsAtEnd t.left)

-- a run by some rules, over a machine that was this one at first
module _ {State Item : Type 0} (rules : Rules State Item) (start : State) where
  -- all of the input was read, all answers were taken, and all else was done
  pub record IsDone (s t : Supply) (k m : Effects) (refused : ℕ) : Type 0 where
    pub bytes : List ℕ
    pub within : length bytes ≤ input_limit
    pub gave : Gave s t bytes
    pub at_end : IsAtEnd t.left
    pub wrote : Wrote k.sink m.sink (text_of rules start (rules.given true bytes))
    pub counted : refused ≡ refusals_of rules start (rules.given true bytes)
    pub did : rules.Does start (rules.given true bytes) k.others m.others

  -- the source failed: the answers to the items that had ended were taken
  pub record IsReadFault (s t : Supply) (k m : Effects) : Type 0 where
    pub bytes : List ℕ
    pub within : length bytes ≤ input_limit
    pub lost : Lost s t bytes
    pub wrote : Wrote k.sink m.sink (text_of rules start (rules.given false bytes))
    pub did : rules.Does start (rules.given false bytes) k.others m.others

  -- the sink failed at the answer to an item that was due: the answers to the items before it were taken, and they are no fewer
  -- than had ended before the last read
  pub record IsWriteFault (s t : Supply) (k m : Effects) : Type 0 where
    pub bytes : List ℕ
    pub within : length bytes ≤ input_limit
    pub gave : Gave s t bytes
    pub front : List Item
    pub cut : Item
    pub behind : List Item
    pub due : AreDue rules.given t bytes (front ++ cut ∷ behind)
    pub in_time : length (rules.given false (before_last t bytes)) ≤ length front
    pub broke : Broke k.sink m.sink (text_of rules start front) (rules.text (after rules start front) cut)
    pub did : rules.Does start (front ++ cut ∷ []) k.others m.others

  -- the first answer with a byte was offered alone and whole, and no such answer was due before the last read
  pub record AnswersFirst (t : Supply) (m : Effects) (bytes : List ℕ) (front : List Item) (cut : Item) : Type 0 where
    pub first : text_of rules start front ≡ []
    pub alone : m.sink.offered ≡ length (rules.text (after rules start front) cut)
    pub in_time : text_of rules start (rules.given false (before_last t bytes)) ≡ []

  -- one byte past the limit was read: the answers to the items that had ended before it were taken
  pub record IsTooLong (s t : Supply) (k m : Effects) : Type 0 where
    pub bytes : List ℕ
    pub last : ℕ
    pub full : length bytes ≡ input_limit
    pub gave : Gave s t (bytes ++ last ∷ [])
    pub wrote : Wrote k.sink m.sink (text_of rules start (rules.given false bytes))
    pub did : rules.Does start (rules.given false bytes) k.others m.others

  -- memory was wanting: the answers to the first of the items that were due were taken, each whole, and no fewer than had ended
  -- before the last read; at most the next item was tried besides
  pub record IsOutOfMemory (s t : Supply) (k m : Effects) : Type 0 where
    pub bytes : List ℕ
    pub within : length bytes ≤ input_limit
    pub gave : Gave s t bytes
    pub front : List Item
    pub behind : List Item
    pub due : AreDue rules.given t bytes (front ++ behind)
    pub in_time : length (rules.given false (before_last t bytes)) ≤ length front
    pub wrote : Wrote k.sink m.sink (text_of rules start front)
    pub between : Beside
    pub did : rules.Does start front k.others between
    pub tried : Tried rules (after rules start front) behind between m.others

  -- a run ended so, from these states of source and sink to those
  abbrev pub Ends : Supply → Supply → Effects → Effects → RunEnd → Type 0
  Ends s t k m (Done refused) = IsDone s t k m refused
  Ends s t k m BadWords = (t ≡ s) × (m ≡ k)
  Ends s t k m ReadFault = IsReadFault s t k m
  Ends s t k m WriteFault = IsWriteFault s t k m
  Ends s t k m TooLong = IsTooLong s t k m
  Ends s t k m OutOfMemory = IsOutOfMemory s t k m

-- the end of a run with this count of refusals, or stopped so
abbrev pub end_of : Result ℕ RunEnd → RunEnd
end_of (Ok refused) = Done refused
end_of (Err end) = end

-- ---- what a caller may count on

-- the source tells what is left, and it is no longer than this
abbrev pub LeavesAtMost : ℕ → Option (List ℕ) → Type 0
LeavesAtMost most None = ⊥
LeavesAtMost most (Some bytes) = length bytes ≤ most

-- all was read and answered, or memory was wanting
abbrev pub IsDoneOrOutOfMemory : RunEnd → Type 0
IsDoneOrOutOfMemory (Done refused) = Unit {0}
IsDoneOrOutOfMemory OutOfMemory = Unit {0}
IsDoneOrOutOfMemory end = ⊥

-- the status with which a program ends after the run
abbrev pub status_of : RunEnd → ℕ
status_of (Done refused) = if refused == 0 then 0 else 1
status_of BadWords = 2
status_of ReadFault = 3
status_of WriteFault = 4
status_of TooLong = 5
status_of OutOfMemory = 6
