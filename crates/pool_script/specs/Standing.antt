-- What a script stands for, and what the lines of an input stand for.
use Rattle.std.specs.Prelude.{◌≡◌, ℕ, ◌≤◌, Bool, true, false, List, ◌++◌, length, drop}
use Rattle.pool_script.specs.Commands.{commands_of}
use Rattle.pool_script.specs.GivenLines.{given_lines}
use Rattle.pool_script.specs.declared.command.Command.{Command}
use Rattle.pool_script.specs.declared.lines.Line.{Line}

-- what is kept of an input: what it gave and wasn't taken, the bytes that gave nothing yet, and whether the input is over
pub record Held (A : Type 0) : Type 0 where
  pub waiting : List A
  pub rest : List ℕ
  pub over : Bool

-- all are n that were taken, followed by those that wait
pub record IsFollowed {A : Type 0} (all : List A) (n : ℕ) (waiting : List A) : Type 0 where
  pub taken : n ≤ length all
  pub waits : drop n all ≡ waiting

-- whatever comes behind the bytes gives what it gives behind the rest; `given` says what bytes give, as the whole input or not
pub record IsResumed {A : Type 0} (given : Bool → List ℕ → List A) (bytes rest : List ℕ) : Type 0 where
  pub ended : (more : List ℕ) → given false (bytes ++ more) ≡ given false bytes ++ given false (rest ++ more)
  pub whole : (more : List ℕ) → given true (bytes ++ more) ≡ given false bytes ++ given true (rest ++ more)

-- what is held stands for the bytes, of which n were taken
pub record StandsFor {A : Type 0} (given : Bool → List ℕ → List A) (held : Held A) (bytes : List ℕ) (n : ℕ) : Type 0 where
  pub follows : IsFollowed (given held.over bytes) n held.waiting
  pub resumes : held.over ≡ false → IsResumed given bytes held.rest

-- a script keeps the commands that weren't taken, the bytes that are no command yet, and whether the input is over
abbrev pub Kept : Type 0
Kept = Held Command

-- the script stands for the bytes, of which n commands were taken
abbrev pub Stands : Kept → List ℕ → ℕ → Type 0
Stands script bytes n = StandsFor commands_of script bytes n

-- the lines stand for the bytes, of which n lines were taken
abbrev pub LinesStand : Held Line → List ℕ → ℕ → Type 0
LinesStand lines bytes n = StandsFor given_lines lines bytes n
