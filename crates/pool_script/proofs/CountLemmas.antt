-- How many commands there are, and which come first.
use Rattle.std.proofs.Common.{◌≡◌, ℕ, ◌+◌, ◌≤◌, Bool, true, false, ◌||◌, List, [], ◌∷◌, ◌++◌, length, map, Option, None, Some, refl, sym, ◌∙◌, ap, inl, inr}
use Rattle.std.proofs.Common.{arith, append_assoc, length-append, length-drop}
use Rattle.std.proofs.lemmas.Bool.{cases_Bool}
use Rattle.std.proofs.lemmas.List.{length-map, map-append}
use Rattle.std.specs.Bool.{if◌then◌else◌}
use Rattle.pool_text.specs.Lines.{ended, last_line, rest_of, with_feeds}
use Rattle.pool_text.proofs.LineLemmas.{ended-append, with_feeds-ended}
use Rattle.pool_text.specs.Words.{is_long, is_silent}
use Rattle.pool_script.specs.Commands.{commands, commands_of, cut_off, ended_commands, given, is_dot, line_command, lines_of, next, takes_block, whole_commands}
use Rattle.pool_script.specs.GivenLines.{ended_lines, given_line, given_lines, whole_lines}
use Rattle.pool_script.specs.Standing.{Kept, Stands}
use Rattle.pool_script.specs.declared.command.Command.{Command}
use Rattle.pool_script.specs.declared.lines.Line.{Line}
use Rattle.pool_script.specs.declared.reader.Block.{Block}
use Rattle.pool_script.proofs.LongLemmas.{takes_block-long}

-- the commands of more lines come behind those of the lines before them
commands-append : (over : Bool) (block : Option Block) (lines more : List (List ℕ))
    → (behind : Option Block) × (commands over block (lines ++ more) ≡ commands false block lines ++ commands over behind more)
commands-append over block [] more = (block, refl)
commands-append over block (line ∷ lines) more =
    let later = commands-append over (next block line) lines more in (
      later.0,
      ap (λ (made : List Command). given block line
          ++ made) later.1 ∙ sym (append_assoc (given block line) (commands false (next block line) lines) (commands over later.0 more)),
    )

-- the commands that have ended within some bytes are the first of those that have ended within more
pub ended_before_more : (bytes more : List ℕ) → (others : List Command) × (ended_commands (bytes ++ more) ≡ ended_commands bytes ++ others)
ended_before_more bytes more =
    let later = commands-append false None (ended bytes) (ended (rest_of bytes ++ more)) in
    (commands false later.0 (ended (rest_of bytes ++ more)), ap (λ (lines : List (List ℕ)). commands false None lines) (ended-append bytes more) ∙ later.1)

-- and the first of those of an input that is longer
pub ended_before_whole : (bytes more : List ℕ) → (others : List Command) × (whole_commands (bytes ++ more) ≡ ended_commands bytes ++ others)
ended_before_whole bytes more =
    let last = last_line (rest_of (bytes ++ more)) in
    let later = commands-append true None (ended bytes) (ended (rest_of bytes ++ more) ++ last) in (
      commands true later.0 (ended (rest_of bytes ++ more) ++ last),
      ap (λ (lines : List (List ℕ)). commands true None (lines ++ last)) (ended-append bytes more)
          ∙ ap (λ (lines : List (List ℕ)). commands true None lines) (append_assoc (ended bytes) (ended (rest_of bytes ++ more)) last) ∙ later.1,
    )

-- a block that is open owes one command
abbrev owed : Option Block → ℕ
owed None = 0
owed (Some block) = 1

owes_outside : (silent takes : Bool) (command : Command) (block : Block)
    → length (if silent || takes then [] else command ∷ []) + owed (if takes then Some block else None) ≤ 1
owes_outside true true command block = omega arith
owes_outside true false command block = omega arith
owes_outside false true command block = omega arith
owes_outside false false command block = omega arith

line_owes : (block : Option Block) (line : List ℕ) → length (given block line) + owed (next block line) ≤ 1 + owed block
unfolding given next
line_owes None line =
    elim (cases_Bool (is_long line)) [
      | inl is ↦ rw (is, takes_block-long line is) (omega arith)
      | inr is ↦ rw is (owes_outside (is_silent line) (takes_block line) (line_command line None) (record { line = line; text = [] }))
    ]
line_owes (Some block) line =
    elim (cases_Bool (is_dot line)) [
      | inl is ↦ rw is (omega arith)
      | inr is ↦ rw is (omega arith)
    ]

commands-length : (over : Bool) (block : Option Block) (lines : List (List ℕ)) → length (commands over block lines) ≤ length lines + owed block
unfolding cut_off
commands-length false block [] = omega arith
commands-length true None [] = omega arith
commands-length true (Some block) [] = omega arith
commands-length over block (line ∷ lines) =
    let later = commands-length over (next block line) lines in
    let here = line_owes block line in
    simp length-append (omega arith)

feeds-length : (lines : List (List ℕ)) → length lines ≤ length (with_feeds lines)
feeds-length [] = omega arith
feeds-length (line ∷ lines) = let more = feeds-length lines in simp length-append (omega arith)

last-length : (rest : List ℕ) → length (last_line rest) ≤ length rest
last-length [] = omega arith
last-length (x ∷ rest) = omega arith

pub lines-length : (over : Bool) (bytes : List ℕ) → length (lines_of over bytes) ≤ length bytes
lines-length false bytes =
    let all = ap length (with_feeds-ended bytes) in
    omega (arith, simp length-append at all, feeds-length (ended bytes))
lines-length true bytes =
    let all = ap length (with_feeds-ended bytes) in
    omega (arith, simp length-append at all, feeds-length (ended bytes), last-length (rest_of bytes), length-append (ended bytes) (last_line (rest_of bytes)))

pub commands_of-length : (over : Bool) (bytes : List ℕ) → length (commands_of over bytes) ≤ length bytes
commands_of-length over bytes = omega (arith, commands-length over None (lines_of over bytes), lines-length over bytes)

pub stands-length : (script : Kept) (bytes : List ℕ) (n : ℕ) → Stands script bytes n → n + length script.waiting ≤ length bytes
stands-length script bytes n stands =
    let all = commands_of-length script.over bytes in
    let waits = ap length stands.follows.waits in
    let taken = stands.follows.taken in
    omega (arith, simp length-drop at waits)

-- ---- lines

pub given_lines-length : (over : Bool) (bytes : List ℕ) → length (given_lines over bytes) ≤ length bytes
given_lines-length over bytes = omega (arith, lines-length over bytes, length-map (lines_of over bytes) given_line)

-- the lines that have ended within some bytes are the first of those of more
pub lines_before_more : (bytes more : List ℕ) → (others : List Line) × (ended_lines (bytes ++ more) ≡ ended_lines bytes ++ others)
lines_before_more bytes more =
    let behind : List (List ℕ) = ended (rest_of bytes ++ more) in
    (map given_line behind, ap (λ (lines : List (List ℕ)). map given_line lines) (ended-append bytes more) ∙ map-append given_line (ended bytes) behind)

pub lines_before_whole : (bytes more : List ℕ) → (others : List Line) × (whole_lines (bytes ++ more) ≡ ended_lines bytes ++ others)
lines_before_whole bytes more =
    let last = last_line (rest_of (bytes ++ more)) in
    let behind : List (List ℕ) = ended (rest_of bytes ++ more) ++ last in (
      map given_line behind,
      ap (λ (lines : List (List ℕ)). map given_line (lines ++ last)) (ended-append bytes more)
          ∙ ap (λ (lines : List (List ℕ)). map given_line lines) (append_assoc (ended bytes) (ended (rest_of bytes ++ more)) last)
          ∙ map-append given_line (ended bytes) behind,
    )
