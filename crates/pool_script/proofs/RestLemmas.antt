-- The bytes that a reader keeps give the commands that the reader gives.
use Rattle.std.proofs.Common.{◌≡◌, ℕ, ◌*◌, ◌≤◌, Bool, true, false, not, ◌||◌, List, [], ◌∷◌, ◌++◌, length, map, Option, None, Some, refl, sym, ◌∙◌, ap, arith}
use Rattle.std.proofs.Common.{append_assoc, length-append, codes}
use Rattle.std.proofs.lemmas.Bool.Decides.{nat_tests}
use Rattle.std.proofs.lemmas.List.{append-nil}
use Rattle.std.specs.Str.{bytes_eq}
use Rattle.pool_text.specs.Lines.{ended, rest_of, with_feeds, without_return}
use Rattle.pool_text.proofs.LineLemmas.{with_feeds-ended}
use Rattle.pool_text.specs.Words.{is_empty, is_silent}
use Rattle.pool_script.specs.Commands.{commands, commands_of, ended_commands, given, is_dot, lines_of, next, takes_block}
use Rattle.pool_script.specs.Reading.{IsOpen, IsSound, commands_from, rest_kept, with_return}
use Rattle.pool_script.specs.declared.command.Command.{Command}
use Rattle.pool_script.specs.declared.reader.Block.{Block}
use Rattle.pool_script.specs.declared.reader.Reader.{Reader}
use Rattle.pool_script.proofs.CutLemmas.{AreLines, are_lines, ended_none-append, lines_feed, lines_feeds}
use Rattle.pool_script.proofs.FormLemmas.{takes_block-short}
use Rattle.pool_text.proofs.ReturnLemmas.{without_return-push}
use Rattle.pool_script.proofs.LongLemmas.{block_at}
use Rattle.pool_script.proofs.ReaderLemmas.{and_left, and_right, nil_if_empty, no_dots}

or_true : (b : Bool) → (b || true) ≡ true
or_true true = refl
or_true false = refl

pub not_true : (b : Bool) → not b ≡ true → b ≡ false
not_true true is = sym is
not_true false is = refl

-- a line that takes a block gives no command
takes_given : (line : List ℕ) → takes_block line ≡ true → given None line ≡ []
unfolding given
takes_given line takes = rw (takes_block-short line takes, takes, or_true (is_silent line)) refl

takes_next : (line : List ℕ) → takes_block line ≡ true → next None line ≡ block_at line []
unfolding next
takes_next line takes = rw takes refl

-- a line that isn't a dot goes into the block's text
pub text_step : (over : Bool) (line text l : List ℕ) (lines : List (List ℕ)) → is_dot l ≡ false
    → commands over (block_at line text) (l ∷ lines) ≡ commands over (block_at line (text ++ without_return l ++ 10 ∷ [])) lines
unfolding given next
text_step over line text l lines is = rw is refl

-- a text with its first line taken out of those behind it
pub text_feeds : (text line : List ℕ) (lines : List (List ℕ)) → (text ++ line ++ 10 ∷ []) ++ with_feeds lines ≡ text ++ with_feeds (line ∷ lines)
text_feeds text line lines =
    ap (λ (t : List ℕ). t ++ with_feeds lines) (append_assoc text line (10 ∷ [])) ∙ append_assoc text (line ++ 10 ∷ []) (with_feeds lines)

dropped : (l : List ℕ) → without_return (with_return l) ≡ l
dropped l = without_return-push l 13

-- the lines of a text, with their carriage returns, make the text again
text_again : (over : Bool) (line text : List ℕ) (lines more : List (List ℕ)) → no_dots lines ≡ true
    → commands over (block_at line text) (map with_return lines ++ more) ≡ commands over (block_at line (text ++ with_feeds lines)) more
text_again over line text [] more none = ap (λ (t : List ℕ). commands over (block_at line t) more) (sym (append-nil text))
text_again over line text (l ∷ lines) more none =
    let no_dot : is_dot (with_return l) ≡ false =
    ap (λ (w : List ℕ). bytes_eq w (codes ".")) (dropped l)
    ∙ not_true (bytes_eq l (codes ".")) (and_left (not (bytes_eq l (codes "."))) (no_dots lines) none) in
    text_step over line text (with_return l) (map with_return lines ++ more) no_dot
    ∙ ap (λ (w : List ℕ). commands over (block_at line (text ++ w ++ 10 ∷ [])) (map with_return lines ++ more)) (dropped l)
    ∙ text_again over line (text ++ l ++ 10 ∷ []) lines more (and_right (not (bytes_eq l (codes "."))) (no_dots lines) none)
    ∙ ap (λ (t : List ℕ). commands over (block_at line t) more) (text_feeds text l lines)

lines_with_return : (lines : List (List ℕ)) → AreLines lines → AreLines (map with_return lines)
lines_with_return [] are = tt
lines_with_return (line ∷ lines) are = (ended_none-append line (13 ∷ []) are.0 refl, lines_with_return lines are.1)

whole_text : (text : List ℕ) → rest_of text ≡ [] → with_feeds (ended text) ≡ text
whole_text text whole_lines =
    sym (append-nil (with_feeds (ended text))) ∙ ap (λ (rest : List ℕ). with_feeds (ended text) ++ rest) (sym whole_lines) ∙ with_feeds-ended text

block_rest : (over : Bool) (block : Block) (line more : List ℕ) → IsOpen block
    → commands_of over (rest_kept (Some block) line ++ more) ≡ commands over (Some block) (lines_of over (line ++ more))
unfolding rest_kept
block_rest over block line more is_open =
    let feeds = with_feeds (map with_return (ended block.text)) in
    let dots = and_right (is_empty (rest_of block.text)) (no_dots (ended block.text)) is_open.lines in
    let none = nil_if_empty (rest_of block.text) (and_left (is_empty (rest_of block.text)) (no_dots (ended block.text)) is_open.lines) in
    let regrouped : (block.line ++ 10 ∷ (feeds ++ line)) ++ more ≡ block.line ++ 10 ∷ (feeds ++ (line ++ more)) =
    append_assoc block.line (10 ∷ (feeds ++ line)) more ∙ ap (λ (rest : List ℕ). block.line ++ 10 ∷ rest) (append_assoc feeds line more) in
    let as_lines : lines_of over ((block.line ++ 10 ∷ (feeds ++ line)) ++ more)
    ≡ block.line ∷ (map with_return (ended block.text) ++ lines_of over (line ++ more)) =
    ap (λ (bytes : List ℕ). lines_of over bytes) regrouped ∙ lines_feed over block.line (feeds ++ (line ++ more)) is_open.one_line
    ∙ ap (λ (lines : List (List ℕ)). block.line ∷ lines)
    (lines_feeds over (map with_return (ended block.text)) (line ++ more) (lines_with_return (ended block.text) (are_lines block.text))) in
    let opened : commands over None (block.line ∷ (map with_return (ended block.text) ++ lines_of over (line ++ more)))
    ≡ commands over (block_at block.line []) (map with_return (ended block.text) ++ lines_of over (line ++ more)) =
    rw (takes_given block.line is_open.taken, takes_next block.line is_open.taken) refl in
    ap (λ (lines : List (List ℕ)). commands over None lines) as_lines ∙ opened
    ∙ text_again over block.line [] (ended block.text) (lines_of over (line ++ more)) dots
    ∙ ap (λ (t : List ℕ). commands over (block_at block.line t) (lines_of over (line ++ more))) (whole_text block.text none)

rest_commands : (over : Bool) (block : Option Block) (line more : List ℕ) → ((b : Block) → block ≡ Some b → IsOpen b)
    → commands_of over (rest_kept block line ++ more) ≡ commands over block (lines_of over (line ++ more))
unfolding rest_kept
rest_commands over None line more is_open = refl
rest_commands over (Some block) line more is_open = block_rest over block line more (is_open block refl)

-- the bytes that a reader keeps
abbrev pub rest_in : Reader → List ℕ
rest_in reader = rest_kept reader.block reader.line.items

-- what the reader gives, by the bytes that it keeps
pub commands_from-rest : (over : Bool) (reader : Reader) (more : List ℕ) → IsSound reader
    → commands_from over reader more ≡ reader.waiting.items ++ commands_of over (rest_in reader ++ more)
commands_from-rest over reader more sound =
    ap (λ (made : List Command). reader.waiting.items ++ made) (sym (rest_commands over reader.block reader.line.items more sound.open_block))

-- no command has ended in the bytes that a reader keeps
pub none_ended : (reader : Reader) → IsSound reader → ended_commands (rest_in reader) ≡ []
none_ended reader sound =
    let none : ended (reader.line.items ++ []) ≡ [] = ap (λ (l : List ℕ). ended l) (append-nil reader.line.items) ∙ sound.one_line in
    ap (λ (l : List ℕ). ended_commands l) (sym (append-nil (rest_in reader))) ∙ rest_commands false reader.block reader.line.items [] sound.open_block
    ∙ ap (λ (lines : List (List ℕ)). commands false reader.block lines) none

feeds_length : (lines : List (List ℕ)) → length (with_feeds (map with_return lines)) ≤ 2 * length (with_feeds lines)
feeds_length [] = omega arith
feeds_length (line ∷ lines) = let more = feeds_length lines in simp length-append (omega arith)

text_length : (text : List ℕ) → length (with_feeds (ended text)) ≤ length text
text_length text = let all = ap length (with_feeds-ended text) in omega (arith, simp length-append at all)

rest_length : (block : Option Block) (line : List ℕ) → ((b : Block) → block ≡ Some b → IsOpen b) → length line ≤ 65537
    → length (rest_kept block line) ≤ 6 * 65537
unfolding rest_kept
rest_length None line is_open short = omega arith
rest_length (Some block) line is_open short =
    let opened = is_open block refl in
    let not_long = takes_block-short block.line opened.taken in
    let of_line : length block.line ≤ 65536 = grind (arith, nat_tests) in
    let of_text = text_length block.text in
    let of_feeds = feeds_length (ended block.text) in
    let of_short = opened.short in
    simp length-append (omega arith)

pub rest_in-length : (reader : Reader) → IsSound reader → length (rest_in reader) ≤ 6 * 65537
rest_in-length reader sound = rest_length reader.block reader.line.items sound.open_block sound.short
