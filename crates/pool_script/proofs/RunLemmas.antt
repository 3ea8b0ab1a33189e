-- Lines that a block takes all at once give what they give one by one.
use Rattle.std.proofs.Common.{◌≡◌, ℕ, ◌-◌, ◌+◌, ◌≤◌, Bool, true, false, not, eqb, List, [], ◌∷◌, ◌++◌, length, take, drop, Some, Result, Ok, Err, IfOk, OnOk}
use Rattle.std.proofs.Common.{OnErr, Bor, refl, sym, ◌∙◌, ap, subst, inl, inr, arith, append_assoc, length-append, codes}
use Rattle.std.proofs.lemmas.Bool.{cases_Bool, eqb-true}
use Rattle.std.proofs.Math.Seq.{take-append_seam}
use Rattle.std.proofs.lemmas.Grind.{flat_map-append}
use Rattle.std.proofs.lemmas.List.{append-nil, length-take, take-append-drop}
use Rattle.std.proofs.lemmas.List.Sums.{take_while-cons}
use Rattle.std.specs.List.{prefix_len, take_while}
use Rattle.std.specs.Str.{bytes_eq}
use Rattle.pool_text.specs.Lines.{ended, rest_of, with_feeds, without_return}
use Rattle.pool_text.proofs.LineLemmas.{with_feeds-ended}
use Rattle.pool_script.specs.Commands.{commands, is_dot, lines_of}
use Rattle.pool_script.specs.Cuts.{CutsAtFeed}
use Rattle.pool_script.specs.Form.{are_block_lines}
use Rattle.pool_script.specs.Reading.{HasReadTo, IsOpen, IsSound}
use Rattle.pool_script.specs.Runs.{is_plain, run_into, run_of}
use Rattle.pool_script.specs.declared.command.Command.{Command}
use Rattle.pool_script.specs.declared.reader.Block.{Block}
use Rattle.pool_script.specs.declared.reader.Reader.{Reader}
use Rattle.pool_script.proofs.CutLemmas.{AreLines, are_lines, ended_feed, lines_feeds}
use Rattle.pool_script.proofs.LongLemmas.{block_at}
use Rattle.pool_script.proofs.ReaderLemmas.{and_left, and_right, are_lines_with, open_at, without_return-none}
use Rattle.pool_script.proofs.RestLemmas.{not_true, text_feeds, text_step}

-- ---- how long a run is

taken_first : (line : List ℕ) (lines : List (List ℕ)) → is_plain line ≡ true → take_while is_plain (line ∷ lines) ≡ line ∷ take_while is_plain lines
taken_first line lines plain = rw (take_while-cons is_plain line lines, plain) refl

none_taken : (line : List ℕ) (lines : List (List ℕ)) → is_plain line ≡ false → take_while is_plain (line ∷ lines) ≡ []
none_taken line lines other = rw (take_while-cons is_plain line lines, other) refl

lines_at : (bytes line with_feed behind : List ℕ) → CutsAtFeed bytes line with_feed behind → ended bytes ≡ line ∷ ended behind
lines_at bytes line with_feed behind cuts = ap (λ (l : List ℕ). ended l) (sym cuts.parts) ∙ ended_feed line behind cuts.one_line

-- a line that is taken makes the run longer by its bytes and its line feed
run_line : (bytes line with_feed behind : List ℕ) → CutsAtFeed bytes line with_feed behind → is_plain line ≡ true
    → length (run_of bytes) ≡ length line + 1 + length (run_of behind)
run_line bytes line with_feed behind cuts plain =
    let run : run_of bytes ≡ (line ++ 10 ∷ []) ++ run_of behind =
    ap (λ (lines : List (List ℕ)). with_feeds (take_while is_plain lines)) (lines_at bytes line with_feed behind cuts)
    ∙ ap with_feeds (taken_first line (ended behind) plain) in
    ap length run ∙ simp length-append (omega arith)

cut_length : (bytes line with_feed behind : List ℕ) → CutsAtFeed bytes line with_feed behind → length bytes ≡ length line + 1 + length behind
cut_length bytes line with_feed behind cuts = ap length (sym cuts.parts) ∙ simp length-append (omega arith)

-- the bytes that are left of others reach as far as those, and so do their runs
pub record IsLeft (all left : List ℕ) : Type 0 where
  pub no_more : length left ≤ length all
  pub run : length (run_of all) + length left ≡ length all + length (run_of left)

pub left_behind : (all left line with_feed behind : List ℕ) → IsLeft all left → CutsAtFeed left line with_feed behind → is_plain line ≡ true → IsLeft all behind
left_behind all left line with_feed behind is_left cuts plain =
    let cut = cut_length left line with_feed behind cuts in
    let longer = run_line left line with_feed behind cuts plain in
    record { no_more = omega (arith, is_left.no_more); run = omega (arith, is_left.run) }

-- a line that isn't taken ends the run
pub run_at_other : (bytes line with_feed behind : List ℕ) → CutsAtFeed bytes line with_feed behind → is_plain line ≡ false → length (run_of bytes) ≡ 0
run_at_other bytes line with_feed behind cuts other =
    ap (λ (lines : List (List ℕ)). length (with_feeds (take_while is_plain lines))) (lines_at bytes line with_feed behind cuts)
    ∙ ap (λ (lines : List (List ℕ)). length (with_feeds lines)) (none_taken line (ended behind) other)

-- and so does a line that hasn't ended
pub run_at_end : (bytes : List ℕ) → ended bytes ≡ [] → length (run_of bytes) ≡ 0
run_at_end bytes none = ap (λ (lines : List (List ℕ)). length (with_feeds (take_while is_plain lines))) none

-- the run stands at the front
run_front : (bytes : List ℕ) → (rest : List ℕ) × (run_of bytes ++ rest ≡ bytes)
run_front bytes =
    let n = prefix_len is_plain (ended bytes) in
    let others = with_feeds (drop n (ended bytes)) in (
      others ++ rest_of bytes,
      sym (append_assoc (run_of bytes) others (rest_of bytes))
          ∙ ap (λ (l : List ℕ). l ++ rest_of bytes) (sym (flat_map-append (λ line. line ++ 10 ∷ []) (take n (ended bytes)) (drop n (ended bytes)))
          ∙ ap with_feeds (take-append-drop n (ended bytes)))
          ∙ with_feeds-ended bytes,
    )

-- what a block takes stands at the front of the piece
run_into-front : (block : Block) (piece : List ℕ) → (left : List ℕ) × (run_into block piece ++ left ≡ piece)
run_into-front block piece =
    let room = 65536 - length block.text in
    let front = run_front (take room piece) in (
      front.0 ++ drop room piece,
      sym (append_assoc (run_into block piece) front.0 (drop room piece)) ∙ ap (λ (l : List ℕ). l
          ++ drop room piece) front.1 ∙ take-append-drop room piece,
    )

-- so that it is told by its length
pub taken_run : (block : Block) (piece : List ℕ) → take (length (run_into block piece)) piece ≡ run_into block piece
taken_run block piece =
    let front = run_into-front block piece in
    ap (λ (l : List ℕ). take (length (run_into block piece)) l) (sym front.1) ∙ take-append_seam (run_into block piece) front.0

pub run_and_left : (block : Block) (piece : List ℕ) → run_into block piece ++ drop (length (run_into block piece)) piece ≡ piece
run_and_left block piece =
    ap (λ (run : List ℕ). run ++ drop (length (run_into block piece)) piece) (sym (taken_run block piece))
    ∙ take-append-drop (length (run_into block piece)) piece

pub run_within : (block : Block) (piece : List ℕ) → length (run_into block piece) ≤ length piece
run_within block piece = let all = ap length (run_into-front block piece).1 in omega (arith, simp length-append at all)

-- and fits
run_into-fits : (block : Block) (piece : List ℕ) → length (run_into block piece) ≤ 65536 - length block.text
run_into-fits block piece =
    let room = 65536 - length block.text in
    let front = run_front (take room piece) in
    let all = ap length front.1 in
    omega (arith, simp length-append at all, length-take room piece)

-- ---- what a run gives

-- lines that a block takes as they stand
abbrev ArePlain : List (List ℕ) → Type 0
ArePlain [] = Unit {0}
ArePlain (line ∷ lines) = (is_dot line ≡ false) × (without_return line ≡ line) × ArePlain lines

plain_line : (line : List ℕ) → is_plain line ≡ true → (is_dot line ≡ false) × (without_return line ≡ line)
plain_line line is =
    let same_length = and_right (not (is_dot line)) (eqb (length (without_return line)) (length line)) is in (
      not_true (is_dot line) (and_left (not (is_dot line)) (eqb (length (without_return line)) (length line)) is),
      without_return-none line (eqb-true (length (without_return line)) (length line) same_length),
    )

are_plain : (lines : List (List ℕ)) → ArePlain (take_while is_plain lines)
are_plain [] = tt
are_plain (line ∷ lines) =
    elim (cases_Bool (is_plain line)) [
      | inl is ↦ let plain = plain_line line is in rw (taken_first line lines is) (plain.0, plain.1, are_plain lines)
      | inr is ↦ rw (none_taken line lines is) tt
    ]

taken_lines : (lines : List (List ℕ)) → AreLines lines → AreLines (take_while is_plain lines)
taken_lines [] are = tt
taken_lines (line ∷ lines) are =
    elim (cases_Bool (is_plain line)) [
      | inl is ↦ rw (taken_first line lines is) (are.0, taken_lines lines are.1)
      | inr is ↦ rw (none_taken line lines is) tt
    ]

text_run : (over : Bool) (line text : List ℕ) (lines more : List (List ℕ)) → ArePlain lines
    → commands over (block_at line text) (lines ++ more) ≡ commands over (block_at line (text ++ with_feeds lines)) more
text_run over line text [] more plain = ap (λ (t : List ℕ). commands over (block_at line t) more) (sym (append-nil text))
text_run over line text (l ∷ lines) more plain =
    text_step over line text l (lines ++ more) plain.0
    ∙ ap (λ (w : List ℕ). commands over (block_at line (text ++ w ++ 10 ∷ [])) (lines ++ more)) plain.1
    ∙ text_run over line (text ++ l ++ 10 ∷ []) lines more plain.2
    ∙ ap (λ (t : List ℕ). commands over (block_at line t) more) (text_feeds text l lines)

-- a block that took a run gives what it gave before the run
run_commands : (over : Bool) (block : Block) (bytes more : List ℕ)
    → commands over (block_at block.line (block.text ++ run_of bytes)) (lines_of over more) ≡ commands over (Some block) (lines_of over (run_of bytes ++ more))
run_commands over block bytes more =
    let lines = take_while is_plain (ended bytes) in
    sym (text_run over block.line block.text lines (lines_of over more) (are_plain (ended bytes)))
    ∙ ap (λ (l : List (List ℕ)). commands over (Some block) l) (sym (lines_feeds over lines more (taken_lines (ended bytes) (are_lines bytes))))

text_run_form : (text : List ℕ) (lines : List (List ℕ)) → AreLines lines → ArePlain lines → are_block_lines text ≡ true
    → are_block_lines (text ++ with_feeds lines) ≡ true
text_run_form text [] are plain form = ap are_block_lines (append-nil text) ∙ form
text_run_form text (line ∷ lines) are plain form =
    let no_dot : bytes_eq line (codes ".") ≡ false = ap (λ (w : List ℕ). bytes_eq w (codes ".")) (sym plain.1) ∙ plain.0 in
    ap are_block_lines (sym (text_feeds text line lines))
    ∙ text_run_form (text ++ line ++ 10 ∷ []) lines are.1 plain.2 (are_lines_with text line form are.0 no_dot)

-- and stays a block that has begun
open_run : (block : Block) (piece : List ℕ) → IsOpen block → IsOpen (record { line = block.line; text = block.text ++ run_into block piece })
open_run block piece is_open =
    let fitting = take (65536 - length block.text) piece in
    let fits = run_into-fits block piece in
    let short = is_open.short in
    record {
      taken = is_open.taken;
      one_line = is_open.one_line;
      lines =
          text_run_form block.text (take_while is_plain (ended fitting)) (taken_lines (ended fitting) (are_lines fitting)) (are_plain (ended fitting))
          is_open.lines;
      short = rw length-append (omega arith);
    }

-- a block with the run that it takes
abbrev with_run : Block → List ℕ → Block
with_run block piece = record { line = block.line; text = block.text ++ run_into block piece }

-- a reader whose open block takes a run stays sound, and so does one that has no memory for it
pub run_sound : {T E : Type 0} (r : Result T E) (old new : Reader) (block longer : Block) (piece : List ℕ) → IsSound old → old.block ≡ Some block
    → OnOk r (longer ≡ with_run block piece) → OnErr r (longer ≡ block) → new.waiting ≡ old.waiting → new.block ≡ Some longer → new.line ≡ old.line
    → IsSound new
run_sound {T} {E} r old new block longer piece sound is ok err waiting longer_is line = record {
  form = rw waiting sound.form;
  open_block = λ b is_b. open_at longer b (sym longer_is ∙ is_b) (open_longer r ok err);
  one_line = rw line sound.one_line;
  short = rw line sound.short;
}
  where
    open_longer : (r : Result T E) → OnOk r (longer ≡ with_run block piece) → OnErr r (longer ≡ block) → IsOpen longer
    open_longer (Ok t) ok err = subst IsOpen (sym ok) (open_run block piece (sound.open_block block is))
    open_longer (Err e) ok err = subst IsOpen (sym err) (sound.open_block block is)

-- and has read the piece up to what is left behind the run
run_reads : (old new : Reader) (block : Block) (piece left : List ℕ) → old.block ≡ Some block → old.line.items ≡ [] → new.waiting ≡ old.waiting
    → new.block ≡ Some (with_run block piece) → new.line ≡ old.line → run_into block piece ++ left ≡ piece → HasReadTo old piece new left
run_reads old new block piece left is begun waiting longer line parts = record {
  no_more = let all = ap length parts in omega (arith, simp length-append at all);
  commands = λ over more.
      let run = run_into block piece in
      rw (waiting, longer, line, begun, is)
      (ap (λ (made : List Command). old.waiting.items ++ made)
      (run_commands over block (take (65536 - length block.text) piece) (left ++ more)
      ∙ ap (λ (bytes : List ℕ). commands over (Some block) (lines_of over bytes))
      (sym (append_assoc run left more) ∙ ap (λ (l : List ℕ). l ++ more) parts)));
}

pub run_read : {E : Type 0} (r : Result (Bor (List ℕ)) E) (old new : Reader) (block longer : Block) (piece : List ℕ) → old.block ≡ Some block
    → old.line.items ≡ [] → OnOk r (longer ≡ with_run block piece) → IfOk r (λ left. run_into block piece ++ left.now ≡ piece) → new.waiting ≡ old.waiting
    → new.block ≡ Some longer → new.line ≡ old.line → IfOk r (λ left. HasReadTo old piece new left.now)
run_read (Ok left) old new block longer piece is begun ok parts waiting longer_is line =
    run_reads old new block piece left.now is begun waiting (longer_is ∙ ap (λ (b : Block). Some b) ok) line parts
run_read (Err e) old new block longer piece is begun ok parts waiting longer_is line = tt
