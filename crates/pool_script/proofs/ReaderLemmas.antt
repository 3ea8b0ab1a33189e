-- A reader stays sound, and gives the commands of what it has read.
use Rattle.std.proofs.Common.{◌≡◌, ℕ, ◌≤◌, ◌<◌, Bool, true, false, not, ◌&&◌, ◌==◌, cond, List, [], ◌∷◌, ◌++◌, length, take, Option, None, Some, Result, Ok}
use Rattle.std.proofs.Common.{Err, OnOk, OnErr, refl, sym, ◌∙◌, ap, subst, inl, inr, arith, append_assoc, length-append, codes}
use Rattle.std.proofs.Math.Seq.{take-length}
use Rattle.std.proofs.lemmas.Bool.{cases_Bool, eqb-true}
use Rattle.std.proofs.lemmas.Bool.Decides.{nat_tests}
use Rattle.std.proofs.lemmas.List.{append-nil}
use Rattle.std.proofs.lemmas.List.Folds.{list_all-append}
use Rattle.std.specs.List.{list_all}
use Rattle.std.specs.Str.{bytes_eq}
use Rattle.pool_text.specs.Lines.{ended, rest_of, whole, without_return}
use Rattle.pool_text.proofs.LineLemmas.{ended-append, rest_of-append}
use Rattle.pool_text.specs.Words.{is_empty, is_long}
use Rattle.pool_script.specs.Commands.{commands, cut_off, given, is_dot, line_command, lines_of, next, takes_block}
use Rattle.pool_script.specs.Form.{are_block_lines, is_within_form}
use Rattle.pool_script.specs.Reading.{HasRead, IsOpen, IsSound, commands_from, kept, kept_next}
use Rattle.pool_script.specs.declared.command.Command.{Command}
use Rattle.pool_script.specs.declared.reader.Block.{Block}
use Rattle.pool_script.specs.declared.reader.Reader.{Reader}
use Rattle.pool_script.proofs.CutLemmas.{ended_feed, ended_none-append, lines_feed, rest_feed, whole_none}
use Rattle.pool_script.proofs.FormLemmas.{all_form, given_form_inside, given_form_outside, line_form, none_without_return, takes_block-short, without_return-le}
use Rattle.pool_script.proofs.LongLemmas.{ended_kept, kept_block, kept_commands, kept-length}

pub bytes_sound : (old new : Reader) (bytes : List ℕ) → IsSound old → ended bytes ≡ [] → new.waiting ≡ old.waiting → new.block ≡ old.block
    → new.line.items ≡ kept (old.line.items ++ bytes) → IsSound new
bytes_sound old new bytes sound none waiting block line = record {
  form = rw waiting sound.form;
  open_block = λ b is. sound.open_block b (sym block ∙ is);
  one_line = rw line (ended_kept (old.line.items ++ bytes) (ended_none-append old.line.items bytes sound.one_line none));
  short = rw line (kept-length (old.line.items ++ bytes));
}

pub bytes_read : (old new : Reader) (bytes : List ℕ) → IsSound old → ended bytes ≡ [] → new.waiting ≡ old.waiting → new.block ≡ old.block
    → new.line.items ≡ kept (old.line.items ++ bytes) → HasRead old bytes new
bytes_read old new bytes sound none waiting block line = record {
  commands =
      λ over more. rw (waiting, block, line) (ap (λ (made : List Command). old.waiting.items
      ++ made) (kept_commands over old.block (old.line.items ++ bytes) more (ended_none-append old.line.items bytes sound.one_line none)
      ∙ ap (λ (l : List ℕ). commands over old.block (lines_of over l)) (append_assoc old.line.items bytes more)));
}

pub and_left : (a b : Bool) → (a && b) ≡ true → a ≡ true
and_left true b is = refl
and_left false b is = is

pub and_right : (a b : Bool) → (a && b) ≡ true → b ≡ true
and_right true b is = is
and_right false b is = cc

pub nil_if_empty : (bytes : List ℕ) → is_empty bytes ≡ true → bytes ≡ []
nil_if_empty [] is = refl
nil_if_empty (x ∷ bytes) is = let no : length (x ∷ bytes) ≡ 0 = eqb-true (length (x ∷ bytes)) 0 is in absurd (omega arith)

abbrev pub no_dots : List (List ℕ) → Bool
no_dots lines = list_all (λ line. not (bytes_eq line (codes "."))) lines

ended_with : (text line : List ℕ) → rest_of text ≡ [] → ended line ≡ [] → ended (text ++ line ++ 10 ∷ []) ≡ ended text ++ line ∷ []
ended_with text line whole none =
    ap (λ (l : List ℕ). ended l) (append_assoc text line (10 ∷ [])) ∙ ended-append text (line ++ 10 ∷ [])
    ∙ ap (λ (rest : List ℕ). ended text ++ ended (rest ++ (line ++ 10 ∷ []))) whole
    ∙ ap (λ (lines : List (List ℕ)). ended text ++ lines) (ended_feed line [] none)

rest_with : (text line : List ℕ) → rest_of text ≡ [] → ended line ≡ [] → rest_of (text ++ line ++ 10 ∷ []) ≡ []
rest_with text line whole none =
    ap (λ (l : List ℕ). rest_of l) (append_assoc text line (10 ∷ [])) ∙ rest_of-append text (line ++ 10 ∷ [])
    ∙ ap (λ (rest : List ℕ). rest_of (rest ++ (line ++ 10 ∷ []))) whole ∙ rest_feed line [] none

no_dots_with : (lines : List (List ℕ)) (line : List ℕ) → no_dots lines ≡ true → bytes_eq line (codes ".") ≡ false → no_dots (lines ++ line ∷ []) ≡ true
no_dots_with [] line none no_dot = rw no_dot refl
no_dots_with (l ∷ lines) line none no_dot =
    rw (
      and_left (not (bytes_eq l (codes "."))) (no_dots lines) none,
      no_dots_with lines line (and_right (not (bytes_eq l (codes "."))) (no_dots lines) none) no_dot,
    ) refl

pub are_lines_with : (text line : List ℕ) → are_block_lines text ≡ true → ended line ≡ [] → bytes_eq line (codes ".") ≡ false
    → are_block_lines (text ++ line ++ 10 ∷ []) ≡ true
are_lines_with text line are none no_dot =
    let whole = nil_if_empty (rest_of text) (and_left (is_empty (rest_of text)) (no_dots (ended text)) are) in
    let dots = and_right (is_empty (rest_of text)) (no_dots (ended text)) are in
    rw (rest_with text line whole none, ended_with text line whole none) (no_dots_with (ended text) line dots no_dot)

length_with : (text line : List ℕ) → is_long text ≡ false → length line ≤ 65537 → length (text ++ without_return line ++ 10 ∷ []) ≤ 131074
length_with text line short fits =
    let of_text : length text ≤ 65536 = grind (arith, nat_tests) in
    let of_line = without_return-le line in
    simp length-append (omega arith)

open_with : (block : Block) (line : List ℕ) → IsOpen block → ended line ≡ [] → length line ≤ 65537 → is_dot line ≡ false → is_long block.text ≡ false
    → IsOpen (record { line = block.line; text = block.text ++ without_return line ++ 10 ∷ [] })
open_with block line is_open none fits no_dot short = record {
  taken = is_open.taken;
  one_line = is_open.one_line;
  lines = are_lines_with block.text (without_return line) is_open.lines (none_without_return line none) no_dot;
  short = length_with block.text line short fits;
}

pub open_at : (old new : Block) → Some old ≡ Some new → IsOpen old → IsOpen new
open_at old new is is_open = let same : old ≡ new = cc in subst IsOpen same is_open

open_outside : (line : List ℕ) → ended line ≡ [] → (block : Block) → kept_next None line ≡ Some block → IsOpen block
unfolding kept_next next
open_outside line none block is =
    elim (cases_Bool (takes_block line)) [
      | inl takes ↦ open_at (record { line = line; text = [] }) block (rw takes at is)
          (record { taken = takes; one_line = none; lines = refl; short = omega arith })
      | inr other ↦ let no : None ≡ Some block = rw other at is in cc
    ]

open_inside : (old : Block) (line : List ℕ) → IsOpen old → ended line ≡ [] → length line ≤ 65537 → (block : Block) → kept_next (Some old) line ≡ Some block
    → IsOpen block
unfolding kept_next next
open_inside old line is_open none fits block is =
    elim (cases_Bool (is_dot line)) [
      | inl dot ↦ let no : None ≡ Some block = rw dot at is in cc
      | inr other ↦
          elim (cases_Bool (is_long old.text)) [
            | inl long ↦ open_at old block (rw (other, long) at is) is_open
            | inr short ↦ open_at (record { line = old.line; text = old.text ++ without_return line ++ 10 ∷ [] }) block (rw (other, short) at is)
                (open_with old line is_open none fits other short)
          ]
    ]

open_next : (old : Option Block) (line : List ℕ) → ((b : Block) → old ≡ Some b → IsOpen b) → ended line ≡ [] → length line ≤ 65537 → (block : Block)
    → kept_next old line ≡ Some block → IsOpen block
open_next None line is_open none fits block is = open_outside line none block is
open_next (Some old) line is_open none fits block is = open_inside old line (is_open old refl) none fits block is

given_form : (old : Option Block) (line : List ℕ) → ((b : Block) → old ≡ Some b → IsOpen b) → ended line ≡ [] → list_all is_within_form (given old line) ≡ true
given_form None line is_open none = given_form_outside line none
given_form (Some old) line is_open none = given_form_inside old line (is_open old refl)

all_with : (waiting made : List Command) → list_all is_within_form waiting ≡ true → list_all is_within_form made ≡ true
    → list_all is_within_form (waiting ++ made) ≡ true
all_with waiting made of_waiting of_made = rw (list_all-append is_within_form waiting made, of_waiting, of_made) refl

pub feed_sound : (old new : Reader) (line : List ℕ) → IsSound old → ended line ≡ [] → length line ≤ 65537
    → new.waiting.items ≡ old.waiting.items ++ given old.block line → new.block ≡ kept_next old.block line → new.line.items ≡ [] → IsSound new
feed_sound old new line sound none fits waiting block empty = record {
  form = rw waiting (all_with old.waiting.items (given old.block line) sound.form (given_form old.block line sound.open_block none));
  open_block = λ b is. open_next old.block line sound.open_block none fits b (sym block ∙ is);
  one_line = rw empty refl;
  short = rw empty (omega arith);
}

-- the end of a line, whether it could be read or not
pub line_end_sound : {T E : Type 0} (r : Result T E) (old new : Reader) (line : List ℕ) → IsSound old → ended line ≡ [] → length line ≤ 65537
    → OnOk r (new.waiting.items ≡ old.waiting.items ++ given old.block line) → OnOk r (new.block ≡ kept_next old.block line)
    → OnErr r (new.waiting.items ≡ old.waiting.items) → OnErr r (new.block ≡ None) → new.line.items ≡ [] → IsSound new
line_end_sound (Ok x) old new line sound empty fits waiting block same none begun = feed_sound old new line sound empty fits waiting block begun
line_end_sound (Err e) old new line sound empty fits waiting block same none begun = record {
  form = rw same sound.form;
  open_block = λ b is. let no : ◌≡◌ {A = Option Block} None (Some b) = sym none ∙ is in absurd (cc);
  one_line = rw begun refl;
  short = rw begun (omega arith);
}

feed_commands : (over : Bool) (waiting : List Command) (block : Option Block) (line more : List ℕ) → ended line ≡ []
    → (waiting ++ given block line) ++ commands over (kept_next block line) (lines_of over more)
    ≡ waiting ++ commands over block (lines_of over (line ++ 10 ∷ more))
feed_commands over waiting block line more none =
    append_assoc waiting (given block line) (commands over (kept_next block line) (lines_of over more))
    ∙ ap (λ (made : List Command). waiting ++ (given block line ++ made)) (kept_block over block line (lines_of over more))
    ∙ ap (λ (lines : List (List ℕ)). waiting ++ commands over block lines) (sym (lines_feed over line more none))

-- the bytes end the line
pub feed_read : (old new : Reader) (line bytes : List ℕ) → ended line ≡ [] → old.line.items ++ bytes ≡ line ++ 10 ∷ []
    → new.waiting.items ≡ old.waiting.items ++ given old.block line → new.block ≡ kept_next old.block line → new.line.items ≡ [] → HasRead old bytes new
feed_read old new line bytes none ends waiting block begun = record {
  commands = λ over more.
      let joined : line ++ 10 ∷ more ≡ old.line.items ++ (bytes ++ more) =
      sym (append_assoc line (10 ∷ []) more) ∙ ap (λ (l : List ℕ). l ++ more) (sym ends) ∙ append_assoc old.line.items bytes more in
      rw (waiting, block, begun) (feed_commands over old.waiting.items old.block line more none ∙ ap (λ (l : List ℕ). old.waiting.items
      ++ commands over old.block (lines_of over l)) joined);
}

pub line_end_read : {T E : Type 0} (r : Result T E) (old new : Reader) (line bytes : List ℕ) → ended line ≡ [] → old.line.items ++ bytes ≡ line ++ 10 ∷ []
    → OnOk r (new.waiting.items ≡ old.waiting.items ++ given old.block line) → OnOk r (new.block ≡ kept_next old.block line)
    → new.line.items ≡ [] → OnOk r (HasRead old bytes new)
line_end_read (Ok x) old new line bytes none ends waiting block begun = feed_read old new line bytes none ends waiting block begun
line_end_read (Err e) old new line bytes none ends waiting block begun = tt

-- a line without its carriage return is a front of it
pub without_return-front : (line : List ℕ) → take (length (without_return line)) line ≡ without_return line
without_return-front [] = refl
without_return-front (byte ∷ []) = by (byte == 13)
  where
    by : (b : Bool) → take (length (cond b [] (byte ∷ []))) (byte ∷ []) ≡ cond b [] (byte ∷ [])
    by true = refl
    by false = refl
without_return-front (byte ∷ next ∷ bytes) = ap (λ l. byte ∷ l) (without_return-front (next ∷ bytes))

-- of which nothing is dropped where it is as long
pub without_return-none : (line : List ℕ) → length (without_return line) ≡ length line → without_return line ≡ line
without_return-none line same = sym (without_return-front line) ∙ ap (λ (n : ℕ). take n line) same ∙ take-length line

-- an input that ends with a line feed, and one that lacks it
pub end_with_line : (old new : Reader) → IsSound old → 0 < length old.line.items → HasRead old (10 ∷ []) new → new.line.items ≡ []
    → new.waiting.items ++ cut_off new.block ≡ commands_from true old []
end_with_line old new sound some read none =
    let at_end : commands_from true new [] ≡ new.waiting.items ++ cut_off new.block =
    ap (λ (l : List ℕ). new.waiting.items ++ commands true new.block (lines_of true (l ++ []))) none in
    let as_line : lines_of true (old.line.items ++ 10 ∷ []) ≡ lines_of true (old.line.items ++ []) =
    lines_feed true old.line.items [] sound.one_line ∙ sym (ap (λ (l : List ℕ). lines_of true l) (append-nil old.line.items)
    ∙ whole_none old.line.items sound.one_line some) in
    sym at_end ∙ read.commands true [] ∙ ap (λ (lines : List (List ℕ)). old.waiting.items ++ commands true old.block lines) as_line

cut_off_form : (block : Option Block) → ((b : Block) → block ≡ Some b → IsOpen b) → list_all is_within_form (cut_off block) ≡ true
unfolding cut_off
cut_off_form None is_open = refl
cut_off_form (Some block) is_open =
    let opened = is_open block refl in
    all_form (line_command block.line None) (line_form block.line None (takes_block-short block.line opened.taken) opened.one_line tt)

pub end_sound : (old new : Reader) → IsSound old → new.waiting.items ≡ old.waiting.items ++ cut_off old.block → new.block ≡ None
    → new.line.items ≡ old.line.items → IsSound new
end_sound old new sound waiting block line = record {
  form = rw waiting (all_with old.waiting.items (cut_off old.block) sound.form (cut_off_form old.block sound.open_block));
  open_block = λ b is. let no : None ≡ Some b = sym block ∙ is in cc;
  one_line = rw line sound.one_line;
  short = rw line sound.short;
}

-- the block that the input ends within is refused, or there is no memory for that
pub ended_sound : {T E : Type 0} (r : Result T E) (old new : Reader) → IsSound old → OnOk r (new.waiting.items ≡ old.waiting.items ++ cut_off old.block)
    → OnErr r (new.waiting.items ≡ old.waiting.items) → new.block ≡ None → new.line.items ≡ old.line.items → IsSound new
ended_sound (Ok u) old new sound ok err block line = end_sound old new sound ok block line
ended_sound (Err e) old new sound ok err block line = record {
  form = rw err sound.form;
  open_block = λ b is. let no : None ≡ Some b = sym block ∙ is in cc;
  one_line = rw line sound.one_line;
  short = rw line sound.short;
}

-- what holds anyway holds of a result
pub anyway : {T E P : Type 0} (r : Result T E) → P → OnOk r P
anyway (Ok u) is = is
anyway (Err e) is = tt
