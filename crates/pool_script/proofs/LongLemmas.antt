-- Of a line or a block that is too long, the bytes past the limit make no difference.
use Rattle.std.proofs.Common.{◌≡◌, ℕ, ◌-◌, ◌+◌, ◌≤◌, ◌<◌, Bool, true, false, eqb, ltb, List, [], ◌∷◌, ◌++◌, length, min, take, Option, None, Some, Err, refl}
use Rattle.std.proofs.Common.{sym, ◌∙◌, ap, inl, inr, arith, append_assoc, length-append, codes}
use Rattle.std.proofs.Math.Seq.{take-append-add}
use Rattle.std.proofs.lemmas.Bool.{cases_Bool}
use Rattle.std.proofs.lemmas.Bool.Decides.{nat_tests}
use Rattle.std.proofs.lemmas.List.{append-nil, length-take, length-take-le, take_all, take_min}
use Rattle.std.proofs.lemmas.Slice.Eq.{bytes_eq-Decides}
use Rattle.std.specs.Option.{option_map_or}
use Rattle.pool_text.specs.Lines.{ended, last_line, whole, without_return}
use Rattle.pool_text.specs.Words.{is_long, text_of, word_of, words_behind}
use Rattle.pool_script.specs.Commands.{commands, cut_off, given, is_dot, line_command, lines_of, next, takes_block}
use Rattle.pool_script.specs.Keywords.{keyword_of}
use Rattle.pool_script.specs.Reading.{kept, kept_next}
use Rattle.pool_script.specs.Rows.{advertise, block_text, gang, keyword_command, query, submit}
use Rattle.pool_script.specs.declared.command.Command.{Command}
use Rattle.pool_script.specs.declared.command.Command.TheVariants as command
use Rattle.pool_script.specs.declared.keyword.Keyword.{Keyword}
use Rattle.pool_script.specs.declared.keyword.Keyword.TheVariants as word
use Rattle.pool_script.specs.declared.reader.Block.{Block}
use Rattle.pool_script.proofs.CutLemmas.{ended_none-append, ended_none-take, lines_feed, rest_of-none}

pub is_long-append : (a b : List ℕ) → is_long a ≡ true → is_long (a ++ b) ≡ true
is_long-append a b long = rw length-append (grind (arith, nat_tests))

block_text-long : (text : List ℕ) → is_long text ≡ true → block_text (Some text) ≡ Err 5
unfolding block_text
block_text-long text long = let no : ltb 65536 (length text) ≡ true = long in grind (arith, nat_tests)

same_answer : (k : Keyword) (words text text2 : List ℕ) → block_text (Some text) ≡ block_text (Some text2)
    → keyword_command k words (Some text) ≡ keyword_command k words (Some text2)
unfolding keyword_command advertise query submit gang
same_answer word.Clock words text text2 same = refl
same_answer word.Advertise words text text2 same = rw same refl
same_answer word.Withdraw words text text2 same = refl
same_answer word.Show words text text2 same = refl
same_answer word.List words text text2 same = refl
same_answer word.Eval words text text2 same = refl
same_answer word.EvalIn words text text2 same = refl
same_answer word.Query words text text2 same = rw same refl
same_answer word.Submit words text text2 same = rw same refl
same_answer word.Remove words text text2 same = refl
same_answer word.Priority words text text2 same = refl
same_answer word.Gang words text text2 same = rw same refl
same_answer word.Negotiate words text text2 same = refl
same_answer word.Claim words text text2 same = refl
same_answer word.Release words text text2 same = refl
same_answer word.Jobs words text text2 same = refl
same_answer word.Job words text text2 same = refl
same_answer word.Users words text text2 same = refl
same_answer word.Why words text text2 same = refl
same_answer word.Classes words text text2 same = refl
same_answer word.Unlisten words text text2 same = refl

same_option : (k : Option Keyword) (words text text2 : List ℕ) → block_text (Some text) ≡ block_text (Some text2)
    → option_map_or (λ keyword. keyword_command keyword words (Some text)) k (command.Bad 2)
    ≡ option_map_or (λ keyword. keyword_command keyword words (Some text2)) k (command.Bad 2)
same_option None words text text2 same = refl
same_option (Some k) words text text2 same = same_answer k words text text2 same

long_answer : (line text text2 : List ℕ) → is_long text ≡ true → is_long text2 ≡ true → line_command line (Some text) ≡ line_command line (Some text2)
unfolding line_command
long_answer line text text2 long long2 =
    same_option (keyword_of (word_of (text_of line))) (words_behind (text_of line)) text text2 (block_text-long text long ∙ sym (block_text-long text2 long2))

abbrev pub block_at : List ℕ → List ℕ → Option Block
block_at line text = Some (record { line = line; text = text })

-- two texts that are too long are answered alike
pub long_texts : (over : Bool) (line text text2 : List ℕ) (lines : List (List ℕ)) → is_long text ≡ true → is_long text2 ≡ true
    → commands over (block_at line text) lines ≡ commands over (block_at line text2) lines
unfolding given next cut_off
long_texts over line text text2 [] long long2 = refl
long_texts over line text text2 (l ∷ lines) long long2 =
    elim (cases_Bool (is_dot l)) [
      | inl is ↦ rw is (ap (λ (c : Command). c ∷ commands over None lines) (long_answer line text text2 long long2))
      | inr is ↦ rw is (long_texts over line (text ++ without_return l ++ 10 ∷ []) (text2 ++ without_return l ++ 10 ∷ []) lines
          (is_long-append (text ++ without_return l) (10 ∷ []) (is_long-append text (without_return l) long))
          (is_long-append (text2 ++ without_return l) (10 ∷ []) (is_long-append text2 (without_return l) long2)))
    ]

pub takes_block-long : (line : List ℕ) → is_long line ≡ true → takes_block line ≡ false
unfolding takes_block
takes_block-long line long = rw long refl

length_push : (line : List ℕ) (byte : ℕ) → length (line ++ byte ∷ []) ≡ length line + 1
length_push line byte = simp length-append (omega arith)

-- at most one byte is dropped
without_return-length : (line : List ℕ) → length line ≤ length (without_return line) + 1
without_return-length [] = omega arith
without_return-length (x ∷ []) =
    elim (cases_Bool (eqb x 13)) [
      | inl is ↦ rw is (omega arith)
      | inr is ↦ rw is (omega arith)
    ]
without_return-length (x ∷ y ∷ line) = let more = without_return-length (y ∷ line) in omega arith

-- a dot and a carriage return are no more than two bytes
pub is_dot_above : (line : List ℕ) → 2 < length line → is_dot line ≡ false
is_dot_above line above =
    elim (cases_Bool (is_dot line)) [
      | inl is ↦
          let one = ap length ((bytes_eq-Decides (without_return line) (codes ".")).0 is) in
          let many = without_return-length line in
          absurd (omega arith)
      | inr is ↦ is
    ]

is_dot-long : (line : List ℕ) → is_long line ≡ true → is_dot line ≡ false
is_dot-long line long = is_dot_above line (grind (arith, nat_tests))

text_long : (text line : List ℕ) → is_long line ≡ true → is_long (text ++ without_return line ++ 10 ∷ []) ≡ true
text_long text line long =
    let many = without_return-length line in
    let above : 65536 < length line = grind (arith, nat_tests) in
    let all : 65536 < length (text ++ without_return line ++ 10 ∷ []) = rw (length_push, length-append) (omega arith) in
    grind (arith, nat_tests)

pub ended_kept : (line : List ℕ) → ended line ≡ [] → ended (kept line) ≡ []
unfolding kept
ended_kept line none = ended_none-take 65537 line none

-- two lines that are too long are answered alike
long_line : (over : Bool) (block : Option Block) (line line2 : List ℕ) (lines : List (List ℕ)) → is_long line ≡ true → is_long line2 ≡ true
    → commands over block (line ∷ lines) ≡ commands over block (line2 ∷ lines)
unfolding given next
long_line over None line line2 lines long long2 = rw (long, long2, takes_block-long line long, takes_block-long line2 long2) refl
long_line over (Some block) line line2 lines long long2 =
    rw (is_dot-long line long, is_dot-long line2 long2)
    (long_texts over block.line (block.text ++ without_return line ++ 10 ∷ []) (block.text ++ without_return line2 ++ 10 ∷ []) lines
    (text_long block.text line long) (text_long block.text line2 long2))

last_long : (line : List ℕ) → is_long line ≡ true → last_line line ≡ line ∷ []
last_long [] long = cc
last_long (x ∷ line) long = refl

whole_long : (line : List ℕ) → is_long line ≡ true → ended line ≡ [] → whole line ≡ line ∷ []
whole_long line long none = rw (none, rest_of-none line none) (last_long line long)

one_byte : (byte : ℕ) → eqb byte 10 ≡ false → ended (byte ∷ []) ≡ []
one_byte byte is = rw is refl

pub kept_short : (line : List ℕ) → is_long line ≡ false → kept line ≡ line
unfolding kept
kept_short line short = let fits : length line ≤ 65537 = grind (arith, nat_tests) in take_all 65537 line fits

pub kept_long : (line : List ℕ) → is_long line ≡ true → is_long (kept line) ≡ true
unfolding kept
kept_long line long =
    let many : 65537 ≤ length line = grind (arith, nat_tests) in
    let length_is = length-take-le 65537 line many in
    grind (arith, nat_tests)

-- whatever is made of lines, so that two lines that are too long give the same
module _ {A : Type 0} (made : List (List ℕ) → A) (alike : (line line2 : List ℕ) (lines : List (List ℕ)) → is_long line ≡ true → is_long line2 ≡ true
    → made (line ∷ lines) ≡ made (line2 ∷ lines)) where
  long_end : (over : Bool) (line line2 : List ℕ) → is_long line ≡ true → is_long line2 ≡ true → ended line ≡ [] → ended line2 ≡ []
      → made (lines_of over line) ≡ made (lines_of over line2)
  long_end false line line2 long long2 none none2 = ap made (none ∙ sym none2)
  long_end true line line2 long long2 none none2 =
      ap made (whole_long line long none) ∙ alike line line2 [] long long2 ∙ sym (ap made (whole_long line2 long2 none2))

  -- then whatever follows two beginnings of such lines gives the same
  long_lines : (over : Bool) (more line line2 : List ℕ) → is_long line ≡ true → is_long line2 ≡ true → ended line ≡ [] → ended line2 ≡ []
      → made (lines_of over (line ++ more)) ≡ made (lines_of over (line2 ++ more))
  long_lines over [] line line2 long long2 none none2 = rw (append-nil line, append-nil line2) (long_end over line line2 long long2 none none2)
  long_lines over (byte ∷ more) line line2 long long2 none none2 =
      elim (cases_Bool (eqb byte 10)) [
        | inl is ↦
            let feed : byte ≡ 10 = grind (arith, nat_tests) in
            rw (feed, lines_feed over line more none, lines_feed over line2 more none2) (alike line line2 (lines_of over more) long long2)
        | inr is ↦
            let next_is =
            long_lines over more (line ++ byte ∷ []) (line2 ++ byte ∷ []) (is_long-append line (byte ∷ []) long) (is_long-append line2 (byte ∷ []) long2)
            (ended_none-append line (byte ∷ []) none (one_byte byte is)) (ended_none-append line2 (byte ∷ []) none2 (one_byte byte is)) in
            ap (λ (bytes : List ℕ). made (lines_of over bytes)) (sym (append_assoc line (byte ∷ []) more)) ∙ next_is
            ∙ ap (λ (bytes : List ℕ). made (lines_of over bytes)) (append_assoc line2 (byte ∷ []) more)
      ]

  -- and what is kept of a line gives what the line gives
  pub kept_line : (over : Bool) (line more : List ℕ) → ended line ≡ [] → made (lines_of over (kept line ++ more)) ≡ made (lines_of over (line ++ more))
  kept_line over line more none =
      elim (cases_Bool (is_long line)) [
        | inl is ↦ long_lines over more (kept line) line (kept_long line is) is (ended_kept line none) none
        | inr is ↦ ap (λ (l : List ℕ). made (lines_of over (l ++ more))) (kept_short line is)
      ]

-- what is kept of a line gives the commands of the line
pub kept_commands : (over : Bool) (block : Option Block) (line more : List ℕ) → ended line ≡ []
    → commands over block (lines_of over (kept line ++ more)) ≡ commands over block (lines_of over (line ++ more))
kept_commands over block line more none = kept_line (λ (lines : List (List ℕ)). commands over block lines) (long_line over block) over line more none

long_next : (over : Bool) (block : Block) (line : List ℕ) (lines : List (List ℕ)) → is_dot line ≡ false → is_long block.text ≡ true
    → commands over (Some block) lines ≡ commands over (next (Some block) line) lines
unfolding next
long_next over block line lines is long =
    rw is (long_texts over block.line block.text (block.text ++ without_return line ++ 10 ∷ []) lines long
    (is_long-append (block.text ++ without_return line) (10 ∷ []) (is_long-append block.text (without_return line) long)))

next_at_dot : (block : Block) (line : List ℕ) → is_dot line ≡ true → None ≡ next (Some block) line
unfolding next
next_at_dot block line is = rw is refl

-- what is kept of a block gives the commands of the block
pub kept_block : (over : Bool) (block : Option Block) (line : List ℕ) (lines : List (List ℕ))
    → commands over (kept_next block line) lines ≡ commands over (next block line) lines
unfolding kept_next
kept_block over None line lines = refl
kept_block over (Some block) line lines =
    elim (cases_Bool (is_dot line)) [
      | inl is ↦ rw is (ap (λ (b : Option Block). commands over b lines) (next_at_dot block line is))
      | inr is ↦
          elim (cases_Bool (is_long block.text)) [
            | inl long ↦ rw (is, long) (long_next over block line lines is long)
            | inr short ↦ rw (is, short) refl
          ]
    ]

pub kept-length : (line : List ℕ) → length (kept line) ≤ 65537
unfolding kept
kept-length line = let length_is = length-take 65537 line in omega arith

-- what fits behind a line is what is kept of the two
pub kept-append : (line bytes : List ℕ) → length line ≤ 65537 → line ++ take (min (65537 - length line) (length bytes)) bytes ≡ kept (line ++ bytes)
unfolding kept
kept-append line bytes short =
    let room : length line + (65537 - length line) ≡ 65537 = omega arith in
    ap (λ (l : List ℕ). line ++ l) (take_min (65537 - length line) bytes) ∙ sym (take-append-add line bytes (65537 - length line))
    ∙ ap (λ (n : ℕ). take n (line ++ bytes)) room
