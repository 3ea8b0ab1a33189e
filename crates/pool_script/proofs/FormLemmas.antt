-- Every command that a line gives is within form.
use Rattle.std.proofs.Common.{◌≡◌, ℕ, ◌≤◌, ◌^◌, Bool, true, false, not, ◌&&◌, ◌||◌, eqb, nat_le, slice_index, List, [], ◌∷◌, length, Option, None, Some}
use Rattle.std.proofs.Common.{option_and_then, refl, sym, inl, inr, arith}
use Rattle.std.proofs.lemmas.Bool.{cases_Bool}
use Rattle.std.proofs.lemmas.Bool.Decides.{nat_tests}
use Rattle.std.specs.Bool.{if◌then◌else◌}
use Rattle.std.specs.List.{list_all}
use Rattle.std.specs.Option.{option_map_or}
use Rattle.pool_text.specs.Lines.{ended, without_return}
use Rattle.pool_text.specs.Number.{number_of}
use Rattle.pool_text.specs.Words.{is_blank, is_empty, is_long, is_silent, past_blanks, past_word, text_of, word_of, words_behind}
use Rattle.pool_script.specs.Commands.{given, is_dot, line_command, takes_block}
use Rattle.pool_script.specs.Form.{are_block_lines, holds_no_feed, is_block_text, is_expr, is_within, is_within_form}
use Rattle.pool_script.specs.Keywords.{keyword_of}
use Rattle.pool_script.specs.Rows.{advertise, block_text, clock, eval, eval_in, gang, keyword_command, priority, query, sole_name, submit, with_block}
use Rattle.pool_script.specs.Rows.{without_words}
use Rattle.pool_script.specs.Names.{is_name, sole_number}
use Rattle.pool_script.specs.declared.command.Command.{Command}
use Rattle.pool_script.specs.declared.command.Command.TheVariants as command
use Rattle.pool_script.specs.declared.keyword.Keyword.{Keyword}
use Rattle.pool_script.specs.declared.keyword.Keyword.TheVariants as word
use Rattle.pool_script.specs.declared.reader.Block.{Block}
use Rattle.pool_script.specs.Reading.{IsOpen}
use Rattle.pool_script.proofs.CutLemmas.{none_more, none_step}
use Rattle.pool_text.proofs.WordLemmas.{past_word-le}

past_blanks-le : (bytes : List ℕ) → length (past_blanks bytes) ≤ length bytes
past_blanks-le [] = omega arith
past_blanks-le (byte ∷ bytes) =
    elim (cases_Bool (is_blank byte)) [
      | inl is ↦ let more = past_blanks-le bytes in rw is (omega arith)
      | inr is ↦ rw is (omega arith)
    ]

pub without_return-le : (line : List ℕ) → length (without_return line) ≤ length line
without_return-le [] = omega arith
without_return-le (x ∷ []) =
    elim (cases_Bool (eqb x 13)) [
      | inl is ↦ rw is (omega arith)
      | inr is ↦ rw is (omega arith)
    ]
without_return-le (x ∷ y ∷ line) = let more = without_return-le (y ∷ line) in omega arith

words_behind-le : (bytes : List ℕ) → length (words_behind bytes) ≤ length bytes
words_behind-le bytes = omega (arith, past_blanks-le (past_word bytes), past_word-le bytes)

text_of-le : (line : List ℕ) → length (text_of line) ≤ length line
text_of-le line = omega (arith, past_blanks-le (without_return line), without_return-le line)

bad_form : (refusal : ℕ) → is_within 1 5 refusal ≡ true → is_within_form (command.Bad refusal) ≡ true
unfolding is_within_form
bad_form refusal is = is

-- the text of a block holds whole lines
abbrev pub HasWholeLines : Option (List ℕ) → Type 0
HasWholeLines None = Unit {0}
HasWholeLines (Some text) = are_block_lines text ≡ true

and_left : (a b : Bool) → (a && b) ≡ true → a ≡ true
and_left true b is = refl
and_left false b is = is

and_right : (a b : Bool) → (a && b) ≡ true → b ≡ true
and_right true b is = is
and_right false b is = cc

named_form : (make : List ℕ → Command) → ((name : List ℕ) → is_name name ≡ true → is_within_form (make name) ≡ true) → (words : List ℕ)
    → is_within_form (option_map_or make (sole_name words) (command.Bad 3)) ≡ true
unfolding sole_name
named_form make form words =
    elim (cases_Bool (is_name (word_of words) && is_empty (words_behind words))) [
      | inl is ↦ rw is (form (word_of words) (and_left (is_name (word_of words)) (is_empty (words_behind words)) is))
      | inr is ↦ rw is (bad_form 3 refl)
    ]

bounded_form : (make : ℕ → Command) (least most : ℕ) → ((n : ℕ) → is_within least most n ≡ true → is_within_form (make n) ≡ true) → (n : Option ℕ)
    → is_within_form (option_map_or make (option_and_then (λ m. if nat_le least m && nat_le m most then Some m else None) n) (command.Bad 3)) ≡ true
bounded_form make least most form None = bad_form 3 refl
bounded_form make least most form (Some n) =
    elim (cases_Bool (nat_le least n && nat_le n most)) [
      | inl is ↦ rw is (form n is)
      | inr is ↦ rw is (bad_form 3 refl)
    ]

number_form : (make : ℕ → Command) (least most : ℕ) → ((n : ℕ) → is_within least most n ≡ true → is_within_form (make n) ≡ true) → (words : List ℕ)
    → is_within_form (option_map_or make (sole_number words least most) (command.Bad 3)) ≡ true
number_form make least most form words =
    elim (cases_Bool (is_empty (words_behind words))) [
      | inl is ↦ rw is (bounded_form make least most form (number_of (word_of words)))
      | inr is ↦ rw is (bad_form 3 refl)
    ]

block_form : (make : List ℕ → Command) → ((text : List ℕ) → is_block_text text ≡ true → is_within_form (make text) ≡ true) → (block : Option (List ℕ))
    → HasWholeLines block → is_within_form (with_block make (block_text block)) ≡ true
unfolding block_text
block_form make form None whole = bad_form 4 refl
block_form make form (Some text) whole =
    elim (cases_Bool (nat_le (length text) 65536)) [
      | inl is ↦ rw is (form text (rw (is, whole) refl))
      | inr is ↦ rw is (bad_form 5 refl)
    ]

name_form : (name : List ℕ) (made : Command) → (is_name name ≡ true → is_within_form made ≡ true)
    → is_within_form (if is_name name then made else command.Bad 3) ≡ true
name_form name made form =
    elim (cases_Bool (is_name name)) [
      | inl is ↦ rw is (form is)
      | inr is ↦ rw is (bad_form 3 refl)
    ]

alone_form : (words : List ℕ) (made : Command) → is_within_form made ≡ true → is_within_form (if is_empty words then made else command.Bad 3) ≡ true
alone_form words made form =
    elim (cases_Bool (is_empty words)) [
      | inl is ↦ rw is form
      | inr is ↦ rw is (bad_form 3 refl)
    ]

advertised_form : (name : List ℕ) (lifetime : ℕ) (block : List ℕ) → is_name name ≡ true → is_within 1 (10 ^ 9) lifetime ≡ true → is_block_text block ≡ true
    → is_within_form (command.Advertise name lifetime block) ≡ true
unfolding is_within_form
advertised_form name lifetime block of_name of_lifetime of_block = rw (of_name, of_lifetime, of_block) refl

advertise_form : (words : List ℕ) (block : Option (List ℕ)) → HasWholeLines block → is_within_form (advertise words block) ≡ true
unfolding advertise
advertise_form words block whole =
    name_form (word_of words) (option_map_or (λ lifetime. with_block (command.Advertise (word_of words) lifetime) (block_text block))
    (sole_number (words_behind words) 1 (10 ^ 9)) (command.Bad 3))
    (λ named. number_form (λ lifetime. with_block (command.Advertise (word_of words) lifetime) (block_text block)) 1 (10 ^ 9)
    (λ lifetime lives. block_form (command.Advertise (word_of words) lifetime)
    (λ text of_text. advertised_form (word_of words) lifetime text named lives of_text) block whole) (words_behind words))

submitted_form : (job user block : List ℕ) → is_name job ≡ true → is_name user ≡ true → is_block_text block ≡ true
    → is_within_form (command.Submit job user block) ≡ true
unfolding is_within_form
submitted_form job user block of_job of_user of_block = rw (of_job, of_user, of_block) refl

submit_form : (words : List ℕ) (block : Option (List ℕ)) → HasWholeLines block → is_within_form (submit words block) ≡ true
unfolding submit
submit_form words block whole =
    name_form (word_of words) (option_map_or (λ user. with_block (command.Submit (word_of words) user) (block_text block)) (sole_name (words_behind words))
    (command.Bad 3))
    (λ named. named_form (λ user. with_block (command.Submit (word_of words) user) (block_text block))
    (λ user uses. block_form (command.Submit (word_of words) user) (λ text of_text. submitted_form (word_of words) user text named uses of_text) block whole)
    (words_behind words))

query_form : (words : List ℕ) (block : Option (List ℕ)) → HasWholeLines block → is_within_form (query words block) ≡ true
unfolding query is_within_form
query_form words block whole = alone_form words (with_block command.Query (block_text block)) (block_form command.Query (λ text is. is) block whole)

gang_form : (words : List ℕ) (block : Option (List ℕ)) → HasWholeLines block → is_within_form (gang words block) ≡ true
unfolding gang is_within_form
gang_form words block whole = alone_form words (with_block command.Gang (block_text block)) (block_form command.Gang (λ text is. is) block whole)

priority_set_form : (user : List ℕ) (n : ℕ) → is_name user ≡ true → is_within 1 (10 ^ 6) n ≡ true → is_within_form (command.Priority user n) ≡ true
unfolding is_within_form
priority_set_form user n of_user of_n = rw (of_user, of_n) refl

priority_form : (words : List ℕ) → is_within_form (priority words) ≡ true
unfolding priority
priority_form words =
    name_form (word_of words) (option_map_or (command.Priority (word_of words)) (sole_number (words_behind words) 1 (10 ^ 6)) (command.Bad 3))
    (λ named. number_form (command.Priority (word_of words)) 1 (10 ^ 6) (λ n is. priority_set_form (word_of words) n named is) (words_behind words))

no_feed : (bytes : List ℕ) → ended bytes ≡ [] → holds_no_feed bytes ≡ true
no_feed [] none = refl
no_feed (byte ∷ bytes) none = let first = none_step byte bytes none in rw first.0 (no_feed bytes first.1)

none_past_blanks : (bytes : List ℕ) → ended bytes ≡ [] → ended (past_blanks bytes) ≡ []
none_past_blanks [] none = refl
none_past_blanks (byte ∷ bytes) none =
    elim (cases_Bool (is_blank byte)) [
      | inl is ↦ rw is (none_past_blanks bytes (none_step byte bytes none).1)
      | inr is ↦ rw is none
    ]

none_past_word : (bytes : List ℕ) → ended bytes ≡ [] → ended (past_word bytes) ≡ []
none_past_word [] none = refl
none_past_word (byte ∷ bytes) none =
    elim (cases_Bool (is_blank byte)) [
      | inl is ↦ rw is none
      | inr is ↦ rw is (none_past_word bytes (none_step byte bytes none).1)
    ]

pub none_without_return : (line : List ℕ) → ended line ≡ [] → ended (without_return line) ≡ []
none_without_return [] none = refl
none_without_return (x ∷ []) none =
    elim (cases_Bool (eqb x 13)) [
      | inl is ↦ rw is refl
      | inr is ↦ rw is none
    ]
none_without_return (x ∷ y ∷ line) none =
    let first = none_step x (y ∷ line) none in none_more x (without_return (y ∷ line)) first.0 (none_without_return (y ∷ line) first.1)

no_blank_in_front : (bytes : List ℕ) → is_blank (slice_index (past_blanks bytes) 0) ≡ false
no_blank_in_front [] = refl
no_blank_in_front (byte ∷ bytes) =
    elim (cases_Bool (is_blank byte)) [
      | inl is ↦ rw is (no_blank_in_front bytes)
      | inr is ↦ rw is is
    ]

-- bytes behind a word
pub record IsRest (bytes : List ℕ) : Type 0 where
  pub fits : length bytes ≤ 65536
  pub one_line : ended bytes ≡ []
  pub no_blank : is_blank (slice_index bytes 0) ≡ false

rest_behind_word : (bytes : List ℕ) → length bytes ≤ 65536 → ended bytes ≡ [] → IsRest (words_behind bytes)
rest_behind_word bytes fits none = record {
  fits = omega (arith, words_behind-le bytes);
  one_line = none_past_blanks (past_word bytes) (none_past_word bytes none);
  no_blank = no_blank_in_front (past_word bytes);
}

some_fits : (bytes : List ℕ) → is_empty bytes ≡ false → length bytes ≤ 65536 → is_within 1 65536 (length bytes) ≡ true
some_fits bytes some fits = grind (arith, nat_tests)

expr_form : (bytes : List ℕ) → is_empty bytes ≡ false → IsRest bytes → is_expr bytes ≡ true
expr_form bytes some rest = rw (some_fits bytes some rest.fits, rest.no_blank, no_feed bytes rest.one_line) refl

eval_form : (words : List ℕ) → IsRest words → is_within_form (eval words) ≡ true
unfolding eval is_within_form
eval_form words rest =
    elim (cases_Bool (is_empty words)) [
      | inl is ↦ rw is refl
      | inr is ↦ rw is (expr_form words is rest)
    ]

docked_form : (name expr : List ℕ) → is_name name ≡ true → is_expr expr ≡ true → is_within_form (command.EvalIn name expr) ≡ true
unfolding is_within_form
docked_form name expr of_name of_expr = rw (of_name, of_expr) refl

not_true : (b : Bool) → not b ≡ true → b ≡ false
not_true true is = sym is
not_true false is = refl

eval_in_form : (words : List ℕ) → IsRest words → is_within_form (eval_in words) ≡ true
unfolding eval_in
eval_in_form words rest =
    elim (cases_Bool (is_name (word_of words) && not (is_empty (words_behind words)))) [
      | inl is ↦
          let named = and_left (is_name (word_of words)) (not (is_empty (words_behind words))) is in
          let some = not_true (is_empty (words_behind words)) (and_right (is_name (word_of words)) (not (is_empty (words_behind words))) is) in
          rw is (docked_form (word_of words) (words_behind words) named (expr_form (words_behind words) some (rest_behind_word words rest.fits rest.one_line)))
      | inr is ↦ rw is (bad_form 3 refl)
    ]

clock_form : (words : List ℕ) → is_within_form (clock words) ≡ true
unfolding clock is_within_form
clock_form words = number_form command.Clock 0 (10 ^ 12) (λ n is. is) words

keyword_form : (k : Keyword) (words : List ℕ) (block : Option (List ℕ)) → IsRest words → HasWholeLines block
    → is_within_form (keyword_command k words block) ≡ true
unfolding keyword_command without_words is_within_form
keyword_form word.Clock words block fits whole = clock_form words
keyword_form word.Advertise words block fits whole = advertise_form words block whole
keyword_form word.Withdraw words block fits whole = named_form command.Withdraw (λ name is. is) words
keyword_form word.Show words block fits whole = named_form command.Show (λ name is. is) words
keyword_form word.List words block fits whole = alone_form words command.List refl
keyword_form word.Eval words block fits whole = eval_form words fits
keyword_form word.EvalIn words block fits whole = eval_in_form words fits
keyword_form word.Query words block fits whole = query_form words block whole
keyword_form word.Submit words block fits whole = submit_form words block whole
keyword_form word.Remove words block fits whole = named_form command.Remove (λ name is. is) words
keyword_form word.Priority words block fits whole = priority_form words
keyword_form word.Gang words block fits whole = gang_form words block whole
keyword_form word.Negotiate words block fits whole = alone_form words command.Negotiate refl
keyword_form word.Claim words block fits whole = named_form command.Claim (λ name is. is) words
keyword_form word.Release words block fits whole = named_form command.Release (λ name is. is) words
keyword_form word.Jobs words block fits whole = alone_form words command.Jobs refl
keyword_form word.Job words block fits whole = named_form command.Job (λ name is. is) words
keyword_form word.Users words block fits whole = alone_form words command.Users refl
keyword_form word.Why words block fits whole = named_form command.Why (λ name is. is) words
keyword_form word.Classes words block fits whole = alone_form words command.Classes refl
keyword_form word.Unlisten words block fits whole = named_form command.Unlisten (λ name is. is) words

option_form : (k : Option Keyword) (words : List ℕ) (block : Option (List ℕ)) → IsRest words → HasWholeLines block
    → is_within_form (option_map_or (λ keyword. keyword_command keyword words block) k (command.Bad 2)) ≡ true
option_form None words block fits whole = bad_form 2 refl
option_form (Some k) words block fits whole = keyword_form k words block fits whole

pub line_form : (line : List ℕ) (block : Option (List ℕ)) → is_long line ≡ false → ended line ≡ [] → HasWholeLines block
    → is_within_form (line_command line block) ≡ true
unfolding line_command
line_form line block short none whole =
    let fits : length line ≤ 65536 = grind (arith, nat_tests) in
    let rest = rest_behind_word (text_of line) (omega (arith, text_of-le line)) (none_past_blanks (without_return line) (none_without_return line none)) in
    option_form (keyword_of (word_of (text_of line))) (words_behind (text_of line)) block rest whole

pub all_form : (made : Command) → is_within_form made ≡ true → list_all is_within_form (made ∷ []) ≡ true
all_form made form = rw form refl

pub takes_block-short : (line : List ℕ) → takes_block line ≡ true → is_long line ≡ false
unfolding takes_block
takes_block-short line takes =
    elim (cases_Bool (is_long line)) [
      | inl is ↦ let no : false ≡ true = rw is at takes in cc
      | inr is ↦ is
    ]

silent_form : (silent : Bool) (made : Command) → is_within_form made ≡ true → list_all is_within_form (if silent then [] else made ∷ []) ≡ true
silent_form true made form = refl
silent_form false made form = all_form made form

-- outside a block
pub given_form_outside : (line : List ℕ) → ended line ≡ [] → list_all is_within_form (given None line) ≡ true
unfolding given
given_form_outside line none =
    elim (cases_Bool (is_long line)) [
      | inl is ↦ rw is (all_form (command.Bad 1) (bad_form 1 refl))
      | inr is ↦ rw is (silent_form (is_silent line || takes_block line) (line_command line None) (line_form line None is none tt))
    ]

-- in a block
pub given_form_inside : (block : Block) (line : List ℕ) → IsOpen block → list_all is_within_form (given (Some block) line) ≡ true
unfolding given
given_form_inside block line is_open =
    elim (cases_Bool (is_dot line)) [
      | inl is ↦ rw is (all_form (line_command block.line (Some block.text))
          (line_form block.line (Some block.text) (takes_block-short block.line is_open.taken) is_open.one_line is_open.lines))
      | inr is ↦ rw is refl
    ]
