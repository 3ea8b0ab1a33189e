-- What the first byte of a text tells of it.
use Rattle.std.proofs.Common.{◌≡◌, ℕ, ◌+◌, ◌<◌, Bool, true, false, eqb, cond, List, [], ◌∷◌, length, slice_index, refl, arith}
use Rattle.std.proofs.lemmas.Bool.Decides.{nat_tests}
use Rattle.std.specs.Char.{is_ascii_digit}
use Rattle.std.specs.List.{prefix_len}
use Rattle.ad_lexer.specs.declared.next.Begin.{Begin}
use Rattle.ad_lexer.specs.declared.next.Begin.TheVariants as begins
use Rattle.ad_lexer.specs.Blanks.{is_space}
use Rattle.ad_lexer.specs.Numbers.{has_fraction, is_hexadecimal, number_len}
use Rattle.ad_lexer.specs.Words.{begins_word, is_word_byte}
use Rattle.ad_lexer.specs.Reading.{begin_of}

-- what is so of a byte that begins such a thing
abbrev pub Tells : ℕ → Begin → Type 0
Tells byte begins.Space = is_space byte ≡ true
Tells byte begins.Word = begins_word byte ≡ true
Tells byte begins.Number = is_ascii_digit byte ≡ true
Tells byte begins.Name = byte ≡ 39
Tells byte begins.String = byte ≡ 34
Tells byte begins.Slash = byte ≡ 47
Tells byte begins.Symbol =
    (is_space byte ≡ false) × (begins_word byte ≡ false) × (is_ascii_digit byte ≡ false) × (eqb byte 39 ≡ false) × (eqb byte 34 ≡ false) × (eqb byte 47 ≡ false)

-- the same where the begin is known
pub begin_is : (byte : ℕ) (begin : Begin) → begin_of byte ≡ begin → Tells byte begin
unfolding begin_of
begin_is byte begins.Space is = grind (arith, nat_tests)
begin_is byte begins.Word is = grind (arith, nat_tests)
begin_is byte begins.Number is = grind (arith, nat_tests)
begin_is byte begins.Name is = grind (arith, nat_tests)
begin_is byte begins.String is = grind (arith, nat_tests)
begin_is byte begins.Slash is = grind (arith, nat_tests)
begin_is byte begins.Symbol is = grind (arith, nat_tests)

pub begin_word : (byte : ℕ) → begins_word byte ≡ true → begin_of byte ≡ begins.Word
unfolding begin_of
begin_word byte is = let other : is_space byte ≡ false = grind (arith, nat_tests) in rw (other, is) refl

pub begin_number : (byte : ℕ) → is_ascii_digit byte ≡ true → begin_of byte ≡ begins.Number
unfolding begin_of
begin_number byte is =
    let space : is_space byte ≡ false = grind (arith, nat_tests) in
    let word : begins_word byte ≡ false = grind (arith, nat_tests) in
    rw (space, word, is) refl

-- a byte that passes begins a run
run_some : (p : ℕ → Bool) (text : List ℕ) → p (slice_index text 0) ≡ true → 0 < length text → 0 < prefix_len p text
run_some p [] is some = absurd (omega arith)
run_some p (byte ∷ bytes) is some = rw is (omega arith)

pub word_byte : (byte : ℕ) → begins_word byte ≡ true → is_word_byte byte ≡ true
word_byte byte is = grind (arith, nat_tests)

pub word_some : (text : List ℕ) → 0 < length text → begin_of (slice_index text 0) ≡ begins.Word → 0 < prefix_len is_word_byte text
word_some text some is =
    let word = begin_is (slice_index text 0) begins.Word is in
    let b : ℕ = slice_index text 0 in
    run_some is_word_byte text (word_byte b word) some

number_by : (hexadecimal fraction : Bool) (a b c : ℕ) → 0 < b → 0 < cond hexadecimal (2 + a) (cond fraction (b + 1 + c) b)
number_by true fraction a b c some = omega arith
number_by false true a b c some = omega arith
number_by false false a b c some = some

pub number_some : (text : List ℕ) → 0 < length text → begin_of (slice_index text 0) ≡ begins.Number → 0 < number_len text
number_some text some is =
    let run = run_some is_ascii_digit text (begin_is (slice_index text 0) begins.Number is) some in
    number_by (is_hexadecimal text) (has_fraction text) _ _ _ run
