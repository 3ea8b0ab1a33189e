-- The word at the front of a text.
use Rattle.std.proofs.Common.{◌≡◌, ℕ, zero, suc, ◌<◌, Bool, true, false, cond, List, [], ◌∷◌, ◌++◌, length, take, slice_index, refl, sym, arith}
use Rattle.std.proofs.lemmas.Bool.{and_parts, and_from, true≢false}
use Rattle.std.specs.List.{list_all, prefix_len}
use Rattle.ad_lexer.specs.declared.next.Begin.TheVariants as begins
use Rattle.ad_lexer.specs.declared.token.TokenKind.TheVariants.{Plain, Reserved}
use Rattle.ad_lexer.specs.Spelling.{Spells}
use Rattle.ad_lexer.specs.Words.{begins_word, is_word_byte, is_word, is_reserved}
use Rattle.ad_lexer.specs.Reading.{begin_of}
use Rattle.ad_lexer.proofs.Begins.{begin_is, begin_word, word_byte}
use Rattle.ad_lexer.proofs.Runs.{run_passes}

-- a word of its first byte and the run of a text is a word
word_from : (byte : ℕ) (bytes : List ℕ) (n : ℕ) → begins_word byte ≡ true → 0 < n → list_all is_word_byte (take n (byte ∷ bytes)) ≡ true
    → is_word (take n (byte ∷ bytes)) ≡ true
word_from byte bytes zero begins some each = absurd (omega arith)
word_from byte bytes (suc n) begins some each = and_from (begins_word byte) _ begins (and_parts (is_word_byte byte) _ each).1

pub word_found : (text : List ℕ) → 0 < length text → begin_of (slice_index text 0) ≡ begins.Word → 0 < prefix_len is_word_byte text
    → is_word (take (prefix_len is_word_byte text) text) ≡ true
word_found [] some is moves = absurd (omega arith)
word_found (byte ∷ bytes) some is moves =
    word_from byte bytes (prefix_len is_word_byte (byte ∷ bytes)) (begin_is byte begins.Word is) moves (run_passes is_word_byte (byte ∷ bytes))

-- all bytes of a word are its letters, digits and `_`
pub word_bytes : (bytes : List ℕ) → is_word bytes ≡ true → list_all is_word_byte bytes ≡ true
word_bytes [] is = absurd (true≢false (sym is))
word_bytes (byte ∷ bytes) is =
    let both = and_parts (begins_word byte) _ is in
    and_from (is_word_byte byte) _ (word_byte byte both.0) both.1

pub word_begins : (bytes after : List ℕ) → is_word bytes ≡ true → begin_of (slice_index (bytes ++ after) 0) ≡ begins.Word
word_begins [] after is = absurd (true≢false (sym is))
word_begins (byte ∷ bytes) after is = begin_word byte (and_parts (begins_word byte) _ is).0

pub word_nonempty : (bytes : List ℕ) → is_word bytes ≡ true → 0 < length bytes
word_nonempty [] is = absurd (true≢false (sym is))
word_nonempty (byte ∷ bytes) is = omega arith

-- a word is spelled as the kind that it is read as
spells_by : (bytes : List ℕ) (reserved : Bool) → is_word bytes ≡ true → is_reserved bytes ≡ reserved → Spells (cond reserved Reserved Plain) bytes
spells_by bytes true word is = (word, is)
spells_by bytes false word is = (word, is)

pub word_spells : (bytes : List ℕ) → is_word bytes ≡ true → Spells (cond (is_reserved bytes) Reserved Plain) bytes
word_spells bytes word = spells_by bytes (is_reserved bytes) word refl
