-- The words of a line, which spaces and tabs divide, and how long a line may be.
use Rattle.std.specs.Prelude.{ℕ, Bool, ◌||◌, ◌==◌, nat_lt, List, [], ◌∷◌, length, slice_index, if◌then◌else◌}
use Rattle.pool_text.specs.Lines.{without_return}

-- a space or a tab
abbrev pub is_blank : ℕ → Bool
is_blank byte = byte == 32 || byte == 9

-- the bytes without the blanks in front
abbrev pub past_blanks : List ℕ → List ℕ
past_blanks [] = []
past_blanks (byte ∷ bytes) = if is_blank byte then past_blanks bytes else byte ∷ bytes

-- the bytes up to the first blank
abbrev pub word_of : List ℕ → List ℕ
word_of [] = []
word_of (byte ∷ bytes) = if is_blank byte then [] else byte ∷ word_of bytes

-- the bytes from the first blank on
abbrev pub past_word : List ℕ → List ℕ
past_word [] = []
past_word (byte ∷ bytes) = if is_blank byte then byte ∷ bytes else past_word bytes

-- what stands behind the first word and the blanks that follow it
abbrev pub words_behind : List ℕ → List ℕ
words_behind bytes = past_blanks (past_word bytes)

-- no bytes
abbrev pub is_empty : List ℕ → Bool
is_empty bytes = length bytes == 0

-- a line from its first word on
abbrev pub text_of : List ℕ → List ℕ
text_of line = past_blanks (without_return line)

-- a line of more bytes than a line may have
abbrev pub is_long : List ℕ → Bool
is_long line = nat_lt 65536 (length line)

-- a line without words, or a comment
abbrev pub is_silent : List ℕ → Bool
is_silent line = is_empty (text_of line) || slice_index (text_of line) 0 == 35
