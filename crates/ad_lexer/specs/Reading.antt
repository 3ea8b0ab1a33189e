-- What stands at the front of a text, as a function of its bytes. `Tokens` says without reading what tokens and faults a text has, and
-- that both agree is proved.
use Rattle.std.specs.Prelude.{◌≡◌, ℕ, zero, suc, ◌+◌, ◌-◌, ◌<◌, ◌≤◌, Bool, not, ◌&&◌}
use Rattle.std.specs.Prelude.{◌||◌, ◌==◌, nat_lt, List, [], ◌∷◌, take, drop, slice_index, Option, Some}
use Rattle.std.specs.Prelude.{None, ◌⊎◌, if◌then◌else◌}
use Rattle.std.specs.Char.{is_ascii_digit, is_ascii_hexdigit}
use Rattle.std.specs.List.{prefix_len}
use Rattle.ad_lexer.specs.declared.bytes.Class.{Class}
use Rattle.ad_lexer.specs.declared.bytes.Class.TheVariants as class
use Rattle.ad_lexer.specs.declared.fault.LexKind.TheVariants as kinds
use Rattle.ad_lexer.specs.declared.next.Begin.{Begin}
use Rattle.ad_lexer.specs.declared.next.Begin.TheVariants as begins
use Rattle.ad_lexer.specs.declared.next.Step.{Step}
use Rattle.ad_lexer.specs.declared.next.Step.TheVariants as steps
use Rattle.ad_lexer.specs.declared.quoted.Front.{Front}
use Rattle.ad_lexer.specs.declared.quoted.Front.TheVariants as fronts
use Rattle.ad_lexer.specs.declared.token.TokenKind.{TokenKind}
use Rattle.ad_lexer.specs.declared.token.TokenKind.TheVariants.{Plain, Reserved, Quoted, Str, Int, Dec, Symbol}
use Rattle.ad_lexer.specs.Blanks.{is_space, is_line_byte}
use Rattle.ad_lexer.specs.Content.{octal_len, octal_value}
use Rattle.ad_lexer.specs.declared.mark.Mark.{Mark}
use Rattle.ad_lexer.specs.Marks.{marks, mark_of_kind, meaning_of}
use Rattle.ad_lexer.specs.Numbers.{has_fraction, is_hexadecimal, is_number, number_len}
use Rattle.ad_lexer.specs.Quoted.{escaped, is_octal_digit, is_plain}
use Rattle.ad_lexer.specs.Symbols.{is_symbol}
use Rattle.ad_lexer.specs.Words.{begins_word, is_word_byte, is_reserved}

-- the classes of bytes that runs are made of
abbrev pub is_in : Class → ℕ → Bool
is_in class.Space byte = is_space byte
is_in class.Word byte = is_word_byte byte
is_in class.Decimal byte = is_ascii_digit byte
is_in class.Hexadecimal byte = is_ascii_hexdigit byte
is_in class.Line byte = is_line_byte byte
is_in class.Plain byte = is_plain 34 byte && not (byte == 39)

-- a byte at which a run ends
abbrev pub is_outside : Class → ℕ → Bool
is_outside class byte = not (is_in class byte)

-- what the first byte of a text begins
unfoldable pub begin_of : ℕ → Begin
begin_of byte =
    if is_space byte then begins.Space
    else (if begins_word byte then begins.Word
    else (if is_ascii_digit byte then begins.Number
    else (if byte == 39 then begins.Name
    else (if byte == 34 then begins.String
    else (if byte == 47 then begins.Slash
    else begins.Symbol)))))

-- ---- words

-- the longest run of letters, digits and `_`: a reserved word, or else a plain name
abbrev pub word : List ℕ → Step
word text =
    let len = prefix_len is_word_byte text in
    steps.Token (if is_reserved (take len text) then Reserved else Plain) len

-- ---- numbers

-- the kind of a number
abbrev pub number_kind : Bool → TokenKind
number_kind decimal = if decimal then Dec else Int

-- `.`, `e` or `E`, of a second dot, one without digits behind it, or an exponent
abbrev pub is_decimal_mark : ℕ → Bool
is_decimal_mark byte = byte == 46 || byte == 101 || byte == 69

-- the first bytes are an integer or a decimal, with no letter, digit or `_` behind them
unfoldable pub is_whole : List ℕ → ℕ → Bool
is_whole text len = not (is_word_byte (slice_index text len)) && is_number (has_fraction text) (take len text)

-- an integer or a decimal; or the fault of a dot or exponent behind it, or of a number that is no whole one
unfoldable pub number : List ℕ → Step
number text =
    if is_decimal_mark (slice_index text (number_len text)) && not (is_hexadecimal text) then steps.Fault kinds.Decimal 0
    else (if is_whole text (number_len text) then steps.Token (number_kind (has_fraction text)) (number_len text)
    else steps.Fault kinds.Number 0)

-- ---- symbols

-- the length of the longest symbol that the bytes begin with, or 0
unfoldable pub symbol_len : ℕ → ℕ → ℕ → ℕ
symbol_len first second third =
    if is_symbol (first ∷ second ∷ third ∷ []) then 3
    else (if is_symbol (first ∷ second ∷ []) then 2
    else (if is_symbol (first ∷ []) then 1 else 0))

-- a symbol of this length; where that is 0, no token begins here
abbrev pub symbol_of : ℕ → Step
symbol_of len = if len == 0 then steps.Fault kinds.Character 0 else steps.Token Symbol len

-- the longest symbol; or the fault of a dot before a digit
unfoldable pub symbol : List ℕ → Step
symbol text =
    if slice_index text 0 == 46 && is_ascii_digit (slice_index text 1) then steps.Fault kinds.Decimal 0
    else symbol_of (symbol_len (slice_index text 0) (slice_index text 1) (slice_index text 2))

-- bytes with which a longer symbol, a comment or a decimal may begin
abbrev pub begins_more : ℕ → Bool
begins_more byte =
    byte == 33 || byte == 38 || byte == 46 || byte == 47 || byte == 60 || byte == 61 || byte == 62 || byte == 124

-- the mark of a byte that is a symbol however the text goes on
abbrev pub alone : ℕ → Option Mark
alone byte = if begins_more byte then None else meaning_of marks (byte ∷ [])

-- the longest symbol that the bytes begin with, by its mark and its length
abbrev pub IsLongest : ℕ → ℕ → ℕ → Option (Mark × ℕ) → Type 0
IsLongest first second third None = symbol_len first second third ≡ 0
IsLongest first second third (Some found) =
    (symbol_len first second third ≡ found.1) × (Some found.0 ≡ meaning_of marks (take found.1 (first ∷ second ∷ third ∷ [])))

-- ---- comments

-- the length up to and with the first `*/`, counted on from n
abbrev pub comment_len : ℕ → List ℕ → Option ℕ
comment_len n [] = None
comment_len n (byte ∷ bytes) =
    if byte == 42 && slice_index bytes 0 == 47 then Some (n + 2)
    else comment_len (n + 1) bytes

-- a comment of this length behind its `/*`; or the fault of one that never ends
abbrev pub comment_of : Option ℕ → Step
comment_of None = steps.Fault kinds.CommentEnd 0
comment_of (Some len) = steps.Blank (2 + len)

-- a comment of either kind; or the symbol `/`
unfoldable pub slash : List ℕ → Step
slash text =
    if slice_index text 1 == 47 then steps.Blank (2 + prefix_len is_line_byte (drop 2 text))
    else (if slice_index text 1 == 42 then comment_of (comment_len 0 (drop 2 text))
    else steps.Token Symbol 1)

-- ---- strings and quoted names

-- octal digits of a value in range
unfoldable pub octal : ℕ → ℕ → ℕ → Front
octal first second third =
    if is_octal_digit first && nat_lt 0 (octal_value first second third) && nat_lt (octal_value first second third) 128
    then fronts.Letter (octal_len second third) (octal_value first second third)
    else fronts.Backslash

-- an escape of one letter; where it is none, what else stands there
abbrev pub escape_or : Option ℕ → Front → Front
escape_or None other = other
escape_or (Some meant) other = fronts.Letter 2 meant

-- what a backslash before the bytes begins
unfoldable pub escape : List ℕ → Front
escape [] = fronts.LineEnd
escape (byte ∷ bytes) = escape_or (escaped byte) (octal byte (slice_index bytes 0) (slice_index bytes 1))

-- what stands at the front of the rest of a string
unfoldable pub front : ℕ → List ℕ → Front
front quote [] = fronts.LineEnd
front quote (byte ∷ bytes) =
    if byte == quote then fronts.Close
    else (if byte == 10 then fronts.LineEnd
    else (if byte == 0 then fronts.Nul
    else (if byte == 92 then escape bytes
    else fronts.Letter 1 byte)))

-- one turn: what more gives behind a letter, and else the token or the fault
abbrev pub quoted_by : TokenKind → ℕ → Front → (ℕ → Step) → Step
quoted_by kind at (fronts.Letter len meant) more = more len
quoted_by kind at fronts.Close more = steps.Token kind (at + 1)
quoted_by kind at fronts.LineEnd more = steps.Fault kinds.StringEnd 0
quoted_by kind at fronts.Nul more = steps.Fault kinds.Character at
quoted_by kind at fronts.Backslash more = steps.Fault kinds.Escape at

-- the rest of a string from a place on, with bytes to skip first
abbrev pub quoted : TokenKind → ℕ → ℕ → ℕ → List ℕ → Step
quoted kind quote at skip [] = steps.Fault kinds.StringEnd 0
quoted kind quote at (suc skip) (byte ∷ bytes) = quoted kind quote (at + 1) skip bytes
quoted kind quote at zero (byte ∷ bytes) =
    quoted_by kind at (front quote (byte ∷ bytes)) (λ len. quoted kind quote (at + 1) (len - 1) bytes)

-- a quoted name, which isn't empty
unfoldable pub name : List ℕ → Step
name text = if slice_index text 1 == 39 then steps.Fault kinds.Character 0 else quoted Quoted 39 1 0 (drop 1 text)

-- a string
unfoldable pub string : List ℕ → Step
string text = quoted Str 34 1 0 (drop 1 text)

-- ---- all

-- what stands at the front of a text, by what its first byte begins
abbrev pub at_begin : Begin → List ℕ → Step
at_begin begins.Space text = steps.Blank 1
at_begin begins.Word text = word text
at_begin begins.Number text = number text
at_begin begins.Name text = name text
at_begin begins.String text = string text
at_begin begins.Slash text = slash text
at_begin begins.Symbol text = symbol text

-- what stands at the front of a text
unfoldable pub next : List ℕ → Step
next [] = steps.End
next (byte ∷ bytes) = at_begin (begin_of byte) (byte ∷ bytes)

-- ---- lengths

-- a step goes on by at least one byte, and no further than to the end of so many bytes; a fault is no place behind it
abbrev pub IsWithin : ℕ → Step → Type 0
IsWithin len steps.End = Unit {0}
IsWithin len (steps.Blank n) = (0 < n) × (n ≤ len)
IsWithin len (steps.Token kind n) = (0 < n) × (n ≤ len)
IsWithin len (steps.Fault kind place) = place ≤ len

-- the same of a letter, behind `least` bytes of it that were read
abbrev pub IsLetterWithin : ℕ → ℕ → Front → Type 0
IsLetterWithin least len (fronts.Letter n meant) = (least < n) × (n ≤ least + len)
IsLetterWithin least len fronts.Close = 0 < len
IsLetterWithin least len fronts.LineEnd = Unit {0}
IsLetterWithin least len fronts.Nul = 0 < len
IsLetterWithin least len fronts.Backslash = 0 < least + len

-- the octal digits of a letter stand there
abbrev pub HasOctal : ℕ → ℕ → Front → Type 0
HasOctal second third (fronts.Letter n meant) = (2 ≤ n) × (n ≤ 4) × (3 ≤ n → 0 < second) × (4 ≤ n → 0 < third)
HasOctal second third other = Unit {0}

-- ---- marks

-- where a token is read, its mark
abbrev pub IsMarked : List ℕ → Step → Option Mark → Type 0
IsMarked text steps.End mark = Unit {0}
IsMarked text (steps.Blank n) mark = Unit {0}
IsMarked text (steps.Token kind n) mark = mark ≡ mark_of_kind kind (take n text)
IsMarked text (steps.Fault kind place) mark = Unit {0}

-- the place itself, or the one behind it where a blank stands there
abbrev pub PassesBlank : List ℕ → ℕ → ℕ → Type 0
PassesBlank text place behind = (behind ≡ place) ⊎ ((slice_index text place ≡ 32) × (behind ≡ place + 1))
