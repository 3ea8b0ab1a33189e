-- The tokens of a text, and its fault.
use Rattle.std.specs.Prelude.{◌≡◌, ℕ, ◌+◌, ◌≤◌, false, List, [], ◌∷◌, ◌++◌, length, ◌⊎◌, Result, Ok, Err}
use Rattle.std.specs.List.{flat_map}
use Rattle.std.specs.Str.{IsUtf8, IsValidUpTo}
use Rattle.ad_lexer.specs.declared.fault.LexFault.{LexFault}
use Rattle.ad_lexer.specs.declared.fault.LexFault.TheVariants as faults
use Rattle.ad_lexer.specs.declared.fault.LexKind.{LexKind}
use Rattle.ad_lexer.specs.declared.fault.LexKind.TheVariants.{Encoding}
use Rattle.ad_lexer.specs.declared.token.TokenKind.{TokenKind}
use Rattle.ad_lexer.specs.Blanks.{begins_comment, IsBlank}
use Rattle.ad_lexer.specs.Faults.{Wrong}
use Rattle.ad_lexer.specs.Lexeme.{Lexeme}
use Rattle.ad_lexer.specs.Spelling.{Spells}

-- a token is spelled by its kind and is the longest that begins there, and neither a comment nor a fault begins there
pub record IsToken (kind : TokenKind) (bytes after : List ℕ) : Type 0 where
  pub spelled : Spells kind bytes
  pub longest : (other : TokenKind) (longer rest : List ℕ) → bytes ++ after ≡ longer ++ rest → Spells other longer → length longer ≤ length bytes
  pub no_comment : begins_comment (bytes ++ after) ≡ false
  pub no_fault : (fault : LexKind) (place : ℕ) → ¬ Wrong fault (bytes ++ after) place

-- what a text divides into: white space and comments, and tokens
pub data Item : Type 0 where
  blank : List ℕ → Item
  token : TokenKind → List ℕ → Item

-- the bytes of an item
abbrev pub bytes_of : Item → List ℕ
bytes_of (blank bytes) = bytes
bytes_of (token kind bytes) = bytes

-- an item stands before the bytes that follow
abbrev pub IsItem : Item → List ℕ → Type 0
IsItem (blank bytes) after = IsBlank bytes after
IsItem (token kind bytes) after = IsToken kind bytes after

-- a text divides into items and the rest behind them
abbrev pub Divides : List ℕ → List Item → List ℕ → Type 0
Divides text [] rest = text ≡ rest
Divides text (item ∷ items) rest =
    (after : List ℕ) × (text ≡ bytes_of item ++ after) × IsItem item after × Divides after items rest

-- the tokens among items that begin at a place
abbrev pub lexemes : ℕ → List Item → List Lexeme
lexemes at [] = []
lexemes at (blank bytes ∷ items) = lexemes (at + length bytes) items
lexemes at (token kind bytes ∷ items) =
    record { kind = kind; start = at; end = at + length bytes; text = bytes } ∷ lexemes (at + length bytes) items

-- the tokens of a text: it is UTF-8 and divides into items, of which these are the tokens
abbrev pub Tokens : List ℕ → List Lexeme → Type 0
Tokens text list = IsUtf8 text × ((items : List Item) × Divides text items [] × (list ≡ lexemes 0 items))

-- a text isn't UTF-8, and its ill-formed part begins at the place
abbrev pub IsIllFormed : List ℕ → LexKind → ℕ → Type 0
IsIllFormed text kind place = (kind ≡ Encoding) × (¬ (IsUtf8 text)) × IsValidUpTo text place

-- a text is UTF-8 and divides into items up to a fault, whose place counts from the front of the text
abbrev pub HasFault : List ℕ → LexKind → ℕ → Type 0
HasFault text kind place =
    IsUtf8 text
    × ((items : List Item) × (rest : List ℕ) × (at : ℕ)
    × Divides text items rest × Wrong kind rest at × (place ≡ length (flat_map bytes_of items) + at))

-- the fault of a text
abbrev pub Fault : List ℕ → LexKind → ℕ → Type 0
Fault text kind place = IsIllFormed text kind place ⊎ HasFault text kind place

-- what `lex` answers: the tokens of the text, its fault, or want of memory, of which alone nothing is said
abbrev pub Answers : List ℕ → Result (List Lexeme) LexFault → Type 0
Answers text (Ok list) = Tokens text list
Answers text (Err (faults.At kind place)) = Fault text kind place
Answers text (Err faults.OutOfMemory) = Unit {0}

-- the answer is the wanted one, or memory ran out
abbrev pub IsOrMemory : Result (List Lexeme) LexFault → Result (List Lexeme) LexFault → Type 0
IsOrMemory answer wanted = (answer ≡ wanted) ⊎ (answer ≡ Err faults.OutOfMemory)
