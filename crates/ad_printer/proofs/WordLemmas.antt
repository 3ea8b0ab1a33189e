-- The words of pieces, and what the words of names and literals are.
use Rattle.std.proofs.Common.{◌≡◌, ℕ, ◌+◌, Bool, true, false, not, pos, negsuc, List, [], ◌∷◌, ◌++◌, length, Option, None, Some, refl, ap}
use Rattle.std.specs.Prelude.{is_some}
use Rattle.std.proofs.lemmas.Bool.{and_parts, not-true}
use Rattle.std.proofs.lemmas.Grind.{flat_map-append}
use Rattle.std.specs.List.{flat_map}
use Rattle.pool_text.specs.declared.language.BinOp.{BinOp}
use Rattle.pool_text.specs.declared.language.BinOp.TheVariants as between
use Rattle.pool_text.specs.declared.language.Lit.{Lit}
use Rattle.pool_text.specs.declared.language.Lit.TheVariants as literals
use Rattle.ad_lexer.specs.Tokens.{Item, blank, token, lexemes}
use Rattle.ad_lexer.specs.Words.{is_word, is_reserved}
use Rattle.ad_lexer.specs.declared.token.TokenKind.TheVariants as kinds
use Rattle.ad_lexer.proofs.ContentLemmas.{quoted_content}
use Rattle.ad_lexer.proofs.DecimalLemmas.{decimal_integer}
use Rattle.ad_lexer.proofs.MillionthLemmas.{size_text_decimal}
use Rattle.ad_grammar.specs.Grammar.{IsName, plain_name, quoted_name, IsNoScope}
use Rattle.ad_grammar.specs.Made.{IsNameText, IsWritten}
use Rattle.ad_grammar.specs.Words.{Word, plain, quoted, constant, mark, word_of_kind, words, scope_of}
use Rattle.ad_lexer.specs.declared.mark.Mark.TheVariants.{Binary}
use Rattle.ad_printer.specs.Pieces.{is_plain_name, name_piece, literal_piece, infix_bytes}
use Rattle.ad_printer.specs.Quotes.{in_quotes}
use Rattle.ad_printer.proofs.QuoteLemmas.{quotes_stand}

abbrev pub word_in : Item → List Word
word_in (blank bytes) = []
word_in (token kind bytes) = word_of_kind kind bytes ∷ []

-- the words of pieces
abbrev pub words_of : List Item → List Word
words_of items = flat_map word_in items

pub lexemes-words : (at : ℕ) (items : List Item) → words (lexemes at items) ≡ words_of items
lexemes-words at [] = refl
lexemes-words at (blank bytes ∷ items) = lexemes-words (at + length bytes) items
lexemes-words at (token kind bytes ∷ items) = ap (λ ws. word_of_kind kind bytes ∷ ws) (lexemes-words (at + length bytes) items)

pub words_of-append : (xs ys : List Item) → words_of (xs ++ ys) ≡ words_of xs ++ words_of ys
words_of-append xs ys = flat_map-append word_in xs ys

-- ---- names

no_value : {A : Type 0} (o : Option A) → is_some o ≡ false → o ≡ None
no_value None is = refl
no_value (Some a) is = absurd (cc)

-- a name's word is one, and no scope by itself
pub record NameWord (text : List ℕ) : Type 0 where
  pub name : Word
  pub is : word_in (name_piece text) ≡ name ∷ []
  pub names : IsName name text
  pub alone : IsNoScope (name ∷ [])

name_by : (text : List ℕ) (is : Bool) → is_plain_name text ≡ is → IsNameText text → NameWord text
name_by text true is made =
    let both = and_parts (is_word text) _ is in
    let more = and_parts (not (is_reserved text)) _ both.1 in
    record {
      name = plain text;
      is = rw is refl;
      names = plain_name text;
      alone = no_value (scope_of text) (not-true _ more.1);
    }
name_by text false is made = record {
  name = quoted text;
  is = rw is (ap (λ t. quoted t ∷ []) (quoted_content 39 (in_quotes 39 text) text refl (quotes_stand 39 text refl made.0.1)));
  names = quoted_name text;
  alone = tt;
}

pub name_word : (text : List ℕ) → IsNameText text → NameWord text
name_word text made = name_by text (is_plain_name text) refl made

-- ---- literals

pub literal_word : (lit : Lit) → IsWritten lit → word_in (literal_piece lit) ≡ constant lit ∷ []
literal_word literals.Undefined made = refl
literal_word literals.Error made = refl
literal_word (literals.Boolean true) made = refl
literal_word (literals.Boolean false) made = refl
literal_word (literals.Integer (pos n)) made = ap (λ (v : ℕ). constant (literals.Integer (pos v)) ∷ []) (decimal_integer n made).1
literal_word (literals.Integer (negsuc n)) made = absurd made
literal_word (literals.Decimal (pos n)) made = ap (λ (v : ℕ). constant (literals.Decimal (pos v)) ∷ []) (size_text_decimal n made).1
literal_word (literals.Decimal (negsuc n)) made = absurd made
literal_word (literals.Str text) made =
    ap (λ t. constant (literals.Str t) ∷ []) (quoted_content 34 (in_quotes 34 text) text refl (quotes_stand 34 text refl made.1))

-- ---- operators between operands

pub infix_word : (op : BinOp) → word_of_kind kinds.Symbol (infix_bytes op) ≡ mark (Binary op)
infix_word between.BitOr = refl
infix_word between.BitXor = refl
infix_word between.BitAnd = refl
infix_word between.Equal = refl
infix_word between.Unequal = refl
infix_word between.Same = refl
infix_word between.NotSame = refl
infix_word between.Less = refl
infix_word between.AtMost = refl
infix_word between.Greater = refl
infix_word between.AtLeast = refl
infix_word between.ShiftLeft = refl
infix_word between.ShiftRight = refl
infix_word between.ShiftZero = refl
infix_word between.Add = refl
infix_word between.Sub = refl
infix_word between.Mul = refl
infix_word between.Div = refl
infix_word between.Rem = refl
