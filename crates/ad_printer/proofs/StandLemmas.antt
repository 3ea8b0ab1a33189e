-- Pieces stand side by side as the lexer's items: each stands before the text of those behind it.
use Rattle.std.proofs.Common.{◌≡◌, ℕ, suc, ◌<◌, ◌≤◌, Bool, true, false, not, eqb, pos, negsuc, decimal, codes, List, [], ◌∷◌, ◌++◌}
use Rattle.std.proofs.Common.{slice_index, refl, sym, ◌∙◌, ap, subst, inl, inr, arith, append_assoc, append-nil, IsUtf8}
use Rattle.std.proofs.lemmas.Bool.{cases_Bool, and_parts, or_right, true≢false}
use Rattle.std.proofs.lemmas.Bool.Decides.{nat_tests}
use Rattle.std.proofs.lemmas.Grind.{flat_map-append}
use Rattle.std.proofs.lemmas.Str.{IsUtf8-append, IsUtf8-nil, IsUtf8-from_ascii}
use Rattle.std.proofs.lemmas.Fmt.{IsAscii-decimal}
use Rattle.std.specs.Char.{is_ascii, is_ascii_digit}
use Rattle.std.specs.List.{list_all}
use Rattle.pool_text.specs.Number.{size_text}
use Rattle.pool_text.specs.declared.language.BinOp.{BinOp}
use Rattle.pool_text.specs.declared.language.BinOp.TheVariants as between
use Rattle.pool_text.specs.declared.language.Lit.{Lit}
use Rattle.pool_text.specs.declared.language.Lit.TheVariants as literals
use Rattle.ad_lexer.specs.Alone.{Ends, ends_word, ends_integer, ends_decimal, ends_symbol}
use Rattle.ad_lexer.specs.Numbers.{is_hexadecimal}
use Rattle.ad_lexer.specs.Spelling.{Spells}
use Rattle.ad_lexer.specs.Symbols.{is_symbol}
use Rattle.ad_lexer.specs.Tokens.{Item, token, bytes_of, IsItem, Divides}
use Rattle.ad_lexer.specs.Words.{begins_word, is_word, is_word_byte, is_reserved}
use Rattle.ad_lexer.specs.declared.token.TokenKind.{TokenKind}
use Rattle.ad_lexer.specs.declared.token.TokenKind.TheVariants as kinds
use Rattle.ad_lexer.proofs.AloneLemmas.{alone_token}
use Rattle.ad_lexer.proofs.DecimalLemmas.{decimal_integer}
use Rattle.ad_lexer.proofs.FractionLemmas.{decimal_ascii, decimal_begins}
use Rattle.ad_lexer.proofs.MillionthLemmas.{size_text_decimal}
use Rattle.ad_lexer.proofs.NumberLemmas.{integer_begins}
use Rattle.ad_lexer.proofs.TextLemmas.{put_ascii, quoted_spelling}
use Rattle.ad_tree.specs.Tree.{literal}
use Rattle.ad_tree.specs.declared.tree.Scope.{Scope}
use Rattle.ad_tree.specs.declared.tree.Scope.TheVariants as scopes
use Rattle.ad_grammar.specs.Made.{IsNameText, IsWritten}
use Rattle.ad_printer.specs.Pieces.{text_of, space, symbol, spaced, then_space, is_plain_name, name_piece, scoped, literal_piece, infix_bytes, behind}
use Rattle.ad_printer.specs.Printed.{label_precedence}
use Rattle.ad_printer.specs.Quotes.{in_quotes}
use Rattle.ad_printer.proofs.QuoteLemmas.{quotes_stand}

pub text_of-append : (xs ys : List Item) → text_of (xs ++ ys) ≡ text_of xs ++ text_of ys
text_of-append xs ys = flat_map-append bytes_of xs ys

-- the text of two rows of pieces before more
pub text-both : (xs ys : List Item) (after : List ℕ) → text_of (xs ++ ys) ++ after ≡ text_of xs ++ (text_of ys ++ after)
text-both xs ys after = ap (λ (t : List ℕ). t ++ after) (text_of-append xs ys) ∙ append_assoc (text_of xs) (text_of ys) after

abbrev pub Stand : List Item → List ℕ → Type 0
Stand [] after = Unit {0}
Stand (i ∷ is) after = IsItem i (text_of is ++ after) × IsUtf8 (bytes_of i) × Stand is after

pub Stand-append : (xs ys : List Item) (after : List ℕ) → Stand xs (text_of ys ++ after) → Stand ys after → Stand (xs ++ ys) after
Stand-append [] ys after a b = b
Stand-append (x ∷ xs) ys after a b = (subst (IsItem x) (sym (text-both xs ys after)) a.0, a.1, Stand-append xs ys after a.2 b)

pub Stand-divides : (xs : List Item) (after : List ℕ) → Stand xs after → Divides (text_of xs ++ after) xs after
Stand-divides [] after s = refl
Stand-divides (x ∷ xs) after s = (text_of xs ++ after, append_assoc (bytes_of x) (text_of xs) after, s.0, Stand-divides xs after s.2)

pub Stand-utf8 : (xs : List Item) (after : List ℕ) → Stand xs after → IsUtf8 (text_of xs)
Stand-utf8 [] after s = IsUtf8-nil
Stand-utf8 (x ∷ xs) after s = IsUtf8-append (bytes_of x) (text_of xs) s.1 (Stand-utf8 xs after s.2)

-- ---- what may follow

-- the byte that follows goes on with no word, and is a dot only behind what may stand before one
pub record Ahead (k : ℕ) (after : List ℕ) : Type 0 where
  pub no_word : is_word_byte (slice_index after 0) ≡ false
  pub dot : eqb (slice_index after 0) 46 ≡ true → k ≡ 0

pub ahead-of : (byte : ℕ) (rest : List ℕ) → is_word_byte byte ≡ false → eqb byte 46 ≡ false → (k : ℕ) → Ahead k (byte ∷ rest)
ahead-of byte rest no_word no_dot k = record { no_word = no_word; dot = λ is. absurd (true≢false (sym is ∙ no_dot)) }

pub ahead-end : (k : ℕ) → Ahead k []
ahead-end k = record { no_word = refl; dot = λ is. absurd (true≢false (sym is)) }

pub ahead-less : (j k : ℕ) (after : List ℕ) → j ≤ k → Ahead k after → Ahead j after
ahead-less j k after less a = record { no_word = a.no_word; dot = λ is. let none = a.dot is in omega arith }

pub ahead-any : (j k : ℕ) (after : List ℕ) → 0 < k → Ahead k after → Ahead j after
ahead-any j k after some a = record { no_word = a.no_word; dot = λ is. let none = a.dot is in absurd (omega arith) }

-- what a node's pieces keep: they stand before such a byte, and no `=` comes first
pub record Stands (k : ℕ) (items : List Item) : Type 0 where
  pub stand : (after : List ℕ) → Ahead k after → Stand items after
  pub begins : (after : List ℕ) → eqb (slice_index (text_of items ++ after) 0) 61 ≡ false

-- ---- tokens

pub ascii_utf8 : (bytes : List ℕ) → list_all is_ascii bytes ≡ true → IsUtf8 bytes
ascii_utf8 bytes is = subst IsUtf8 (append-nil bytes) (put_ascii bytes [] is IsUtf8-nil)

-- a token of ASCII bytes before more pieces
pub put-token : (kind : TokenKind) (bytes : List ℕ) (is : List Item) (after : List ℕ) → Spells kind bytes → IsUtf8 bytes
    → Ends kind bytes (slice_index (text_of is ++ after) 0) → Stand is after → Stand (token kind bytes ∷ is) after
put-token kind bytes is after spells utf8 ends s = (alone_token kind bytes (text_of is ++ after) spells ends, utf8, s)

pub put-space : (is : List Item) (after : List ℕ) → Stand is after → Stand (space ∷ is) after
put-space is after s = (inl (32, refl, refl), ascii_utf8 (32 ∷ []) refl, s)

ends_by : (byte : ℕ) → is_word_byte byte ≡ false → ends_word byte ≡ true
ends_by byte is = rw is refl

-- ---- names

pub no_equals : (byte : ℕ) → begins_word byte ≡ true → eqb byte 61 ≡ false
no_equals byte is = grind (arith, nat_tests)

no_digit : (byte : ℕ) → begins_word byte ≡ true → is_ascii_digit byte ≡ false
no_digit byte is = grind (arith, nat_tests)

-- the first byte of a word
pub word_first : (text after : List ℕ) → is_word text ≡ true → begins_word (slice_index (text ++ after) 0) ≡ true
word_first [] after is = absurd (true≢false (sym is))
word_first (byte ∷ bytes) after is = (and_parts (begins_word byte) _ is).0

-- a name by its first byte, and before what follows
pub record NameStands (text : List ℕ) : Type 0 where
  pub no_equals : (after : List ℕ) → eqb (slice_index (bytes_of (name_piece text) ++ after) 0) 61 ≡ false
  pub no_digit : (after : List ℕ) → is_ascii_digit (slice_index (bytes_of (name_piece text) ++ after) 0) ≡ false
  pub put : (is : List Item) (after : List ℕ) → is_word_byte (slice_index (text_of is ++ after) 0) ≡ false → Stand is after
      → Stand (name_piece text ∷ is) after

name_by : (text : List ℕ) (is : Bool) → is_plain_name text ≡ is → IsNameText text → NameStands text
name_by text true is made =
    let both = and_parts (is_word text) _ is in
    let free = and_parts (not (is_reserved text)) _ both.1 in
    let plain : is_reserved text ≡ false = grind (arith, nat_tests) in
    record {
      no_equals = λ after. rw is (no_equals (slice_index (text ++ after) 0) (word_first text after both.0));
      no_digit = λ after. rw is (no_digit (slice_index (text ++ after) 0) (word_first text after both.0));
      put = λ items after ends s. rw is (
        alone_token kinds.Plain text (text_of items ++ after) (both.0, plain)
            (ends_by (slice_index (text_of items ++ after) 0) ends),
        made.0.0,
        s,
      );
    }
name_by text false is made =
    let quoted = quotes_stand 39 text refl made.0.1 in
    record {
      no_equals = λ after. rw is refl;
      no_digit = λ after. rw is refl;
      put = λ items after ends s. rw is (
        alone_token kinds.Quoted (in_quotes 39 text) (text_of items ++ after) (text, quoted, made.1) tt,
        quoted_spelling 39 (in_quotes 39 text) text refl quoted made.0.0,
        s,
      );
    }

pub name_stands : (text : List ℕ) → IsNameText text → NameStands text
name_stands text made = name_by text (is_plain_name text) refl made

-- ---- literals

digit_no_equals : (byte : ℕ) → is_ascii_digit byte ≡ true → eqb byte 61 ≡ false
digit_no_equals byte is = grind (arith, nat_tests)

no_dot : (k : ℕ) (after : List ℕ) → Ahead (suc k) after → eqb (slice_index after 0) 46 ≡ false
no_dot k after a =
    elim (cases_Bool (eqb (slice_index after 0) 46)) [
      | inl is ↦ let none = a.dot is in absurd (omega arith)
      | inr isnt ↦ isnt
    ]

-- a number begins with no `=`
digit_first : (kind : TokenKind) (bytes after : List ℕ) → is_ascii_digit (slice_index (bytes ++ after) 0) ≡ true
    → eqb (slice_index (text_of (token kind bytes ∷ []) ++ after) 0) 61 ≡ false
digit_first kind bytes after digit =
    let same : text_of (token kind bytes ∷ []) ++ after ≡ bytes ++ after = ap (λ (t : List ℕ). t ++ after) (append-nil bytes) in
    rw same (digit_no_equals (slice_index (bytes ++ after) 0) digit)

integer_ends : (bytes : List ℕ) (byte : ℕ) → is_word_byte byte ≡ false → eqb byte 46 ≡ false → ends_integer bytes byte ≡ true
integer_ends bytes byte word dot = rw (word, dot) (or_right (is_hexadecimal bytes) true refl)

decimal_ends : (byte : ℕ) → is_word_byte byte ≡ false → eqb byte 46 ≡ false → ends_decimal byte ≡ true
decimal_ends byte word dot = rw (word, dot) refl

-- a reserved word's bytes begin with no `=`
reserved_stands : (bytes : List ℕ) → Spells kinds.Reserved bytes → IsUtf8 bytes
    → ((after : List ℕ) → eqb (slice_index (text_of (token kinds.Reserved bytes ∷ []) ++ after) 0) 61 ≡ false)
    → Stands 0 (token kinds.Reserved bytes ∷ [])
reserved_stands bytes spells utf8 begins = record {
  stand = λ after a. put-token kinds.Reserved bytes [] after spells utf8 (ends_by (slice_index after 0) a.no_word) tt;
  begins = begins;
}

pub literal_stands : (lit : Lit) → IsWritten lit → Stands (label_precedence (literal lit)) (literal_piece lit ∷ [])
literal_stands literals.Undefined made = reserved_stands (codes "undefined") (refl, refl) (ascii_utf8 (codes "undefined") refl) (λ after. refl)
literal_stands literals.Error made = reserved_stands (codes "error") (refl, refl) (ascii_utf8 (codes "error") refl) (λ after. refl)
literal_stands (literals.Boolean true) made = reserved_stands (codes "true") (refl, refl) (ascii_utf8 (codes "true") refl) (λ after. refl)
literal_stands (literals.Boolean false) made = reserved_stands (codes "false") (refl, refl) (ascii_utf8 (codes "false") refl) (λ after. refl)
literal_stands (literals.Integer (pos n)) made = record {
  stand =
      λ after a. put-token kinds.Int (decimal n) [] after (decimal_integer n made).0 (IsUtf8-from_ascii (decimal n) (IsAscii-decimal n (omega arith)))
      (integer_ends (decimal n) (slice_index after 0) a.no_word (no_dot 0 after a)) tt;
  begins = λ after. digit_first kinds.Int (decimal n) after (integer_begins (decimal n) after (decimal_integer n made).0);
}
literal_stands (literals.Integer (negsuc n)) made = absurd made
literal_stands (literals.Decimal (pos n)) made =
    let spells = (size_text_decimal n made).0 in
    record {
      stand =
          λ after a. put-token kinds.Dec (size_text n) [] after spells (ascii_utf8 (size_text n) (decimal_ascii (size_text n) spells))
          (decimal_ends (slice_index after 0) a.no_word (no_dot 0 after a)) tt;
      begins = λ after. digit_first kinds.Dec (size_text n) after (decimal_begins (size_text n) after spells);
    }
literal_stands (literals.Decimal (negsuc n)) made = absurd made
literal_stands (literals.Str text) made =
    let quoted = quotes_stand 34 text refl made.1 in
    record {
      stand =
          λ after a. put-token kinds.Str (in_quotes 34 text) [] after (text, quoted) (quoted_spelling 34 (in_quotes 34 text) text refl quoted made.0) tt tt;
      begins = λ after. refl;
    }

-- ---- names in their scopes

pub name_alone : (text : List ℕ) → IsNameText text → Stands 0 (name_piece text ∷ [])
name_alone text made =
    let name = name_stands text made in
    record {
      stand = λ after a. name.put [] after a.no_word tt;
      begins = λ after. rw (append-nil (bytes_of (name_piece text))) (name.no_equals after);
    }

dot_ends : (byte : ℕ) → is_ascii_digit byte ≡ false → ends_symbol (codes ".") byte ≡ true
dot_ends byte is = rw is refl

-- a dot before a name
pub put-selection : (text : List ℕ) (after : List ℕ) → IsNameText text → is_word_byte (slice_index after 0) ≡ false
    → Stand (symbol (codes ".") ∷ name_piece text ∷ []) after
put-selection text after made no_word =
    let name = name_stands text made in
    let first : is_ascii_digit (slice_index (text_of (name_piece text ∷ []) ++ after) 0) ≡ false =
    rw (append-nil (bytes_of (name_piece text))) (name.no_digit after) in
    put-token kinds.Symbol (codes ".") (name_piece text ∷ []) after refl (ascii_utf8 (codes ".") refl)
    (dot_ends (slice_index (text_of (name_piece text ∷ []) ++ after) 0) first)
    (name.put [] after no_word tt)

pub scoped_stands : (scope : Scope) (text : List ℕ) → IsNameText text → Stands 0 (scoped scope text)
scoped_stands scopes.Bare text made = name_alone text made
scoped_stands scopes.My text made = record {
  stand =
      λ after a. put-token kinds.Plain (codes "MY") (symbol (codes ".") ∷ name_piece text ∷ []) after (refl, refl) (ascii_utf8 (codes "MY") refl) refl
      (put-selection text after made a.no_word);
  begins = λ after. refl;
}
scoped_stands scopes.Target text made = record {
  stand =
      λ after a. put-token kinds.Plain (codes "TARGET") (symbol (codes ".") ∷ name_piece text ∷ []) after (refl, refl) (ascii_utf8 (codes "TARGET") refl)
      refl (put-selection text after made a.no_word);
  begins = λ after. refl;
}

-- ---- operators and brackets

-- what divides two rows of pieces
pub record Divider (divider : List Item) : Type 0 where
  pub first : ℕ
  pub rest : List ℕ
  pub text_is : text_of divider ≡ first ∷ rest
  pub no_word : is_word_byte first ≡ false
  pub no_dot : eqb first 46 ≡ false
  pub no_equals : eqb first 61 ≡ false
  pub stands : (after : List ℕ) → Stand divider after

pub put-spaced : (bytes : List ℕ) (is : List Item) (after : List ℕ) → is_symbol bytes ≡ true → list_all is_ascii bytes ≡ true
    → ends_symbol bytes 32 ≡ true → Stand is after → Stand (symbol bytes ∷ space ∷ is) after
put-spaced bytes is after spells ascii ends s = put-token kinds.Symbol bytes (space ∷ is) after spells (ascii_utf8 bytes ascii) ends (put-space is after s)

pub spaced-divider : (bytes : List ℕ) → is_symbol bytes ≡ true → list_all is_ascii bytes ≡ true → ends_symbol bytes 32 ≡ true
    → Divider (spaced bytes)
spaced-divider bytes spells ascii ends = record {
  first = 32;
  rest = bytes ++ 32 ∷ [];
  text_is = refl;
  no_word = refl;
  no_dot = refl;
  no_equals = refl;
  stands = λ after. put-space (symbol bytes ∷ space ∷ []) after (put-spaced bytes [] after spells ascii ends tt);
}

pub infix-divider : (op : BinOp) → Divider (spaced (infix_bytes op))
infix-divider between.BitOr = spaced-divider (codes "|") refl refl refl
infix-divider between.BitXor = spaced-divider (codes "^") refl refl refl
infix-divider between.BitAnd = spaced-divider (codes "&") refl refl refl
infix-divider between.Equal = spaced-divider (codes "==") refl refl refl
infix-divider between.Unequal = spaced-divider (codes "!=") refl refl refl
infix-divider between.Same = spaced-divider (codes "=?=") refl refl refl
infix-divider between.NotSame = spaced-divider (codes "=!=") refl refl refl
infix-divider between.Less = spaced-divider (codes "<") refl refl refl
infix-divider between.AtMost = spaced-divider (codes "<=") refl refl refl
infix-divider between.Greater = spaced-divider (codes ">") refl refl refl
infix-divider between.AtLeast = spaced-divider (codes ">=") refl refl refl
infix-divider between.ShiftLeft = spaced-divider (codes "<<") refl refl refl
infix-divider between.ShiftRight = spaced-divider (codes ">>") refl refl refl
infix-divider between.ShiftZero = spaced-divider (codes ">>>") refl refl refl
infix-divider between.Add = spaced-divider (codes "+") refl refl refl
infix-divider between.Sub = spaced-divider (codes "-") refl refl refl
infix-divider between.Mul = spaced-divider (codes "*") refl refl refl
infix-divider between.Div = spaced-divider (codes "/") refl refl refl
infix-divider between.Rem = spaced-divider (codes "%") refl refl refl

pub comma-divider : Divider (then_space (codes ","))
comma-divider = record {
  first = 44;
  rest = 32 ∷ [];
  text_is = refl;
  no_word = refl;
  no_dot = refl;
  no_equals = refl;
  stands = λ after. put-spaced (codes ",") [] after refl refl refl tt;
}

pub semicolon-divider : Divider (then_space (codes ";"))
semicolon-divider = record {
  first = 59;
  rest = 32 ∷ [];
  text_is = refl;
  no_word = refl;
  no_dot = refl;
  no_equals = refl;
  stands = λ after. put-spaced (codes ";") [] after refl refl refl tt;
}

divider_text : (divider : List Item) (d : Divider divider) (is : List Item) (after : List ℕ)
    → text_of (divider ++ is) ++ after ≡ d.first ∷ ((d.rest ++ text_of is) ++ after)
divider_text divider d is after = ap (λ (t : List ℕ). t ++ after) (text_of-append divider is ∙ ap (λ (t : List ℕ). t ++ text_of is) d.text_is)

pub ahead-divider : (divider : List Item) (d : Divider divider) (is : List Item) (after : List ℕ) (k : ℕ) → Ahead k (text_of (divider ++ is) ++ after)
ahead-divider divider d is after k =
    subst (Ahead k) (sym (divider_text divider d is after)) (ahead-of d.first ((d.rest ++ text_of is) ++ after) d.no_word d.no_dot k)

-- pieces, what divides them from others, and these
pub put-divided : (k : ℕ) (divider xs ys : List Item) (after : List ℕ) → Divider divider → Stands k xs → Stand ys after
    → Stand (xs ++ (divider ++ ys)) after
put-divided k divider xs ys after d a b =
    Stand-append xs (divider ++ ys) after (a.stand (text_of (divider ++ ys) ++ after) (ahead-divider divider d ys after k))
    (Stand-append divider ys after (d.stands (text_of ys ++ after)) b)

pub begins-append : (k : ℕ) (xs ys : List Item) (after : List ℕ) → Stands k xs → eqb (slice_index (text_of (xs ++ ys) ++ after) 0) 61 ≡ false
begins-append k xs ys after a = rw (text-both xs ys after) (a.begins (text_of ys ++ after))

-- a row of pieces
abbrev pub AllStand : ℕ → List (List Item) → Type 0
AllStand k [] = Unit {0}
AllStand k (p ∷ ps) = Stands k p × AllStand k ps

pub behind-ahead : (divider : List Item) (d : Divider divider) (k : ℕ) (ps : List (List Item)) (after : List ℕ) → Ahead k after
    → Ahead k (text_of (behind divider ps) ++ after)
behind-ahead divider d k [] after a = a
behind-ahead divider d k (p ∷ ps) after a = ahead-divider divider d (p ++ behind divider ps) after k

pub behind-stands : (divider : List Item) (d : Divider divider) (k : ℕ) (ps : List (List Item)) (after : List ℕ) → AllStand k ps → Ahead k after
    → Stand (behind divider ps) after
behind-stands divider d k [] after all a = tt
behind-stands divider d k (p ∷ ps) after all a =
    Stand-append divider (p ++ behind divider ps) after (d.stands (text_of (p ++ behind divider ps) ++ after))
    (Stand-append p (behind divider ps) after (all.0.stand (text_of (behind divider ps) ++ after) (behind-ahead divider d k ps after a))
    (behind-stands divider d k ps after all.1 a))

-- the first of a row, and the others behind it
pub row-stands : (divider : List Item) (d : Divider divider) (j k : ℕ) (p : List Item) (ps : List (List Item)) (after : List ℕ) → Stands j p
    → AllStand k ps → Ahead j after → Ahead k after → Stand (p ++ behind divider ps) after
row-stands divider d j k p ps after first all a b =
    Stand-append p (behind divider ps) after (first.stand (text_of (behind divider ps) ++ after) (behind-ahead divider d j ps after a))
    (behind-stands divider d k ps after all b)
