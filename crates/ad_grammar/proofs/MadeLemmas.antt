-- The grammar makes trees that keep what their words keep.
use Rattle.std.proofs.Common.{◌≡◌, ℕ, zero, suc, ◌<◌, ◌≤◌, true, ltb, not, ◌==◌, slice_index, List, [], ◌∷◌, ◌++◌, refl, sym, ◌∙◌, ap, subst, arith}
use Rattle.std.proofs.lemmas.Bool.Decides.{nat_tests}
use Rattle.std.proofs.lemmas.Bool.{and_parts, ltb-true}
use Rattle.std.proofs.lemmas.Str.{IsUtf8-from_ascii}
use Rattle.std.proofs.lemmas.Str.Ascii.{IsAscii-nil}
use Rattle.std.specs.List.{list_all}
use Rattle.ad_lexer.specs.Spelling.{Spells}
use Rattle.ad_lexer.specs.Words.{is_word_byte}
use Rattle.ad_lexer.specs.declared.token.TokenKind.TheVariants as kinds
use Rattle.ad_lexer.proofs.Runs.{all_weaker}
use Rattle.ad_lexer.proofs.WordLemmas.{word_bytes, word_nonempty}
use Rattle.ad_tree.specs.Inline.{Inline, shape, Inlines, end, next, Defs}
use Rattle.ad_tree.specs.Tree.{all, any}
use Rattle.ad_lexer.specs.declared.mark.Mark.{Mark}
use Rattle.ad_lexer.specs.declared.mark.Mark.TheVariants.{OpenParen, CloseParen, OpenBracket, CloseBracket, OpenBrace, CloseBrace, Comma, Semicolon, Dot}
use Rattle.ad_lexer.specs.declared.mark.Mark.TheVariants.{Assign, Question, Colon}
use Rattle.ad_builder.specs.declared.instruction.Infix.{Infix}
use Rattle.ad_builder.specs.declared.instruction.Infix.TheVariants as infixes
use Rattle.ad_builder.specs.Shapes.{followed_by, joined}
use Rattle.ad_grammar.specs.Words.{Word, plain, mark}
use Rattle.ad_grammar.specs.Grammar.{IsName, plain_name, quoted_name, IsExpr, conditional, level, IsLevel, operation, tighter, single, IsUnary, prefixed, bare}
use Rattle.ad_grammar.specs.Grammar.{IsPostfix, selection, subscripted, operand, IsPrimary, constant_operand, scoped, own, called, named, listed, ad_literal}
use Rattle.ad_grammar.specs.Grammar.{grouped, IsList, nothing, something, IsSeveral, last_one, one_more, IsAd, empty_ad, full_ad, IsDefs, last_def, closed_def}
use Rattle.ad_grammar.specs.Grammar.{more_defs, IsRoot}
use Rattle.ad_grammar.specs.Made.{IsNameText, number_of, begins_with_all, begins_with_any, IsMade, AllMade, DefsMade, IsMadeWord, AreMade}

-- words in two parts, without the mark between them
both-made : (a b : List Word) → AreMade (a ++ b) → AreMade a × AreMade b
both-made [] b m = (tt, m)
both-made (w ∷ ws) b m = let rest = both-made ws b m.1 in ((m.0, rest.0), rest.1)

parts : (ws a b : List Word) (m : Mark) → ws ≡ a ++ mark m ∷ b → AreMade ws → AreMade a × AreMade b
parts ws a b m split made = let both = both-made a (mark m ∷ b) (subst AreMade split made) in (both.0, both.1.1)

-- a word's letters are ASCII
ascii_at : (bytes : List ℕ) → list_all (λ c. ltb c 128) bytes ≡ true → (i : ℕ) → slice_index bytes i < 128
ascii_at [] is i = IsAscii-nil i
ascii_at (byte ∷ bytes) is zero = ltb-true byte 128 (and_parts (ltb byte 128) _ is).0
ascii_at (byte ∷ bytes) is (suc i) = ascii_at bytes (and_parts (ltb byte 128) _ is).1 i

word_byte-ascii : (byte : ℕ) → is_word_byte byte ≡ true → ltb byte 128 ≡ true
word_byte-ascii byte is = grind (arith, nat_tests)

word_byte-some : (byte : ℕ) → is_word_byte byte ≡ true → not (byte == 0) ≡ true
word_byte-some byte is = grind (arith, nat_tests)

pub plain_text : (text : List ℕ) → Spells kinds.Plain text → IsNameText text
plain_text text is =
    let bytes = word_bytes text is.0 in (
      (
        IsUtf8-from_ascii text (ascii_at text (all_weaker is_word_byte (λ c. ltb c 128) word_byte-ascii text bytes)),
        all_weaker is_word_byte (λ byte. not (byte == 0)) word_byte-some text bytes,
      ),
      word_nonempty text is.0,
    )

name-made : (w : Word) (text : List ℕ) → IsName w text → IsMadeWord w → IsNameText text
name-made w text (plain_name same) m = plain_text text m
name-made w text (quoted_name same) m = m

-- a chain with one more element
number_of-followed : (is : Inlines) (i : Inline) → number_of (followed_by is i) ≡ suc (number_of is)
number_of-followed end i = refl
number_of-followed (next j js) i = ap suc (number_of-followed js i)

AllMade-followed : (is : Inlines) (i : Inline) → AllMade is → IsMade i → AllMade (followed_by is i)
AllMade-followed end i m n = (n, tt)
AllMade-followed (next j js) i m n = (m.0, AllMade-followed js i m.1 n)

all-followed : (is : Inlines) (i : Inline) → 2 ≤ number_of is → begins_with_all (followed_by is i) ≡ begins_with_all is
all-followed end i some = absurd (omega arith)
all-followed (next (shape all ks) js) i some = refl
all-followed (next j js) i some = refl

any-followed : (is : Inlines) (i : Inline) → 2 ≤ number_of is → begins_with_any (followed_by is i) ≡ begins_with_any is
any-followed end i some = absurd (omega arith)
any-followed (next (shape any ks) js) i some = refl
any-followed (next j js) i some = refl

joined-made : (op : Infix) (x y : Inline) → IsMade x → IsMade y → IsMade (joined op x y)
joined-made infixes.And (shape all xs) y m n =
    let more = number_of-followed xs y in
    let many : 2 ≤ number_of xs = m.0.0 in
    ((omega arith, all-followed xs y many ∙ m.0.1), AllMade-followed xs y m.1 n)
joined-made infixes.And x y m n = ((omega arith, refl), (m, (n, tt)))
joined-made infixes.Or (shape any xs) y m n =
    let more = number_of-followed xs y in
    let many : 2 ≤ number_of xs = m.0.0 in
    ((omega arith, any-followed xs y many ∙ m.0.1), AllMade-followed xs y m.1 n)
joined-made infixes.Or x y m n = ((omega arith, refl), (m, (n, tt)))
joined-made (infixes.Binary op) x y m n = (refl, (m, (n, tt)))

-- each rule by its relation
mutual
  pub expr-made : (ws : List Word) (x : Inline) → IsExpr ws x → AreMade ws → IsMade x
  expr-made ws t (conditional same c a b x y z split dc da db) m =
      let first = parts ws c (a ++ mark Colon ∷ b) Question split m in
      let second = parts (a ++ mark Colon ∷ b) a b Colon refl first.1 in
      (refl, (level-made 10 c x dc first.0, (expr-made a y da second.0, (expr-made b z db second.1, tt))))
  expr-made ws x (level same t d) m = level-made 10 ws x d m

  level-made : (k : ℕ) (ws : List Word) (x : Inline) → IsLevel k ws x → AreMade ws → IsMade x
  level-made j ws t (operation k same a b o op x y split is da db) m =
      let two = parts ws a b o split m in
      joined-made op x y (level-made (suc k) a x da two.0) (level-made k b y db two.1)
  level-made j ws x (tighter k same t d) m = level-made k ws x d m
  level-made j ws x (single same t d) m = unary-made ws x d m

  unary-made : (ws : List Word) (x : Inline) → IsUnary ws x → AreMade ws → IsMade x
  unary-made whole t (prefixed ws o op x is d) m = (refl, (unary-made ws x d m.1, tt))
  unary-made ws x (bare same t d) m = postfix-made ws x d m

  postfix-made : (ws : List Word) (x : Inline) → IsPostfix ws x → AreMade ws → IsMade x
  postfix-made ws t (selection same a w text x split no_scope d is_name) m =
      let two = parts ws a (w ∷ []) Dot split m in
      ((name-made w text is_name two.1.0, refl), (postfix-made a x d two.0, tt))
  postfix-made ws t (subscripted same a b x y split da db) m =
      let two = parts ws a (b ++ mark CloseBracket ∷ []) OpenBracket split m in
      (refl, (postfix-made a x da two.0, (expr-made b y db (parts _ b [] CloseBracket refl two.1).0, tt)))
  postfix-made ws x (operand same t d) m = primary-made ws x d m

  primary-made : (ws : List Word) (x : Inline) → IsPrimary ws x → AreMade ws → IsMade x
  primary-made ws x (constant_operand lit) m = ((m.0, refl), tt)
  primary-made ws x (scoped scope word text w is is_name) m = ((name-made w text is_name m.1.1.0, refl), tt)
  primary-made ws x (own w text is_name) m = ((name-made w text is_name m.1.0, refl), tt)
  primary-made whole t (called function ws same xs split d) m =
      let made = (parts whole (plain function ∷ mark OpenParen ∷ ws) [] CloseParen split m).0 in
      (made.0, list-made ws xs d made.1.1)
  primary-made ws x (named w text is_name) m = ((name-made w text is_name m.0, refl), tt)
  primary-made whole t (listed ws same xs split d) m =
      (tt, list-made ws xs d (parts whole (mark OpenBrace ∷ ws) [] CloseBrace split m).0.1)
  primary-made ws x (ad_literal same ds d) m = ad-made ws ds d m
  primary-made whole x (grouped ws same t split d) m =
      expr-made ws x d (parts whole (mark OpenParen ∷ ws) [] CloseParen split m).0.1

  list-made : (ws : List Word) (xs : Inlines) → IsList ws xs → AreMade ws → AllMade xs
  list-made ws xs nothing m = tt
  list-made ws xs (something same ts d) m = several-made ws xs d m

  several-made : (ws : List Word) (xs : Inlines) → IsSeveral ws xs → AreMade ws → AllMade xs
  several-made ws xs (last_one same x d) m = (expr-made ws x d m, tt)
  several-made ws ts (one_more same a b x xs split da db) m =
      let two = parts ws a b Comma split m in
      (expr-made a x da two.0, several-made b xs db two.1)

  pub ad-made : (ws : List Word) (ds : Defs) → IsAd ws ds → AreMade ws → DefsMade ds
  ad-made ws ds empty_ad m = tt
  ad-made whole ds (full_ad ws same es split d) m =
      defs-made ws ds d (parts whole (mark OpenBracket ∷ ws) [] CloseBracket split m).0.1

  defs-made : (ws : List Word) (ds : Defs) → IsDefs ws ds → AreMade ws → DefsMade ds
  defs-made whole ds (last_def w text ws x is_name d) m = (name-made w text is_name m.0, expr-made ws x d m.1.1, tt)
  defs-made whole ds (closed_def w text ws same x split is_name d) m =
      let made = (parts whole (w ∷ mark Assign ∷ ws) [] Semicolon split m).0 in
      (name-made w text is_name made.0, expr-made ws x d made.1.1, tt)
  defs-made whole es (more_defs w text ws more same x ds split is_name d dm) m =
      let two = parts whole (w ∷ mark Assign ∷ ws) more Semicolon split m in
      (name-made w text is_name two.0.0, expr-made ws x d two.0.1.1, defs-made more ds dm two.1)

pub root-made : (ws : List Word) (x : Inline) → IsRoot ws x → AreMade ws → IsMade x
root-made ws x root made = subst IsMade (sym root.1) (ad-made ws root.0 root.2 made)
