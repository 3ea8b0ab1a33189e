-- Completeness: each rule reads what is of the grammar, whatever follows that doesn't go on.
use Rattle.std.proofs.Common.{◌≡◌, ℕ, zero, suc, ◌+◌, ◌<◌, ◌≤◌, List, [], ◌∷◌, ◌++◌, length, Option, None, Some, refl, ap, ◌∙◌, arith, length-append}
use Rattle.std.proofs.Common.{append_assoc}
use Rattle.ad_tree.specs.declared.tree.Scope.{Scope}
use Rattle.ad_tree.specs.declared.tree.Scope.TheVariants.{Bare}
use Rattle.ad_tree.specs.Inline.{Inline, Inlines, Defs, def}
use Rattle.ad_tree.specs.Tree.{name}
use Rattle.pool_text.specs.declared.language.UnOp.{UnOp}
use Rattle.ad_lexer.specs.declared.mark.Mark.{Mark}
use Rattle.ad_lexer.specs.declared.mark.Mark.TheVariants.{OpenParen, CloseParen, OpenBracket, CloseBracket, OpenBrace, CloseBrace, Comma, Semicolon, Dot}
use Rattle.ad_lexer.specs.declared.mark.Mark.TheVariants.{Assign, Question, Colon}
use Rattle.ad_builder.specs.Shapes.{leaf}
use Rattle.ad_grammar.specs.Words.{Word, plain, mark}
use Rattle.ad_grammar.specs.Grammar.{IsName, plain_name, quoted_name, IsExpr, conditional, level, IsLevel, operation, tighter, single, IsUnary, prefixed, bare}
use Rattle.ad_grammar.specs.Grammar.{IsPostfix, selection, subscripted, operand, IsPrimary, constant_operand, scoped, own, called, named, listed, ad_literal}
use Rattle.ad_grammar.specs.Grammar.{grouped, IsList, nothing, something, IsSeveral, last_one, one_more, IsAd, empty_ad, full_ad, IsDefs, last_def, closed_def}
use Rattle.ad_grammar.specs.Grammar.{more_defs}
use Rattle.ad_grammar.specs.Rules.{Reading, Rule, close_paren, close_brace, several, arguments, elements, definitions_behind, definitions_at, ad_behind}
use Rattle.ad_grammar.specs.Rules.{named_in, plain_at, primary, suffixes, postfix, prefixed_or, prefixes, operation_or, operations, level_at, conditionals}
use Rattle.ad_grammar.specs.Rules.{expression}
use Rattle.ad_grammar.proofs.Readings.{and_then-at, name_at-is}
use Rattle.ad_grammar.proofs.Follows.{level_of, level_behind, Ends, ends, suffixes-stop, choice-stop, several-stop, infix_at-is, level_of-infix}
use Rattle.ad_grammar.proofs.Follows.{operations-stop, prefixes-postfix}

-- a rule that goes on as a loop with turns enough for the words that are left
record Turns (rule : Rule) (ws rest : List Word) (loop : ℕ → Reading Inline) : Type 0 where
  turns : ℕ
  enough : length rest ≤ turns
  same : rule ws ≡ loop turns

-- one turn of it
turn : {rule : Rule} {all ws rest less : List Word} {loop again : ℕ → Reading Inline}
    → all ≡ ws → Turns rule ws rest loop → length less < length rest → ((n : ℕ) → loop (suc n) ≡ again n)
    → Turns rule all less again
turn {rule} {all} {ws} {rest} {less} {loop} {again} is t fewer step = by t.turns t.enough t.same
  where
    by : (n : ℕ) → length rest ≤ n → rule ws ≡ loop n → Turns rule all less again
    by zero enough same = absurd (omega arith)
    by (suc n) enough same = record { turns = n; enough = omega arith; same = ap rule is ∙ same ∙ step n }

-- what each rule reads of words of its relation, with enough turns and enough expressions within one another
abbrev pub ReadsExpr : List Word → Inline → Type 0
ReadsExpr ws x = (f n : ℕ) (r : List Word) → length ws ≤ f → length ws < n → 11 < level_behind r
    → conditionals (expression f) n (ws ++ r) ≡ Some (x, r)

abbrev ReadsUnary : List Word → Inline → Type 0
ReadsUnary ws x = (f : ℕ) (r : List Word) → length ws ≤ f → 0 < level_behind r → prefixes (expression f) (ws ++ r) ≡ Some (x, r)

abbrev ReadsLevel : ℕ → List Word → Inline → Type 0
ReadsLevel zero ws x = ReadsUnary ws x
ReadsLevel (suc k) ws x = (f : ℕ) (r : List Word) → length ws ≤ f → k < level_behind r
    → Turns (level_at (expression f) (suc k)) (ws ++ r) r (λ n. operations (level_at (expression f) k) (suc k) n x r)

abbrev ReadsPostfix : List Word → Inline → Type 0
ReadsPostfix ws x = (f : ℕ) (r : List Word) → length ws ≤ f → Ends ws r
    → Turns (postfix (expression f)) (ws ++ r) r (λ n. suffixes (expression f) n x r)

abbrev ReadsPrimary : List Word → Inline → Type 0
ReadsPrimary ws x = (f : ℕ) (r : List Word) → length ws ≤ f → Ends ws r → primary (expression f) (ws ++ r) ≡ Some (x, r)

abbrev ReadsSeveral : List Word → Inlines → Type 0
ReadsSeveral ws xs = (f n : ℕ) (r : List Word) → length ws < f → length ws < n → 12 < level_behind r
    → several (expression f) n (ws ++ r) ≡ Some (xs, r)

abbrev ReadsList : List Word → Inlines → Type 0
ReadsList ws xs = (f : ℕ) (r : List Word) → length ws < f
    → (arguments (expression f) (ws ++ mark CloseParen ∷ r) ≡ Some (xs, r))
    × (elements (expression f) (ws ++ mark CloseBrace ∷ r) ≡ Some (xs, r))

abbrev ReadsDefs : List Word → Defs → Type 0
ReadsDefs ws ds = (f n : ℕ) (r : List Word) → length ws < f → length ws < n
    → definitions_at (expression f) n (ws ++ mark CloseBracket ∷ r) ≡ Some (ds, r)

abbrev pub ReadsAd : List Word → Defs → Type 0
ReadsAd ws ds = (f : ℕ) (r : List Word) → length ws ≤ f
    → (back : List Word) × (ws ++ r ≡ mark OpenBracket ∷ back) × (ad_behind (expression f) back ≡ Some (ds, r))

-- words in two and in three parts, with what follows
two : (ws a b r : List Word) (m : Mark) → ws ≡ a ++ mark m ∷ b
    → (ws ++ r ≡ a ++ mark m ∷ (b ++ r)) × (length ws ≡ length a + suc (length b))
two ws a b r m split = (ap (λ s. s ++ r) split ∙ append_assoc a (mark m ∷ b) r, ap length split ∙ length-append a (mark m ∷ b))

three : (ws a b c r : List Word) (m o : Mark) → ws ≡ a ++ mark m ∷ (b ++ mark o ∷ c)
    → (ws ++ r ≡ a ++ mark m ∷ (b ++ mark o ∷ (c ++ r))) × (length ws ≡ length a + suc (length b + suc (length c)))
three ws a b c r m o split =
    let outer = two ws a (b ++ mark o ∷ c) r m split in
    let within = two (b ++ mark o ∷ c) b c r o refl in
    (outer.0 ∙ ap (λ s. a ++ mark m ∷ s) within.0, omega arith)

-- an expression within another, and operands at a level
pub inner-reads : (ws : List Word) (x : Inline) → ReadsExpr ws x
    → (f : ℕ) (r : List Word) → length ws < f → 11 < level_behind r → expression f (ws ++ r) ≡ Some (x, r)
inner-reads ws x h zero r deep free = absurd (omega arith)
inner-reads ws x h (suc f) r deep free = h f (suc (length (ws ++ r))) r (omega arith) (omega (arith, length-append ws r)) free

level-whole : (k : ℕ) (ws : List Word) (x : Inline) → ReadsLevel k ws x
    → (f : ℕ) (r : List Word) → length ws ≤ f → k < level_behind r → level_at (expression f) k (ws ++ r) ≡ Some (x, r)
level-whole zero ws x h f r deep free = h f r deep free
level-whole (suc k) ws x h f r deep free =
    let found = h f r deep (omega arith) in
    found.same ∙ operations-stop _ (suc k) found.turns x r free

-- a name alone
plain-reads : (text : List ℕ) (e : Rule) (r : List Word)
    → Ends (plain text ∷ []) r → plain_at e text r ≡ Some (leaf (name Bare text), r)
plain-reads text e (mark Dot ∷ r) end_here = ap (λ (s : Option Scope). named_in s text r) end_here
plain-reads text e (mark OpenParen ∷ r) end_here = absurd end_here
plain-reads text e r end_here = refl

-- no expression begins with a mark that closes
several-none : (f n : ℕ) (ws : List Word)
    → (several (expression f) n (mark CloseParen ∷ ws) ≡ None) × (several (expression f) n (mark CloseBrace ∷ ws) ≡ None)
several-none f zero ws = (refl, refl)
several-none zero (suc n) ws = (refl, refl)
several-none (suc f) (suc n) ws = (refl, refl)

arguments-are : (f : ℕ) (ws : List Word) (xs : Inlines) (r : List Word)
    → several (expression f) (length ws) ws ≡ Some (xs, mark CloseParen ∷ r) → arguments (expression f) ws ≡ Some (xs, r)
arguments-are f (mark CloseParen ∷ ws) xs r h = let none = several-none f (suc (length ws)) ws in absurd cc
arguments-are f ws xs r h = and_then-at close_paren h

elements-are : (f : ℕ) (ws : List Word) (xs : Inlines) (r : List Word)
    → several (expression f) (length ws) ws ≡ Some (xs, mark CloseBrace ∷ r) → elements (expression f) ws ≡ Some (xs, r)
elements-are f (mark CloseBrace ∷ ws) xs r h = let none = several-none f (suc (length ws)) ws in absurd cc
elements-are f ws xs r h = and_then-at close_brace h

-- nor does a definition
definitions-none : (e : Rule) (n : ℕ) (ws : List Word) → definitions_at e n (mark CloseBracket ∷ ws) ≡ None
definitions-none e zero ws = refl
definitions-none e (suc n) ws = refl

definitions-more : (e : Rule) (n : ℕ) (text : List ℕ) (x : Inline) (ws : List Word) (ds : Defs) (r : List Word)
    → definitions_at e n ws ≡ Some (ds, r)
    → definitions_behind (definitions_at e n) text x (mark Semicolon ∷ ws) ≡ Some (def text x ds, r)
definitions-more e n text x (mark CloseBracket ∷ ws) ds r h = let none = definitions-none e n ws in absurd cc
definitions-more e n text x ws ds r h = and_then-at _ h

ad_behind-is : (e : Rule) (ws : List Word) (found : Defs × List Word)
    → definitions_at e (length ws) ws ≡ Some found → ad_behind e ws ≡ Some found
ad_behind-is e (mark CloseBracket ∷ ws) found h = let none = definitions-none e (suc (length ws)) ws in absurd cc
ad_behind-is e ws found h = h

definition-reads : (w : Word) (text : List ℕ) (ws : List Word) (x : Inline) → IsName w text → ReadsExpr ws x
    → (f n : ℕ) (r : List Word) → length ws < f → 11 < level_behind r
    → definitions_at (expression f) (suc n) (w ∷ mark Assign ∷ (ws ++ r))
    ≡ definitions_behind (definitions_at (expression f) n) text x r
definition-reads w text ws x is_name h f n r deep free =
    and_then-at _ (name_at-is w text _ is_name) ∙ and_then-at _ (inner-reads ws x h f r deep free)

-- each rule by its relation
mutual
  pub expr-reads : (ws : List Word) (x : Inline) → IsExpr ws x → ReadsExpr ws x
  expr-reads ws x d f zero r deep turns free = absurd (omega arith)
  expr-reads ws t (conditional same c a b x y z split dc da db) f (suc n) r deep turns free =
      let p = three ws c a b r Question Colon split in
      ap (conditionals (expression f) (suc n)) p.0
      ∙ and_then-at _ (level-whole 10 c x (level-reads 10 c x dc) f _ (omega arith) (omega arith))
      ∙ and_then-at _ (and_then-at _ (inner-reads a y (expr-reads a y da) f _ (omega arith) (omega arith)))
      ∙ and_then-at _ (expr-reads b z db f n r (omega arith) (omega arith) free)
  expr-reads ws x (level same t d) f (suc n) r deep turns free =
      and_then-at _ (level-whole 10 ws x (level-reads 10 ws x d) f r deep (omega arith))
      ∙ choice-stop (expression f) (conditionals (expression f) n) x r free

  level-reads : (k : ℕ) (ws : List Word) (x : Inline) → IsLevel k ws x → ReadsLevel k ws x
  level-reads j ws t (operation k same a b m op x y split is da db) = λ f r deep free.
      let p = two ws a b r m split in
      let at : level_of m ≡ suc k = level_of-infix (suc k) m op is in
      let tight : Rule = level_at (expression f) k in
      turn p.0 (level-reads (suc k) a x da f _ (omega arith) (omega arith)) (omega (arith, length-append b r))
      (λ n. ap (operation_or tight (operations tight (suc k) n) x _) (infix_at-is (suc k) m op _ is)
      ∙ and_then-at _ (level-whole k b y (level-reads k b y db) f r (omega arith) free))
  level-reads j ws x (tighter k same t d) = λ f r deep free.
      record { turns = length r; enough = omega arith; same = and_then-at _ (level-whole k ws x (level-reads k ws x d) f r deep free) }
  level-reads j ws x (single same t d) = unary-reads ws x d

  unary-reads : (ws : List Word) (x : Inline) → IsUnary ws x → ReadsUnary ws x
  unary-reads all t (prefixed ws m op x is d) f r deep free =
      ap (λ (s : Option UnOp). prefixed_or s (prefixes (expression f) (ws ++ r)) (postfix (expression f) (mark m ∷ (ws ++ r)))) is
      ∙ and_then-at _ (unary-reads ws x d f r (omega arith) free)
  unary-reads ws x (bare same t d) f r deep free =
      let found = postfix-reads ws x d f r deep (ends ws r free) in
      prefixes-postfix (expression f) (ws ++ r) (x, r) (found.same ∙ suffixes-stop _ found.turns x r free)

  postfix-reads : (ws : List Word) (x : Inline) → IsPostfix ws x → ReadsPostfix ws x
  postfix-reads ws t (selection same a w text x split no_scope d is_name) f r deep end_here =
      let p = two ws a (w ∷ []) r Dot split in
      turn p.0 (postfix-reads a x d f _ (omega arith) no_scope) (omega arith) (λ n. and_then-at _ (name_at-is w text r is_name))
  postfix-reads ws t (subscripted same a b x y split da db) f r deep end_here =
      let p = three ws a b [] r OpenBracket CloseBracket split in
      turn p.0 (postfix-reads a x da f _ (omega arith) tt) (omega (arith, length-append b (mark CloseBracket ∷ r)))
      (λ n. and_then-at _ (and_then-at _ (inner-reads b y (expr-reads b y db) f _ (omega arith) (omega arith))))
  postfix-reads ws x (operand same t d) f r deep end_here =
      record { turns = length r; enough = omega arith; same = and_then-at _ (primary-reads ws x d f r deep end_here) }

  primary-reads : (ws : List Word) (x : Inline) → IsPrimary ws x → ReadsPrimary ws x
  primary-reads ws x (constant_operand lit) f r deep end_here = refl
  primary-reads ws x (scoped scope word text w is is_name) f r deep end_here =
      ap (λ (s : Option Scope). named_in s word (w ∷ r)) is ∙ and_then-at _ (name_at-is w text r is_name)
  primary-reads ws x (own w text is_name) f r deep end_here = and_then-at _ (name_at-is w text r is_name)
  primary-reads all t (called function ws same xs split d) f r deep end_here =
      let p = three all (plain function ∷ []) ws [] r OpenParen CloseParen split in
      ap (primary (expression f)) p.0 ∙ and_then-at _ (list-reads ws xs d f r (omega arith)).0
  primary-reads ws x (named w text (plain_name same)) f r deep end_here = plain-reads text (expression f) r end_here
  primary-reads ws x (named w text (quoted_name same)) f r deep end_here = refl
  primary-reads all t (listed ws same xs split d) f r deep end_here =
      let p = three all [] ws [] r OpenBrace CloseBrace split in
      ap (primary (expression f)) p.0 ∙ and_then-at _ (list-reads ws xs d f r (omega arith)).1
  primary-reads ws x (ad_literal same ds d) f r deep end_here =
      let found = ad-reads ws ds d f r deep in
      ap (primary (expression f)) found.1 ∙ and_then-at _ found.2
  primary-reads all x (grouped ws same t split d) f r deep end_here =
      let p = three all [] ws [] r OpenParen CloseParen split in
      ap (primary (expression f)) p.0 ∙ and_then-at _ (inner-reads ws x (expr-reads ws x d) f _ (omega arith) (omega arith))

  list-reads : (ws : List Word) (xs : Inlines) → IsList ws xs → ReadsList ws xs
  list-reads ws xs nothing f r deep = (refl, refl)
  list-reads ws xs (something same ts d) f r deep =
      let turns : (m : Mark) → length ws < length (ws ++ mark m ∷ r) = λ m. omega (arith, length-append ws (mark m ∷ r)) in (
        arguments-are f _ xs r (several-reads ws xs d f _ _ deep (turns CloseParen) (omega arith)),
        elements-are f _ xs r (several-reads ws xs d f _ _ deep (turns CloseBrace) (omega arith)),
      )

  several-reads : (ws : List Word) (xs : Inlines) → IsSeveral ws xs → ReadsSeveral ws xs
  several-reads ws xs d f zero r deep turns free = absurd (omega arith)
  several-reads ws xs (last_one same x d) f (suc n) r deep turns free =
      and_then-at _ (inner-reads ws x (expr-reads ws x d) f r deep (omega arith)) ∙ several-stop _ x r free
  several-reads ws ts (one_more same a b x xs split da db) f (suc n) r deep turns free =
      let p = two ws a b r Comma split in
      ap (several (expression f) (suc n)) p.0
      ∙ and_then-at _ (inner-reads a x (expr-reads a x da) f _ (omega arith) (omega arith))
      ∙ and_then-at _ (several-reads b xs db f n r (omega arith) (omega arith) free)

  pub ad-reads : (ws : List Word) (ds : Defs) → IsAd ws ds → ReadsAd ws ds
  ad-reads ws ds empty_ad f r deep = (mark CloseBracket ∷ r, refl, refl)
  ad-reads all ds (full_ad ws same es split d) f r deep =
      let p = three all [] ws [] r OpenBracket CloseBracket split in
      let turns : length ws < length (ws ++ mark CloseBracket ∷ r) = omega (arith, length-append ws (mark CloseBracket ∷ r)) in
      (_, p.0, ad_behind-is (expression f) _ (ds, r) (defs-reads ws ds d f _ r (omega arith) turns))

  defs-reads : (ws : List Word) (ds : Defs) → IsDefs ws ds → ReadsDefs ws ds
  defs-reads ws ds d f zero r deep turns = absurd (omega arith)
  defs-reads all ds (last_def w text ws x is_name d) f (suc n) r deep turns =
      definition-reads w text ws x is_name (expr-reads ws x d) f n _ (omega arith) (omega arith)
  defs-reads all ds (closed_def w text ws same x split is_name d) f (suc n) r deep turns =
      let p = three all (w ∷ []) ws [] (mark CloseBracket ∷ r) Assign Semicolon split in
      ap (definitions_at (expression f) (suc n)) p.0
      ∙ definition-reads w text ws x is_name (expr-reads ws x d) f n _ (omega arith) (omega arith)
  defs-reads all es (more_defs w text ws more same x ds split is_name d dm) f (suc n) r deep turns =
      let p = three all (w ∷ []) ws more (mark CloseBracket ∷ r) Assign Semicolon split in
      ap (definitions_at (expression f) (suc n)) p.0
      ∙ definition-reads w text ws x is_name (expr-reads ws x d) f n _ (omega arith) (omega arith)
      ∙ definitions-more (expression f) n text x _ ds r (defs-reads more ds dm f n r (omega arith) (omega arith))
