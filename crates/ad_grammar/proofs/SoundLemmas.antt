-- Soundness: all that the rules read is of the grammar.
use Rattle.std.proofs.Common.{◌≡◌, ℕ, zero, suc, Bool, true, false, ◌==◌, if◌then◌else◌, List, [], ◌∷◌, ◌++◌, length, Option, None, Some, refl, sym, subst, ap}
use Rattle.std.proofs.Common.{◌∙◌, arith, append_assoc}
use Rattle.std.proofs.lemmas.Bool.Decides.{nat_tests}
use Rattle.std.proofs.lemmas.List.{append-nil}
use Rattle.ad_tree.specs.declared.tree.Scope.{Scope}
use Rattle.ad_tree.specs.Inline.{Inline, Inlines, Defs, end}
use Rattle.ad_tree.specs.Tree.{unary, select, subscript}
use Rattle.pool_text.specs.declared.language.UnOp.{UnOp}
use Rattle.ad_lexer.specs.declared.mark.Mark.{Mark}
use Rattle.ad_lexer.specs.declared.mark.Mark.TheVariants.{OpenParen, CloseParen, OpenBracket, CloseBracket, OpenBrace, CloseBrace, Comma, Semicolon, Dot}
use Rattle.ad_lexer.specs.declared.mark.Mark.TheVariants.{Assign, Question, Colon}
use Rattle.ad_builder.specs.declared.instruction.Infix.{Infix}
use Rattle.ad_builder.specs.Shapes.{over_one, over_two, joined}
use Rattle.ad_grammar.specs.Operators.{infix_of}
use Rattle.ad_grammar.specs.Words.{Word, plain, quoted, constant, mark, scope_of}
use Rattle.ad_grammar.specs.Grammar.{IsName, plain_name, quoted_name, IsNoScope, IsExpr, conditional, level, IsLevel, operation, tighter, single, IsUnary}
use Rattle.ad_grammar.specs.Grammar.{prefixed, bare, IsPostfix, selection, subscripted, operand, IsPrimary, constant_operand, scoped, own, called, named}
use Rattle.ad_grammar.specs.Grammar.{listed, ad_literal, grouped, IsList, nothing, something, IsSeveral, last_one, one_more, IsAd, empty_ad, full_ad, IsDefs}
use Rattle.ad_grammar.specs.Grammar.{last_def, closed_def, more_defs}
use Rattle.ad_grammar.specs.Rules.{Reading, Rule, several_behind, several, arguments, elements, definitions_behind, definitions_at, ad_behind, named_in}
use Rattle.ad_grammar.specs.Rules.{plain_at, primary, suffixes, postfix, prefix_word, prefixed_or, prefixes, at_precedence, infix_at, operation_or, operations}
use Rattle.ad_grammar.specs.Rules.{level_at, choice_behind, conditionals, expression, whole}
use Rattle.ad_grammar.proofs.Readings.{Holds, none, gives, and_then-holds, holds-more, name_at-holds, Before, close_paren-holds, close_bracket-holds}
use Rattle.ad_grammar.proofs.Readings.{close_brace-holds, colon-holds, assigned-holds, prefix_word-mark}

-- words in front are of a relation, by the value that is read
pub record Sound {T : Type 0} (R : List Word → T → Type 0) (ws : List Word) (x : T) (rest : List Word) : Type 0 where
  pub front : List Word
  pub split : ws ≡ front ++ rest
  pub of : R front x

pub part : {T : Type 0} {R : List Word → T → Type 0} {ws : List Word} {x : T} {rest : List Word} (front : List Word)
    → ws ≡ front ++ rest → R front x → Sound R ws x rest
part front split of = record { front = front; split = split; of = of }

found : {T : Type 0} {R : List Word → T → Type 0} {ws : List Word} {x : T} {rest : List Word} (front : List Word)
    → ws ≡ front ++ rest → R front x → Holds (Sound R ws) (Some (x, rest))
found front split of = gives _ _ (part front split of)

-- a rule by its relation, and one that reads a closing mark too
abbrev pub IsSound : {T : Type 0} → (List Word → T → Type 0) → (List Word → Reading T) → Type 0
IsSound R rule = (ws : List Word) → Holds (Sound R ws) (rule ws)

abbrev Closes : {T : Type 0} → Mark → (List Word → T → Type 0) → (List Word → Reading T) → Type 0
Closes m R rule = (ws : List Word) → Holds (Before m (Sound R ws)) (rule ws)

-- words of a relation are of another
by_rule : {T : Type 0} {R S : List Word → T → Type 0} {ws : List Word} {r : Reading T}
    → Holds (Sound R ws) r → ((front : List Word) (x : T) → R front x → S front x) → Holds (Sound S ws) r
by_rule h rule = holds-more h (λ x rest s. part s.front s.split (rule s.front x s.of))

-- words in two parts
join : {ws rest : List Word} (a b behind : List Word) → ws ≡ a ++ rest → rest ≡ b ++ behind → ws ≡ (a ++ b) ++ behind
join a b behind first second = first ∙ ap (λ r. a ++ r) second ∙ sym (append_assoc a b behind)

-- behind a mark, and in front of another
behind : {ws rest : List Word} (m : Mark) → ws ≡ rest → mark m ∷ ws ≡ mark m ∷ rest
behind m e = ap (λ r. mark m ∷ r) e

within : {ws : List Word} (m o : Mark) (front rest : List Word)
    → ws ≡ front ++ mark o ∷ rest → mark m ∷ ws ≡ mark m ∷ (front ++ mark o ∷ []) ++ rest
within m o front rest e = join (mark m ∷ front) (mark o ∷ []) rest (behind m e) refl

-- where a dot stands behind the words, they are no scope word
abbrev Ready : List Word → List Word → Type 0
Ready front (mark Dot ∷ rest) = IsNoScope front
Ready front rest = Unit {0}

ready : (front rest : List Word) → IsNoScope front → Ready front rest
ready front (mark Dot ∷ rest) h = h
ready front rest h = tt

-- more than one word is no scope word
no_scope-behind : (before : List Word) (m : Mark) (more : List Word) → IsNoScope (before ++ mark m ∷ more)
no_scope-behind [] m more = tt
no_scope-behind (plain text ∷ []) m more = tt
no_scope-behind (plain text ∷ w ∷ ws) m more = tt
no_scope-behind (w ∷ ws) m more = tt

-- an operand in front of what is not the rest of it
abbrev Starts : (List Word → Inline → Type 0) → List Word → Inline → List Word → Type 0
Starts R ws x rest = Sound (λ front y. R front y × Ready front rest) ws x rest

start : {R : List Word → Inline → Type 0} {ws : List Word} (front : List Word) {x : Inline} (rest : List Word)
    → ws ≡ front ++ rest → R front x → IsNoScope front → Holds (Starts R ws) (Some (x, rest))
start front rest split of h = gives _ rest (part front split (of, ready front rest h))

-- an operator in front that binds this loosely
abbrev pub ReadsInfix : ℕ → List Word → Infix → List Word → Type 0
ReadsInfix k ws op rest = (m : Mark) × (ws ≡ mark m ∷ rest) × (infix_of m ≡ Some (k, op))

at_precedence-holds : (k : ℕ) (m : Mark) (known : Option (ℕ × Infix)) → infix_of m ≡ known
    → (ws : List Word) → Holds (ReadsInfix k (mark m ∷ ws)) (at_precedence k known ws)
at_precedence-holds k m None is ws = none
at_precedence-holds k m (Some (j, op)) is ws = by (j == k) refl
  where
    by : (b : Bool) → (j == k) ≡ b → Holds (ReadsInfix k (mark m ∷ ws)) (if b then Some (op, ws) else None)
    by true e = let same : j ≡ k = grind (arith, nat_tests) in gives _ _ (m, refl, is ∙ ap (λ i. Some (i, op)) same)
    by false e = none

pub infix_at-holds : (k : ℕ) (ws : List Word) → Holds (ReadsInfix k ws) (infix_at k ws)
infix_at-holds k (mark m ∷ ws) = at_precedence-holds k m (infix_of m) refl ws
infix_at-holds k ws = none

module _ (e : Rule) (inner_sound : IsSound IsExpr e) where
  -- lists
  several_behind-sound : (more : List Word → Reading Inlines) → IsSound IsSeveral more
      → (ws : List Word) (x : Inline) (rest : List Word) → Sound IsExpr ws x rest
      → Holds (Sound IsSeveral ws) (several_behind more x rest)
  several_behind-sound more h ws x (mark Comma ∷ rest) s =
      and_then-holds (h rest) (λ xs last t. found (s.front ++ mark Comma ∷ t.front)
      (join s.front (mark Comma ∷ t.front) last s.split (behind Comma t.split)) (one_more _ s.front t.front x xs refl s.of t.of))
  several_behind-sound more h ws x rest s = found s.front s.split (last_one s.front x s.of)

  several-sound : (n : ℕ) → IsSound IsSeveral (several e n)
  several-sound zero ws = none
  several-sound (suc n) ws = and_then-holds (inner_sound ws) (several_behind-sound (several e n) (several-sound n) ws)

  list-sound : (ws : List Word) → Holds (Sound IsList ws) (several e (length ws) ws)
  list-sound ws = by_rule (several-sound (length ws) ws) something

  arguments-sound : Closes CloseParen IsList (arguments e)
  arguments-sound (mark CloseParen ∷ ws) = gives end ws (part [] refl nothing)
  arguments-sound ws = and_then-holds (list-sound ws) (close_paren-holds (Sound IsList ws))

  elements-sound : Closes CloseBrace IsList (elements e)
  elements-sound (mark CloseBrace ∷ ws) = gives end ws (part [] refl nothing)
  elements-sound ws = and_then-holds (list-sound ws) (close_brace-holds (Sound IsList ws))

  -- ad literals
  module _ (more : List Word → Reading Defs) (more_sound : Closes CloseBracket IsDefs more) where
    definitions_behind-sound : (all : List Word) (w : Word) (text : List ℕ) (front : List Word) (x : Inline) (ws : List Word)
        → all ≡ w ∷ mark Assign ∷ (front ++ ws) → IsName w text → IsExpr front x
        → Holds (Before CloseBracket (Sound IsDefs all)) (definitions_behind more text x ws)
    definitions_behind-sound all w text front x (mark CloseBracket ∷ ws) split is_name of =
        gives _ ws (part (w ∷ mark Assign ∷ front) split (last_def w text front x is_name of))
    definitions_behind-sound all w text front x (mark Semicolon ∷ mark CloseBracket ∷ ws) split is_name of =
        gives _ ws (part (w ∷ mark Assign ∷ (front ++ mark Semicolon ∷ []))
        (join (w ∷ mark Assign ∷ front) (mark Semicolon ∷ []) (mark CloseBracket ∷ ws) split refl)
        (closed_def w text front _ x refl is_name of))
    definitions_behind-sound all w text front x (mark Semicolon ∷ ws) split is_name of =
        and_then-holds (more_sound ws) (λ ds rest t. gives _ rest (part (w ∷ mark Assign ∷ (front ++ mark Semicolon ∷ t.front))
        (join (w ∷ mark Assign ∷ front) (mark Semicolon ∷ t.front) (mark CloseBracket ∷ rest) split (behind Semicolon t.split))
        (more_defs w text front t.front _ x ds refl is_name of t.of)))
    definitions_behind-sound all w text front x ws split is_name of = none

  definitions_at-sound : (n : ℕ) → Closes CloseBracket IsDefs (definitions_at e n)
  definitions_at-sound zero ws = none
  definitions_at-sound (suc n) ws =
      and_then-holds (name_at-holds ws) (λ text rest w. assigned-holds (Before CloseBracket (Sound IsDefs ws)) _ rest
      (λ after is. and_then-holds (inner_sound after) (λ x last s.
      definitions_behind-sound (definitions_at e n) (definitions_at-sound n) ws w.0 text s.front x last
      (w.1 ∙ ap (λ r. w.0 ∷ r) (is ∙ behind Assign s.split)) w.2 s.of)))

  pub ad_behind-sound : (ws : List Word) → Holds (Sound IsAd (mark OpenBracket ∷ ws)) (ad_behind e ws)
  ad_behind-sound (mark CloseBracket ∷ ws) = found (mark OpenBracket ∷ mark CloseBracket ∷ []) refl empty_ad
  ad_behind-sound ws = holds-more (definitions_at-sound (length ws) ws) (λ ds rest s.
      part (mark OpenBracket ∷ (s.front ++ mark CloseBracket ∷ [])) (within OpenBracket CloseBracket s.front rest s.split)
      (full_ad s.front _ ds refl s.of))

  -- what needs no operator
  named_in-sound : (text : List ℕ) (ws : List Word) (scope : Option Scope) → scope_of text ≡ scope
      → Holds (Starts IsPrimary (plain text ∷ mark Dot ∷ ws)) (named_in scope text ws)
  named_in-sound text ws None is = start (plain text ∷ []) (mark Dot ∷ ws) refl (named (plain text) text (plain_name text)) is
  named_in-sound text ws (Some scope) is =
      and_then-holds (name_at-holds ws) (λ attribute rest n. start (plain text ∷ mark Dot ∷ n.0 ∷ []) rest
      (ap (λ r. plain text ∷ mark Dot ∷ r) n.1) (scoped scope text attribute n.0 is n.2) tt)

  plain-sound : (text : List ℕ) (ws : List Word) → Holds (Starts IsPrimary (plain text ∷ ws)) (plain_at e text ws)
  plain-sound text (mark Dot ∷ ws) = named_in-sound text ws (scope_of text) refl
  plain-sound text (mark OpenParen ∷ ws) =
      and_then-holds (arguments-sound ws) (λ xs rest s. start (plain text ∷ mark OpenParen ∷ (s.front ++ mark CloseParen ∷ [])) rest
      (ap (λ r. plain text ∷ r) (within OpenParen CloseParen s.front rest s.split)) (called text s.front _ xs refl s.of) tt)
  plain-sound text ws = gives _ ws (part (plain text ∷ []) refl (named (plain text) text (plain_name text), tt))

  ad_no_scope : (ws : List Word) (ds : Defs) → IsAd ws ds → IsNoScope ws
  ad_no_scope ws ds empty_ad = tt
  ad_no_scope ws ds (full_ad front all same split of) = subst IsNoScope (sym split) tt

  primary-sound : (ws : List Word) → Holds (Starts IsPrimary ws) (primary e ws)
  primary-sound (constant lit ∷ ws) = start (constant lit ∷ []) ws refl (constant_operand lit) tt
  primary-sound (plain text ∷ ws) = plain-sound text ws
  primary-sound (quoted text ∷ ws) = start (quoted text ∷ []) ws refl (named (quoted text) text (quoted_name text)) tt
  primary-sound (mark Dot ∷ ws) =
      and_then-holds (name_at-holds ws) (λ text rest n. start (mark Dot ∷ n.0 ∷ []) rest (behind Dot n.1) (own n.0 text n.2) tt)
  primary-sound (mark OpenBrace ∷ ws) =
      and_then-holds (elements-sound ws) (λ xs rest s. start (mark OpenBrace ∷ (s.front ++ mark CloseBrace ∷ [])) rest
      (within OpenBrace CloseBrace s.front rest s.split) (listed s.front _ xs refl s.of) tt)
  primary-sound (mark OpenBracket ∷ ws) =
      and_then-holds (ad_behind-sound ws) (λ ds rest s.
      start s.front rest s.split (ad_literal s.front ds s.of) (ad_no_scope s.front ds s.of))
  primary-sound (mark OpenParen ∷ ws) =
      holds-more (and_then-holds (inner_sound ws) (close_paren-holds (Sound IsExpr ws)))
      (λ x rest s. part (mark OpenParen ∷ (s.front ++ mark CloseParen ∷ [])) (within OpenParen CloseParen s.front rest s.split)
      (grouped s.front _ x refl s.of, ready (mark OpenParen ∷ (s.front ++ mark CloseParen ∷ [])) rest tt))
  primary-sound ws = none

  -- selections and subscripts
  suffixes-sound : (n : ℕ) (all : List Word) (x : Inline) (ws : List Word)
      → Starts IsPostfix all x ws → Holds (Sound IsPostfix all) (suffixes e n x ws)
  suffixes-sound (suc n) all x (mark Dot ∷ ws) s =
      and_then-holds (name_at-holds ws) (λ text rest h. suffixes-sound n all (over_one (select text) x) rest
      (part (s.front ++ mark Dot ∷ h.0 ∷ []) (join s.front (mark Dot ∷ h.0 ∷ []) rest s.split (behind Dot h.1))
      (selection _ s.front h.0 text x refl s.of.1 s.of.0 h.2, ready _ rest (no_scope-behind s.front Dot (h.0 ∷ [])))))
  suffixes-sound (suc n) all x (mark OpenBracket ∷ ws) s =
      and_then-holds (and_then-holds (inner_sound ws) (close_bracket-holds (Sound IsExpr ws)))
      (λ y rest t. let index : List Word = mark OpenBracket ∷ (t.front ++ mark CloseBracket ∷ []) in
      suffixes-sound n all (over_two subscript x y) rest
      (part (s.front ++ index) (join s.front index rest s.split (within OpenBracket CloseBracket t.front rest t.split)) (
        subscripted _ s.front t.front x y refl s.of.0 t.of,
        ready _ rest (no_scope-behind s.front OpenBracket (t.front ++ mark CloseBracket ∷ [])),
      )))
  suffixes-sound n all x ws s = found s.front s.split s.of.0

  postfix-sound : IsSound IsPostfix (postfix e)
  postfix-sound ws =
      and_then-holds (primary-sound ws) (λ x rest s. suffixes-sound (length rest) ws x rest
      (part s.front s.split (operand s.front x s.of.0, s.of.1)))

  -- operators before an operand
  prefixed-sound : (w : Word) (ws : List Word) (known : Option UnOp) → prefix_word w ≡ known
      → (r : Reading Inline) → Holds (Sound IsUnary ws) r
      → Holds (Sound IsUnary (w ∷ ws)) (prefixed_or known r (postfix e (w ∷ ws)))
  prefixed-sound w ws None is r h = by_rule (postfix-sound (w ∷ ws)) bare
  prefixed-sound w ws (Some op) is r h =
      let m = prefix_word-mark w op is in
      and_then-holds h (λ x rest s. found (w ∷ s.front) (ap (λ r. w ∷ r) s.split)
      (subst (λ v. IsUnary (v ∷ s.front) (over_one (unary op) x)) (sym m.1) (prefixed s.front m.0 op x m.2 s.of)))

  prefixes-sound : IsSound IsUnary (prefixes e)
  prefixes-sound [] = none
  prefixes-sound (w ∷ ws) = prefixed-sound w ws (prefix_word w) refl (prefixes e ws) (prefixes-sound ws)

  -- operators between operands
  module _ (k : ℕ) (tight : Rule) (tight_sound : IsSound (IsLevel k) tight) (all : List Word) where
    operation-sound : (more : Inline → List Word → Reading Inline)
        → ((x : Inline) (ws : List Word) → Sound (IsLevel (suc k)) all x ws → Holds (Sound (IsLevel (suc k)) all) (more x ws))
        → (x : Inline) (ws : List Word) → Sound (IsLevel (suc k)) all x ws
        → (known : Reading Infix) → Holds (ReadsInfix (suc k) ws) known
        → Holds (Sound (IsLevel (suc k)) all) (operation_or tight more x ws known)
    operation-sound more more_sound x ws s known none = gives x ws s
    operation-sound more more_sound x ws s known (gives op right h) =
        and_then-holds (tight_sound right) (λ y rest t. more_sound (joined op x y) rest (part (s.front ++ mark h.0 ∷ t.front)
        (join s.front (mark h.0 ∷ t.front) rest s.split (h.1 ∙ behind h.0 t.split))
        (operation k _ s.front t.front h.0 op x y refl h.2 s.of t.of)))

    operations-sound : (n : ℕ) (x : Inline) (ws : List Word) → Sound (IsLevel (suc k)) all x ws
        → Holds (Sound (IsLevel (suc k)) all) (operations tight (suc k) n x ws)
    operations-sound zero x ws s = gives x ws s
    operations-sound (suc n) x ws s =
        operation-sound (operations tight (suc k) n) (operations-sound n) x ws s (infix_at (suc k) ws) (infix_at-holds (suc k) ws)

  pub level_at-sound : (k : ℕ) → IsSound (IsLevel k) (level_at e k)
  level_at-sound zero ws = by_rule (prefixes-sound ws) single
  level_at-sound (suc k) ws = and_then-holds (by_rule (level_at-sound k ws) (tighter k)) (λ x rest s.
      operations-sound k (level_at e k) (level_at-sound k) ws (length rest) x rest s)

  -- conditionals
  choice_behind-sound : (more : Rule) → IsSound IsExpr more → (all : List Word) (x : Inline) (ws : List Word)
      → Sound (IsLevel 10) all x ws → Holds (Sound IsExpr all) (choice_behind e more x ws)
  choice_behind-sound more more_sound all x (mark Question ∷ ws) s =
      and_then-holds (and_then-holds (inner_sound ws) (colon-holds (Sound IsExpr ws)))
      (λ y right t. and_then-holds (more_sound right) (λ z rest u.
      found (s.front ++ mark Question ∷ (t.front ++ mark Colon ∷ u.front))
      (join s.front (mark Question ∷ (t.front ++ mark Colon ∷ u.front)) rest s.split
      (join (mark Question ∷ t.front) (mark Colon ∷ u.front) rest (behind Question t.split) (behind Colon u.split)))
      (conditional _ s.front t.front u.front x y z refl s.of t.of u.of)))
  choice_behind-sound more more_sound all x ws s = found s.front s.split (level s.front x s.of)

  conditionals-sound : (n : ℕ) → IsSound IsExpr (conditionals e n)
  conditionals-sound zero ws = none
  conditionals-sound (suc n) ws =
      and_then-holds (level_at-sound 10 ws) (choice_behind-sound (conditionals e n) (conditionals-sound n) ws)

-- expressions within one another
pub expression-sound : (f : ℕ) → IsSound IsExpr (expression f)
expression-sound zero ws = none
expression-sound (suc f) ws = conditionals-sound (expression f) (expression-sound f) (suc (length ws)) ws

-- all words that a rule reads
pub whole-sound : {T : Type 0} {R : List Word → T → Type 0} {ws : List Word} {r : Reading T} (x : T)
    → Holds (Sound R ws) r → whole r ≡ Some x → R ws x
whole-sound x none e = absurd cc
whole-sound {R = R} x (gives y [] s) e =
    let same : y ≡ x = cc in
    subst (R _) same (subst (λ v. R v y) (sym (s.split ∙ append-nil s.front)) s.of)
whole-sound x (gives y (w ∷ ws) s) e = absurd cc
