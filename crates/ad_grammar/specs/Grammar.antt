-- The grammar: which list of words spells which tree. One constructor a rule.
use Rattle.std.specs.Prelude.{◌≡◌, ℕ, zero, suc, List, [], ◌∷◌, ◌++◌, None, Some}
use Rattle.ad_tree.specs.declared.tree.Scope.{Scope}
use Rattle.ad_tree.specs.declared.tree.Scope.TheVariants.{Bare, My}
use Rattle.pool_text.specs.declared.language.Lit.{Lit}
use Rattle.pool_text.specs.declared.language.UnOp.{UnOp}
use Rattle.ad_tree.specs.Inline.{Inline, Inlines, Defs, shape, inner, end, next, no_defs, def}
use Rattle.ad_tree.specs.Tree.{literal, name, unary, choice, select, subscript, call, list}
use Rattle.ad_lexer.specs.declared.mark.Mark.{Mark}
use Rattle.ad_lexer.specs.declared.mark.Mark.TheVariants.{OpenParen, CloseParen, OpenBracket, CloseBracket, OpenBrace, CloseBrace, Comma, Semicolon, Dot}
use Rattle.ad_lexer.specs.declared.mark.Mark.TheVariants.{Assign, Question, Colon}
use Rattle.ad_builder.specs.declared.instruction.Infix.{Infix}
use Rattle.ad_builder.specs.Shapes.{leaf, over_one, over_two, over_three, joined}
use Rattle.ad_grammar.specs.Operators.{infix_of, prefix_of}
use Rattle.ad_grammar.specs.Words.{Word, plain, quoted, constant, mark, scope_of}

-- a name is a plain one or one in quotes
pub data IsName : Word → List ℕ → Type 0 where
  plain_name : (text : List ℕ) → IsName (plain text) text
  quoted_name : (text : List ℕ) → IsName (quoted text) text

-- the words are no scope word alone: a dot behind them selects from their value
abbrev pub IsNoScope : List Word → Type 0
IsNoScope (plain text ∷ []) = scope_of text ≡ None
IsNoScope ws = Unit {0}

mutual
  -- an expression: `condition ? one : other`, or what binds tighter
  pub data IsExpr : List Word → Inline → Type 0 where
    conditional : (ws c a b : List Word) (x y z : Inline) → ws ≡ c ++ mark Question ∷ (a ++ mark Colon ∷ b) → IsLevel 10 c x → IsExpr a y → IsExpr b z
        → IsExpr ws (over_three choice x y z)
    level : (ws : List Word) (x : Inline) → IsLevel 10 ws x → IsExpr ws x

  -- operands and operators that bind at most this loosely; operators group to the left
  pub data IsLevel : ℕ → List Word → Inline → Type 0 where
    operation : (k : ℕ) (ws a b : List Word) (m : Mark) (op : Infix) (x y : Inline) → ws ≡ a ++ mark m ∷ b → infix_of m ≡ Some (suc k, op) → IsLevel (suc k) a x
        → IsLevel k b y → IsLevel (suc k) ws (joined op x y)
    tighter : (k : ℕ) (ws : List Word) (x : Inline) → IsLevel k ws x → IsLevel (suc k) ws x
    single : (ws : List Word) (x : Inline) → IsUnary ws x → IsLevel zero ws x

  -- operators before an operand
  pub data IsUnary : List Word → Inline → Type 0 where
    prefixed : (ws : List Word) (m : Mark) (op : UnOp) (x : Inline) → prefix_of m ≡ Some op → IsUnary ws x → IsUnary (mark m ∷ ws) (over_one (unary op) x)
    bare : (ws : List Word) (x : Inline) → IsPostfix ws x → IsUnary ws x

  -- selections and subscripts behind an operand
  pub data IsPostfix : List Word → Inline → Type 0 where
    selection : (ws a : List Word) (w : Word) (text : List ℕ) (x : Inline) → ws ≡ a ++ mark Dot ∷ w ∷ [] → IsNoScope a → IsPostfix a x → IsName w text
        → IsPostfix ws (over_one (select text) x)
    subscripted : (ws a b : List Word) (x y : Inline) → ws ≡ a ++ mark OpenBracket ∷ (b ++ mark CloseBracket ∷ []) → IsPostfix a x → IsExpr b y
        → IsPostfix ws (over_two subscript x y)
    operand : (ws : List Word) (x : Inline) → IsPrimary ws x → IsPostfix ws x

  -- what needs no operator
  pub data IsPrimary : List Word → Inline → Type 0 where
    constant_operand : (lit : Lit) → IsPrimary (constant lit ∷ []) (leaf (literal lit))
    scoped : (scope : Scope) (word text : List ℕ) (w : Word) → scope_of word ≡ Some scope → IsName w text
        → IsPrimary (plain word ∷ mark Dot ∷ w ∷ []) (leaf (name scope text))
    own : (w : Word) (text : List ℕ) → IsName w text → IsPrimary (mark Dot ∷ w ∷ []) (leaf (name My text))
    called : (function : List ℕ) (ws all : List Word) (xs : Inlines) → all ≡ plain function ∷ mark OpenParen ∷ (ws ++ mark CloseParen ∷ []) → IsList ws xs
        → IsPrimary all (shape (call function) xs)
    named : (w : Word) (text : List ℕ) → IsName w text → IsPrimary (w ∷ []) (leaf (name Bare text))
    listed : (ws all : List Word) (xs : Inlines) → all ≡ mark OpenBrace ∷ (ws ++ mark CloseBrace ∷ []) → IsList ws xs → IsPrimary all (shape list xs)
    ad_literal : (ws : List Word) (ds : Defs) → IsAd ws ds → IsPrimary ws (inner ds)
    grouped : (ws all : List Word) (x : Inline) → all ≡ mark OpenParen ∷ (ws ++ mark CloseParen ∷ []) → IsExpr ws x → IsPrimary all x

  -- expressions divided by commas, or none
  pub data IsList : List Word → Inlines → Type 0 where
    nothing : IsList [] end
    something : (ws : List Word) (xs : Inlines) → IsSeveral ws xs → IsList ws xs

  -- one expression or more, divided by commas
  pub data IsSeveral : List Word → Inlines → Type 0 where
    last_one : (ws : List Word) (x : Inline) → IsExpr ws x → IsSeveral ws (next x end)
    one_more : (ws a b : List Word) (x : Inline) (xs : Inlines) → ws ≡ a ++ mark Comma ∷ b → IsExpr a x → IsSeveral b xs → IsSeveral ws (next x xs)

  -- definitions in brackets
  pub data IsAd : List Word → Defs → Type 0 where
    empty_ad : IsAd (mark OpenBracket ∷ mark CloseBracket ∷ []) no_defs
    full_ad : (ws all : List Word) (ds : Defs) → all ≡ mark OpenBracket ∷ (ws ++ mark CloseBracket ∷ []) → IsDefs ws ds → IsAd all ds

  -- definitions divided by semicolons; one more may stand behind the last
  pub data IsDefs : List Word → Defs → Type 0 where
    last_def : (w : Word) (text : List ℕ) (ws : List Word) (x : Inline) → IsName w text → IsExpr ws x → IsDefs (w ∷ mark Assign ∷ ws) (def text x no_defs)
    closed_def : (w : Word) (text : List ℕ) (ws all : List Word) (x : Inline) → all ≡ w ∷ mark Assign ∷ (ws ++ mark Semicolon ∷ []) → IsName w text
        → IsExpr ws x → IsDefs all (def text x no_defs)
    more_defs : (w : Word) (text : List ℕ) (ws more all : List Word) (x : Inline) (ds : Defs) → all ≡ w ∷ mark Assign ∷ (ws ++ mark Semicolon ∷ more)
        → IsName w text → IsExpr ws x → IsDefs more ds → IsDefs all (def text x ds)

-- the words are an ad, taken as an ad literal
abbrev pub IsRoot : List Word → Inline → Type 0
IsRoot ws x = (ds : Defs) × (x ≡ inner ds) × IsAd ws ds
