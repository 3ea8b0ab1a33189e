-- Readings: what holds of all that a reading gives, and a reading that is known.
use Rattle.std.proofs.Common.{◌≡◌, ℕ, List, ◌∷◌, None, Some, refl, ap}
use Rattle.pool_text.specs.declared.language.UnOp.{UnOp}
use Rattle.ad_lexer.specs.declared.mark.Mark.{Mark}
use Rattle.ad_lexer.specs.declared.mark.Mark.TheVariants.{CloseParen, CloseBracket, CloseBrace, Assign, Colon}
use Rattle.ad_grammar.specs.Grammar.{IsName, plain_name, quoted_name}
use Rattle.ad_grammar.specs.Operators.{prefix_of}
use Rattle.ad_grammar.specs.Words.{Word, plain, quoted, mark}
use Rattle.ad_grammar.specs.Rules.{Reading, and_then, name_at, close_paren, close_bracket, close_brace, colon, assigned, prefix_word}

-- the value that is read, if any, and the words behind it have this property
pub data Holds {A : Type 0} (P : A → List Word → Type 0) : Reading A → Type 0 where
  none : Holds P None
  gives : (a : A) (ws : List Word) → P a ws → Holds P (Some (a, ws))

pub and_then-holds : {A B : Type 0} {P : A → List Word → Type 0} {Q : B → List Word → Type 0} {r : Reading A}
    {f : A → List Word → Reading B} → Holds P r → ((a : A) (ws : List Word) → P a ws → Holds Q (f a ws)) → Holds Q (and_then r f)
and_then-holds none g = none
and_then-holds (gives a ws p) g = g a ws p

pub holds-more : {A : Type 0} {P Q : A → List Word → Type 0} {r : Reading A}
    → Holds P r → ((a : A) (ws : List Word) → P a ws → Q a ws) → Holds Q r
holds-more none g = none
holds-more (gives a ws p) g = gives a ws (g a ws p)

-- a reading that is known, and then another
pub and_then-at : {A B : Type 0} {r : Reading A} (f : A → List Word → Reading B) {a : A} {ws : List Word}
    → r ≡ Some (a, ws) → and_then r f ≡ f a ws
and_then-at {A} f e = ap (λ (read : Reading A). and_then read f) e

-- a name
abbrev pub ReadsName : List Word → List ℕ → List Word → Type 0
ReadsName ws text rest = (w : Word) × (ws ≡ w ∷ rest) × IsName w text

pub name_at-holds : (ws : List Word) → Holds (ReadsName ws) (name_at ws)
name_at-holds (plain text ∷ ws) = gives text ws (plain text, refl, plain_name text)
name_at-holds (quoted text ∷ ws) = gives text ws (quoted text, refl, quoted_name text)
name_at-holds ws = none

pub name_at-is : (w : Word) (text : List ℕ) (ws : List Word) → IsName w text → name_at (w ∷ ws) ≡ Some (text, ws)
name_at-is w text ws (plain_name same) = refl
name_at-is w text ws (quoted_name same) = refl

-- what is read in front of a mark
abbrev pub Before : {A : Type 0} → Mark → (A → List Word → Type 0) → A → List Word → Type 0
Before m P a rest = P a (mark m ∷ rest)

module _ {A : Type 0} (P : A → List Word → Type 0) where
  pub close_paren-holds : (a : A) (ws : List Word) → P a ws → Holds (Before CloseParen P) (close_paren a ws)
  close_paren-holds a (mark CloseParen ∷ ws) p = gives a ws p
  close_paren-holds a ws p = none

  pub close_bracket-holds : (a : A) (ws : List Word) → P a ws → Holds (Before CloseBracket P) (close_bracket a ws)
  close_bracket-holds a (mark CloseBracket ∷ ws) p = gives a ws p
  close_bracket-holds a ws p = none

  pub close_brace-holds : (a : A) (ws : List Word) → P a ws → Holds (Before CloseBrace P) (close_brace a ws)
  close_brace-holds a (mark CloseBrace ∷ ws) p = gives a ws p
  close_brace-holds a ws p = none

  pub colon-holds : (a : A) (ws : List Word) → P a ws → Holds (Before Colon P) (colon a ws)
  colon-holds a (mark Colon ∷ ws) p = gives a ws p
  colon-holds a ws p = none

  pub assigned-holds : (f : List Word → Reading A) (ws : List Word)
      → ((rest : List Word) → ws ≡ mark Assign ∷ rest → Holds P (f rest)) → Holds P (assigned f ws)
  assigned-holds f (mark Assign ∷ ws) g = g ws refl
  assigned-holds f ws g = none

pub prefix_word-mark : (w : Word) (op : UnOp) → prefix_word w ≡ Some op → (m : Mark) × (w ≡ mark m) × (prefix_of m ≡ Some op)
prefix_word-mark (mark m) op e = (m, refl, e)
prefix_word-mark w op e = absurd cc
