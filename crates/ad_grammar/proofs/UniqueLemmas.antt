-- No list of words spells two trees, and whether it spells one is decided.
use Rattle.std.proofs.Common.{◌≡◌, ◌⊎◌, List, Option, None, Some, refl, sym, ap, ◌∙◌, inl, inr}
use Rattle.ad_tree.specs.Inline.{Inline, Defs, inner}
use Rattle.ad_grammar.specs.Words.{Word}
use Rattle.ad_grammar.specs.Grammar.{IsExpr, IsAd, IsRoot}
use Rattle.ad_grammar.specs.Rules.{parsed_expr, parsed_ad}
use Rattle.ad_grammar.proofs.GrammarLaws.{parsed_expr-complete, parsed_expr-sound, parsed_expr-none, parsed_ad-complete, parsed_ad-sound, parsed_ad-none}

pub expr-one : (ws : List Word) (x y : Inline) → IsExpr ws x → IsExpr ws y → x ≡ y
expr-one ws x y a b = cc (parsed_expr-complete ws x a, parsed_expr-complete ws y b)

pub ad-one : (ws : List Word) (ds es : Defs) → IsAd ws ds → IsAd ws es → ds ≡ es
ad-one ws ds es a b = cc (parsed_ad-complete ws ds a, parsed_ad-complete ws es b)

pub root-one : (ws : List Word) (x y : Inline) → IsRoot ws x → IsRoot ws y → x ≡ y
root-one ws x y a b = a.1 ∙ ap inner (ad-one ws a.0 b.0 a.2 b.2) ∙ sym b.1

-- a rule has a tree or it has none
decided : (R : Inline → Type 0) (found : Option Inline) → ((x : Inline) → found ≡ Some x → R x)
    → (found ≡ None → (x : Inline) → R x → ⊥) → ((x : Inline) × R x) ⊎ ((x : Inline) → R x → ⊥)
decided R None tree no_tree = inr (no_tree refl)
decided R (Some x) tree no_tree = inl (x, tree x refl)

pub expr-decided : (ws : List Word) → ((x : Inline) × IsExpr ws x) ⊎ ((x : Inline) → IsExpr ws x → ⊥)
expr-decided ws = decided (IsExpr ws) (parsed_expr ws) (parsed_expr-sound ws) (parsed_expr-none ws)

pub root-decided : (ws : List Word) → ((x : Inline) × IsRoot ws x) ⊎ ((x : Inline) → IsRoot ws x → ⊥)
root-decided ws = decided (IsRoot ws) (parsed_ad ws) (parsed_ad-sound ws) (parsed_ad-none ws)
