-- The grammar and its exact function agree.
use Rattle.std.proofs.Common.{◌≡◌, ℕ, suc, List, [], ◌∷◌, length, None, Some, refl, sym, ap, ◌∙◌, arith}
use Rattle.std.proofs.lemmas.List.{append-nil}
use Rattle.ad_tree.specs.Inline.{Inline, Defs, inner}
use Rattle.ad_lexer.specs.declared.mark.Mark.TheVariants.{OpenBracket}
use Rattle.ad_grammar.specs.Words.{Word, mark}
use Rattle.ad_grammar.specs.Grammar.{IsExpr, IsAd, IsRoot}
use Rattle.ad_grammar.specs.Rules.{ad_behind, expression, whole, parsed_expr, parsed_ad}
use Rattle.ad_grammar.proofs.Readings.{gives, and_then-holds, and_then-at}
use Rattle.ad_grammar.proofs.SoundLemmas.{part, expression-sound, ad_behind-sound, whole-sound}
use Rattle.ad_grammar.proofs.CompleteLemmas.{inner-reads, expr-reads, ad-reads}

-- what is of the grammar is read, and as its tree alone
pub parsed_expr-complete : (ws : List Word) (x : Inline) → IsExpr ws x → parsed_expr ws ≡ Some x
parsed_expr-complete ws x d =
    ap (λ s. whole (expression (suc (length ws)) s)) (sym (append-nil ws))
    ∙ ap whole (inner-reads ws x (expr-reads ws x d) (suc (length ws)) [] (omega arith) (omega arith))

pub parsed_ad-complete : (ws : List Word) (ds : Defs) → IsAd ws ds → parsed_ad ws ≡ Some (inner ds)
parsed_ad-complete ws ds d =
    let found = ad-reads ws ds d (length ws) [] (omega arith) in
    let is : ws ≡ mark OpenBracket ∷ found.0 = sym (append-nil ws) ∙ found.1 in
    ap parsed_ad is
    ∙ ap whole (and_then-at _ (ap (λ n. ad_behind (expression n) found.0) (sym (ap length is)) ∙ found.2))

-- and what is read is of the grammar
pub parsed_expr-sound : (ws : List Word) (x : Inline) → parsed_expr ws ≡ Some x → IsExpr ws x
parsed_expr-sound ws x e = whole-sound x (expression-sound (suc (length ws)) ws) e

pub parsed_ad-sound : (ws : List Word) (x : Inline) → parsed_ad ws ≡ Some x → IsRoot ws x
parsed_ad-sound (mark OpenBracket ∷ ws) x e =
    let inside : ℕ = suc (length ws) in
    whole-sound {R = IsRoot} x (and_then-holds (ad_behind-sound (expression inside) (expression-sound inside) ws)
    (λ ds rest s. gives _ _ (part s.front s.split (ds, refl, s.of)))) e
parsed_ad-sound ws x e = absurd cc

-- so nothing is read where the grammar has no tree
pub parsed_expr-none : (ws : List Word) → parsed_expr ws ≡ None → (x : Inline) → IsExpr ws x → ⊥
parsed_expr-none ws e x d = let found = parsed_expr-complete ws x d in absurd cc

pub parsed_ad-none : (ws : List Word) → parsed_ad ws ≡ None → (x : Inline) → IsRoot ws x → ⊥
parsed_ad-none ws e x d = let found = parsed_ad-complete ws d.0 d.2 in absurd cc
