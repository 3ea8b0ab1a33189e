-- Operators before an operand, which a loop reads from the front and another applies from the end.
use Rattle.std.proofs.Common.{refl, ◌≡◌, suc, List, [], ◌∷◌, ◌++◌, length, Option, None, Some, option_map, ap, sym, ◌∙◌}
use Rattle.pool_text.specs.declared.language.UnOp.{UnOp}
use Rattle.ad_tree.specs.Inline.{Inline}
use Rattle.ad_tree.specs.Tree.{unary}
use Rattle.ad_grammar.specs.Rules.{Rule, Reading, and_then, prefixed_or, prefix_word, prefixes, postfix}
use Rattle.ad_builder.specs.Shapes.{over_one}
use Rattle.ad_grammar.specs.Steps.{prefix_at, applied, wrapped}
use Rattle.ad_grammar.specs.Words.{Word}

pub applied-push : (ops : List UnOp) (op : UnOp) (x : Inline) → applied (ops ++ op ∷ []) x ≡ applied ops (over_one (unary op) x)
applied-push [] op x = refl
applied-push (o ∷ ops) op x = ap (over_one (unary o)) (applied-push ops op x)

wrapped-push : (ops : List UnOp) (op : UnOp) (r : Reading Inline)
    → wrapped ops (and_then r (λ x rest. Some (over_one (unary op) x, rest))) ≡ wrapped (ops ++ op ∷ []) r
wrapped-push ops op None = refl
wrapped-push ops op (Some read) = ap (λ x. Some (x, read.1)) (sym (applied-push ops op read.0))

abbrev first_of_read : UnOp → Option (UnOp × List Word) → UnOp
first_of_read op None = op
first_of_read op (Some read) = read.0

abbrev rest_of_read : List Word → Option (UnOp × List Word) → List Word
rest_of_read ws None = ws
rest_of_read ws (Some read) = read.1

prefix_cases : (e : Rule) (w : Word) (ws : List Word) (found : Option UnOp) (op : UnOp) (rest : List Word)
    → option_map {U = UnOp × List Word} (λ o. (o, ws)) found ≡ Some (op, rest)
    → prefixed_or found (prefixes e ws) (postfix e (w ∷ ws)) ≡ and_then (prefixes e rest) (λ x behind. Some (over_one (unary op) x, behind))
prefix_cases e w ws None op rest h = absurd (cc)
prefix_cases e w ws (Some o) op rest h =
    let same : o ≡ op = ap (λ (r : Option (UnOp × List Word)). first_of_read o r) h in
    let behind : ws ≡ rest = ap (λ (r : Option (UnOp × List Word)). rest_of_read ws r) h in
    ap (λ p. and_then (prefixes e ws) (λ x more. Some (over_one (unary p) x, more))) same
    ∙ ap (λ us. and_then (prefixes e us) (λ x more. Some (over_one (unary op) x, more))) behind

-- one operator more
pub prefixes-turn : (e : Rule) (ops : List UnOp) (op : UnOp) (old new : List Word) → prefix_at old ≡ Some (op, new)
    → wrapped ops (prefixes e old) ≡ wrapped (ops ++ op ∷ []) (prefixes e new)
prefixes-turn e ops op [] new h = absurd (cc)
prefixes-turn e ops op (w ∷ ws) new h = ap (wrapped ops) (prefix_cases e w ws (prefix_word w) op new h) ∙ wrapped-push ops op (prefixes e new)

prefix_behind : (ws : List Word) (found : Option UnOp) (op : UnOp) (rest : List Word) → option_map {U = UnOp × List Word} (λ o. (o, ws)) found ≡ Some (op, rest)
    → ws ≡ rest
prefix_behind ws None op rest h = absurd (cc)
prefix_behind ws (Some o) op rest h = ap (λ (r : Option (UnOp × List Word)). rest_of_read ws r) h

pub prefix-shorter : (old new : List Word) (op : UnOp) → prefix_at old ≡ Some (op, new) → length old ≡ suc (length new)
prefix-shorter [] new op h = absurd (cc)
prefix-shorter (w ∷ ws) new op h = ap (λ us. suc (length us)) (prefix_behind ws (prefix_word w) op new h)
