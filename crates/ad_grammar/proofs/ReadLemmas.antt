-- Reading all words of a text.
use Rattle.std.proofs.Common.{◌≡◌, ℕ, suc, ◌+◌, ◌<◌, List, [], ◌∷◌, length, Option, None, Some, Result, Ok, Err, IsErr, IsErrAnd, refl, sym, ap, ◌∙◌, arith}
use Rattle.ad_tree.specs.Inline.{Inline, inner, no_defs}
use Rattle.ad_lexer.specs.declared.mark.Mark.TheVariants.{OpenBracket}
use Rattle.ad_builder.specs.declared.instruction.Instruction.{Instruction}
use Rattle.ad_grammar.specs.declared.stop.Stop.{Stop}
use Rattle.ad_grammar.specs.declared.stop.Stop.TheVariants as stops
use Rattle.ad_builder.specs.Machine.{stack, top, below}
use Rattle.ad_grammar.specs.Read.{IsRead}
use Rattle.ad_grammar.specs.Rules.{and_then, ad_behind, expression, whole, parsed_expr, parsed_ad}
use Rattle.ad_grammar.specs.Steps.{completed}
use Rattle.ad_grammar.specs.Words.{Word, mark}
use Rattle.ad_grammar.proofs.MachineLemmas.{completed-new}

module _ (wanted : Option Inline) where
  pub is_read-ok : (machine : List Instruction) → wanted ≡ Some (top (stack machine)) → below (stack machine) ≡ [] → IsRead wanted (Ok machine)
  is_read-ok machine is alone = record {
    ok = λ p same. let one : machine ≡ p = cc in is ∙ ap (λ q. Some (top (stack q))) one;
    alone = λ p same. let one : machine ≡ p = cc in ap (λ q. below (stack q)) (sym one) ∙ alone;
    none = λ same. absurd cc;
  }

  pub is_read-none : (stop : Stop) → wanted ≡ None → IsRead wanted (Err stop)
  is_read-none stop is = record { ok = λ a same. absurd cc; alone = λ a same. absurd cc; none = λ same. is }

  pub is_read-by : (answer : Result (List Instruction) Stop) (stop : Stop) → IsErr answer → IsErrAnd answer (λ e. e ≡ stop)
      → (stop ≡ stops.Grammar → wanted ≡ None) → IsRead wanted answer
  is_read-by (Ok a) stop err same h = absurd cc
  is_read-by (Err other) stop err same h =
      record { ok = λ a e. absurd cc; alone = λ a e. absurd cc; none = λ e. let is : other ≡ stops.Grammar = cc in h (sym same ∙ is) }

whole-all : (x : Inline) (rest : List Word) → length rest ≡ 0 → whole (Some (x, rest)) ≡ Some x
whole-all x [] none = refl
whole-all x (w ∷ ws) none = absurd (omega arith)

whole-more : (x : Inline) (rest : List Word) → 0 < length rest → whole (Some (x, rest)) ≡ None
whole-more x [] some = absurd (omega arith)
whole-more x (w ∷ ws) some = refl

module _ (ws : List Word) (fuel : ℕ) (enough : fuel ≡ length ws + 1) where
  fuel_is : fuel ≡ suc (length ws)
  fuel_is = omega arith

  whole_expression : parsed_expr ws ≡ whole (expression fuel ws)
  whole_expression = ap (λ n. whole (expression n ws)) (sym fuel_is)

  pub expression-all : (x : Inline) (rest : List Word) → expression fuel ws ≡ Some (x, rest) → length rest ≡ 0 → parsed_expr ws ≡ Some x
  expression-all x rest read none = whole_expression ∙ ap whole read ∙ whole-all x rest none

  pub expression-none : expression fuel ws ≡ None → parsed_expr ws ≡ None
  expression-none none = whole_expression ∙ ap whole none

  pub expression-more : (x : Inline) (rest : List Word) → expression fuel ws ≡ Some (x, rest) → 0 < length rest → parsed_expr ws ≡ None
  expression-more x rest read some = whole_expression ∙ ap whole read ∙ whole-more x rest some

  -- an ad, whose literal is the first tree on the stack
  module _ (old : List Word) (stood : old ≡ mark OpenBracket ∷ ws) (begun : List Inline) (is : begun ≡ inner no_defs ∷ []) where
    whole_ad : parsed_ad old ≡ whole (completed (top begun) (ad_behind (expression fuel) ws))
    whole_ad =
        ap parsed_ad stood
        ∙ ap (λ n. whole (and_then (ad_behind (expression n) ws) (λ ds rest. Some (inner ds, rest)))) (sym fuel_is)
        ∙ ap whole (completed-new (ad_behind (expression fuel) ws))
        ∙ ap (λ s. whole (completed (top s) (ad_behind (expression fuel) ws))) (sym is)

    pub ad-all : (x : Inline) (rest : List Word) → completed (top begun) (ad_behind (expression fuel) ws) ≡ Some (x, rest) → length rest ≡ 0
        → parsed_ad old ≡ Some x
    ad-all x rest read none = whole_ad ∙ ap whole read ∙ whole-all x rest none

    pub ad-more : (x : Inline) (rest : List Word) → completed (top begun) (ad_behind (expression fuel) ws) ≡ Some (x, rest) → 0 < length rest
        → parsed_ad old ≡ None
    ad-more x rest read some = whole_ad ∙ ap whole read ∙ whole-more x rest some

    pub ad-none : completed (top begun) (ad_behind (expression fuel) ws) ≡ None → parsed_ad old ≡ None
    ad-none none = whole_ad ∙ ap whole none
