use Rattle.std.proofs.Common.{ℕ, List, take, sym, ◌∙◌, ap}
use Rattle.ad_lexer.specs.Numbers.{is_dotted}
use Rattle.ad_lexer.proofs.FractionLemmas.{fraction_dotted}
use Rattle.ad_lexer.proofs.number.is_number.Goals as goal

pub is_decimal-requires : goal.is_decimal-requires
is_decimal-requires c =
    let text : List ℕ = c.args.text.now in
    ap is_dotted (c.front.ensures ∙ ap (λ (n : ℕ). take n text) c.requires.number)
    ∙ fraction_dotted text c.requires.digit (sym c.requires.decimal ∙ c.if-decimal.true)
