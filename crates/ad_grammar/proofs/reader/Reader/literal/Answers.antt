use Rattle.std.proofs.Common.{◌≡◌, ◌∷◌, ◌∙◌, ap, drop, subst, sym}
use Rattle.std.proofs.Math.Logic.{∥∥₁_map}
use Rattle.pool_text.specs.declared.language.Lit.TheVariants.{Str}
use Rattle.ad_lexer.specs.Lexeme.{Lexeme, lexeme}
use Rattle.ad_lexer.specs.Quoted.{IsQuotation}
use Rattle.ad_grammar.specs.Steps.{left}
use Rattle.ad_grammar.specs.Words.{constant}
use Rattle.ad_grammar.proofs.WordLemmas.{same-token, string-quotation, string-word}
use Rattle.ad_grammar.proofs.reader.Reader.literal.Goals as goal

pub content-requires-clause-quotation : goal.content-requires-clause-quotation
content-requires-clause-quotation c = λ l reads.
    let same = same-token c.args.self.now.tokens c.args.self.now.at (lexeme c.in-Some.token) l c.in-Some.ensures.stands reads in
    subst (λ (t : Lexeme). ∥ IsQuotation t.text ∥₁) same
    (∥∥₁_map c.in-Some.ensures.spelled (λ spells. string-quotation c.in-Some.token.kind c.in-Some.token.text.now c.in-Str.is spells))

pub returns-in_ok-text-in-Str-clause-some : goal.returns-in_ok-text-in-Str-clause-some
returns-in_ok-text-in-Str-clause-some c = λ lit same.
    let means = c.in_ok-text-in-Str.ensures (lexeme c.in-Some.token) c.in-Some.ensures.stands in
    let is : Str c.in_ok-text-in-Str.text ≡ lit = cc in
    c.in-Some.ensures.some
    ∙ ap (λ w. w ∷ drop 1 (left c.args.self.now)) (string-word _ _ c.in-Str.is ∙ ap (λ t. constant (Str t)) (sym means) ∙ ap constant is)
    ∙ ap (λ ws. constant lit ∷ ws) (sym c.skip.ensures)
