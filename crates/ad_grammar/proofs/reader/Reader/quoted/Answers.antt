use Rattle.std.proofs.Common.{◌≡◌, ◌∷◌, ◌∙◌, ap, drop, subst, sym}
use Rattle.std.proofs.Math.Logic.{∥∥₁_map}
use Rattle.ad_lexer.specs.Lexeme.{Lexeme, lexeme}
use Rattle.ad_lexer.specs.Quoted.{IsQuotation}
use Rattle.ad_grammar.specs.Steps.{left}
use Rattle.ad_grammar.specs.Words.{quoted}
use Rattle.ad_grammar.proofs.WordLemmas.{same-token, name-quotation, name-word}
use Rattle.ad_grammar.proofs.reader.Reader.quoted.Goals as goal

pub content-requires-clause-quotation : goal.content-requires-clause-quotation
content-requires-clause-quotation c = λ l reads.
    let same = same-token c.args.self.now.tokens c.args.self.now.at (lexeme c.in-Some.token) l c.in-Some.ensures.stands reads in
    subst (λ (t : Lexeme). ∥ IsQuotation t.text ∥₁) same
    (∥∥₁_map c.in-Some.ensures.spelled (λ spells. name-quotation c.in-Some.token.kind c.in-Some.token.text.now c.in-Quoted.is spells))

pub returns-in_ok-name-in-Quoted-clause-some : goal.returns-in_ok-name-in-Quoted-clause-some
returns-in_ok-name-in-Quoted-clause-some c = λ text same.
    let means = c.in_ok-name-in-Quoted.ensures (lexeme c.in-Some.token) c.in-Some.ensures.stands in
    let is : c.in_ok-name-in-Quoted.name ≡ text = cc in
    c.in-Some.ensures.some
    ∙ ap (λ w. w ∷ drop 1 (left c.args.self.now)) (name-word _ _ c.in-Quoted.is ∙ ap quoted (sym means ∙ is))
    ∙ ap (λ ws. quoted text ∷ ws) (sym c.skip.ensures)
