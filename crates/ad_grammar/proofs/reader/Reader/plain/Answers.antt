use Rattle.std.proofs.Common.{◌≡◌, ◌∷◌, ◌∙◌, refl, ap, sym, drop}
use Rattle.ad_lexer.specs.Lexeme.{lexeme}
use Rattle.ad_grammar.specs.Steps.{left}
use Rattle.ad_grammar.specs.Words.{plain}
use Rattle.ad_grammar.proofs.WordLemmas.{word-at, plain-word, plain-at}
use Rattle.ad_grammar.proofs.reader.Reader.plain.Goals as goal

pub returns-in_ok-name-in-Plain-clause-some : goal.returns-in_ok-name-in-Plain-clause-some
returns-in_ok-name-in-Plain-clause-some c = λ text same.
    let reader = c.args.self.now in
    let named : c.in_ok-name-in-Plain.name ≡ text = cc in
    let is : c.at-token.result.text.now ≡ text = sym (c.in_ok-name-in-Plain.ensures (lexeme c.at-token.result) c.at-token.ensures) ∙ named in
    word-at reader.tokens reader.at (lexeme c.at-token.result) c.at-token.ensures
    ∙ ap (λ w. w ∷ drop 1 (left reader)) (plain-word _ _ c.in-Plain.is ∙ ap plain is)
    ∙ ap (λ ws. plain text ∷ ws) (sym c.skip.ensures)

pub returns-in_default : goal.returns-in_default
returns-in_default c = record {
  some = λ text same. absurd cc;
  kept = λ same. refl;
  other =
      λ same text rest is. c.in_default.not-Plain (plain-at c.args.self.now.tokens c.args.self.now.at (lexeme c.at-token.result) text rest c.at-token.ensures
      is);
}
