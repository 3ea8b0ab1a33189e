use Rattle.std.proofs.Common.{arith, ap, ◌∙◌, Some}
use Rattle.std.proofs.Math.Logic.{∥∥₁_map}
use Rattle.ad_lexer.specs.Lexeme.{lexeme}
use Rattle.ad_grammar.proofs.WordLemmas.{word-at, unmarked-word, spelled-at, none-behind, mark-at}
use Rattle.ad_grammar.proofs.reader.Reader.unmarked.Goals as goal

pub returns-then-self-len : goal.returns-then-self-len
returns-then-self-len c =
    let reader = c.args.self.now in
    record {
      some =
          tt;
      is =
          tt;
      spelled = tt;
      stands = tt;
      none = λ same none. none-behind reader.tokens reader.at (omega (arith, c.if-self-len.true, c.len.ensures.value));
    }

pub returns-in-Some : goal.returns-in-Some
returns-in-Some c =
    let reader = c.args.self.now in
    let marked = mark-at reader.tokens reader.at (Some c.in-Some.field-0) (c.mark.ensures ∙ ap Some c.in-Some.is) in
    record { some = tt; is = tt; spelled = tt; stands = tt; none = λ same none. absurd cc }

pub returns-in-None : goal.returns-in-None
returns-in-None c =
    let reader = c.args.self.now in
    let token = lexeme c.at.result in
    record {
      some = word-at reader.tokens reader.at token c.at.ensures;
      is = unmarked-word reader.tokens reader.at token (c.mark.ensures ∙ ap Some c.in-None.is) c.at.ensures;
      spelled = ∥∥₁_map reader.spelled (λ are. spelled-at reader.tokens reader.at token c.at.ensures are);
      stands = c.at.ensures;
      none = λ same none. absurd cc;
    }
