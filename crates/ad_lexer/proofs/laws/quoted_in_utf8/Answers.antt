use Rattle.std.proofs.Common.{refl}
use Rattle.ad_lexer.proofs.TextLemmas.{quoted_text, quoted_spelling}
use Rattle.ad_lexer.proofs.laws.quoted_in_utf8.Goals as goal

pub returns-clause-string : goal.returns-clause-string
returns-clause-string c text quoted =
    (λ is. (quoted_text 34 c.args.spelling.now text refl quoted is).0, λ is. quoted_spelling 34 c.args.spelling.now text refl quoted is)

pub returns-clause-name : goal.returns-clause-name
returns-clause-name c text quoted =
    (λ is. (quoted_text 39 c.args.spelling.now text refl quoted is).0, λ is. quoted_spelling 39 c.args.spelling.now text refl quoted is)
