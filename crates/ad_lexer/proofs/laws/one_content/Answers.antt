use Rattle.std.proofs.Common.{refl}
use Rattle.ad_lexer.proofs.ContentLemmas.{quoted_content}
use Rattle.ad_lexer.proofs.laws.one_content.Goals as goal

pub returns-clause-string : goal.returns-clause-string
returns-clause-string c text = quoted_content 34 c.args.spelling.now text refl

pub returns-clause-name : goal.returns-clause-name
returns-clause-name c text = quoted_content 39 c.args.spelling.now text refl
