use Rattle.ad_lexer.proofs.TextLemmas.{tokens_mean}
use Rattle.ad_lexer.proofs.laws.tokens_mean_texts.Goals as goal

pub returns : goal.returns
returns c = tokens_mean c.args.text.now
