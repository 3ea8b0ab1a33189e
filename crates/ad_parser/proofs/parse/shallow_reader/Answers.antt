use Rattle.ad_lexer.proofs.SliceLemmas.{tokens_slices}
use Rattle.ad_parser.proofs.ParseLemmas.{tokens-spelled}
use Rattle.ad_parser.proofs.parse.shallow_reader.Goals as goal

pub new-requires : goal.new-requires
new-requires c = tokens-spelled c.args.text.now 0 c.in_ok-tokens.tokens (tokens_slices c.args.text.now c.in_ok-tokens.tokens c.in_ok-tokens.ensures.answer)
