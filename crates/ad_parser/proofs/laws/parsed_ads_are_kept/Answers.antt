use Rattle.ad_parser.proofs.KeptLemmas.{ad_answer-made, ad_answer-within}
use Rattle.ad_parser.proofs.laws.parsed_ads_are_kept.Goals as goal

pub returns-clause-made : goal.returns-clause-made
returns-clause-made c = ad_answer-made c.args.text.now c.args.ad.now c.requires

pub returns-clause-within : goal.returns-clause-within
returns-clause-within c = ad_answer-within c.args.text.now c.args.ad.now c.requires
