use Rattle.ad_parser.proofs.KeptLemmas.{phrase_answer-made, phrase_answer-within}
use Rattle.ad_parser.proofs.laws.parsed_phrases_are_kept.Goals as goal

pub returns-clause-made : goal.returns-clause-made
returns-clause-made c = phrase_answer-made c.args.text.now c.args.phrase.now c.requires

pub returns-clause-within : goal.returns-clause-within
returns-clause-within c = phrase_answer-within c.args.text.now c.args.phrase.now c.requires
