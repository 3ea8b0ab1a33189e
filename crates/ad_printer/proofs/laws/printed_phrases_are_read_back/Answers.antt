use Rattle.ad_printer.proofs.BackLemmas.{phrase_text-spelled, phrase_text-read}
use Rattle.ad_printer.proofs.laws.printed_phrases_are_read_back.Goals as goal

pub returns-clause-spelled : goal.returns-clause-spelled
returns-clause-spelled c = phrase_text-spelled c.args.text.now c.args.phrase.now c.requires

pub returns-clause-read : goal.returns-clause-read
returns-clause-read c = phrase_text-read c.args.text.now c.args.phrase.now c.requires
