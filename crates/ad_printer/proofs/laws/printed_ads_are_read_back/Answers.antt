use Rattle.ad_printer.proofs.BackLemmas.{ad_text-spelled, ad_text-read}
use Rattle.ad_printer.proofs.laws.printed_ads_are_read_back.Goals as goal

pub returns-clause-spelled : goal.returns-clause-spelled
returns-clause-spelled c = ad_text-spelled c.args.text.now c.args.ad.now c.requires

pub returns-clause-read : goal.returns-clause-read
returns-clause-read c = ad_text-read c.args.text.now c.args.ad.now c.requires
