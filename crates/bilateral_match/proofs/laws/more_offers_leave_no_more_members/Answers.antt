use Rattle.ad_tree.specs.Ad.{ad_frames}
use Rattle.bilateral_match.proofs.OfferLemmas.{fewer-entered, fewer-open, none-later}
use Rattle.bilateral_match.proofs.laws.more_offers_leave_no_more_members.Goals as goal

pub returns : goal.returns
returns c = record {
  none = λ pool number offered more. none-later pool (ad_frames c.args.request.now) offered more number;
  undecided = λ pool offered more. fewer-open pool (ad_frames c.args.request.now) offered more;
  entered = λ pool offered more. fewer-entered pool (ad_frames c.args.request.now) offered more;
}
