use Rattle.ad_tree.specs.Ad.{ad_frames}
use Rattle.bilateral_match.proofs.DockedAlikeLemmas.{answers-same, best-same}
use Rattle.bilateral_match.proofs.docked_alike.requests_that_dock_alike_are_matched_alike.Goals as goal

pub returns : goal.returns
returns c = record {
  answers = λ moment ads h. answers-same moment (ad_frames c.args.a.now) (ad_frames c.args.b.now) ads h;
  best = λ pool number h. best-same pool number (ad_frames c.args.a.now) (ad_frames c.args.b.now) h;
}
