use Rattle.std.proofs.Common.{refl}
use Rattle.ad_tree.specs.Ad.{ad_frames}
use Rattle.bilateral_match.specs.Known.{rank_expr}
use Rattle.bilateral_match.proofs.KnownLemmas.{rank-same}
use Rattle.bilateral_match.proofs.laws.a_settled_rank_is_the_same_for_all_requests.Goals as goal

pub returns : goal.returns
returns c moment same settled =
    rank-same moment (ad_frames c.args.a.now) (ad_frames c.args.b.now) (ad_frames c.args.ad.now) (rank_expr (ad_frames c.args.b.now)) same refl settled
