use Rattle.std.proofs.Common.{refl, sym}
use Rattle.ad_tree.specs.Ad.{ad_frames}
use Rattle.bilateral_match.specs.Known.{rank_expr}
use Rattle.bilateral_match.proofs.KnownLemmas.{noted}
use Rattle.bilateral_match.proofs.known.Ranking.note.Goals as goal

pub returns-then-is_rank_settled : goal.returns-then-is_rank_settled
returns-then-is_rank_settled c moment ads are at is =
    noted moment ads (rank_expr (ad_frames c.args.request.now)) c.args.self.now.ranks.items c.args.place c.args.rank (ad_frames c.args.request.now)
    (ad_frames c.args.ad.now)
    are at is (sym c.if-is_some.ensures) refl (sym c.if-is_rank_settled.ensures)
