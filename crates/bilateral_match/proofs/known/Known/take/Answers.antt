use Rattle.std.proofs.Common.{swap_remove}
use Rattle.std.proofs.lemmas.List.Elements.{All-same}
use Rattle.ad_tree.specs.Ad.{ad_frames}
use Rattle.bilateral_match.specs.declared.known.Kept.{Kept}
use Rattle.bilateral_match.specs.Known.{AreRanks, rank_expr}
use Rattle.bilateral_match.proofs.KnownLemmas.{All-swap_remove}
use Rattle.bilateral_match.proofs.known.Known.take.Goals as goal

-- src/known.rt:112:13
pub returns-in-Some-clause-kept : goal.returns-in-Some-clause-kept
returns-in-Some-clause-kept c = λ moment ads known. record {
  ranks =
      All-same (λ (kept : Kept). AreRanks moment ads (rank_expr (ad_frames kept.ad)) kept.ranking.ranks.items)
      c.swap_remove-ranking.new.self.items (swap_remove c.args.self.now.kept.items c.in-Some.k c.swap_remove-ranking.result)
      c.swap_remove-ranking.ensures.items
      (All-swap_remove (λ (kept : Kept). AreRanks moment ads (rank_expr (ad_frames kept.ad)) kept.ranking.ranks.items)
      c.args.self.now.kept.items c.in-Some.k c.swap_remove-ranking.result c.in-Some.ensures.within known.ranks);
  tests = known.tests;
}
