use Rattle.std.proofs.Common.{All, subst, sym}
use Rattle.std.proofs.lemmas.List.Elements.{All-nil}
use Rattle.ad_tree.specs.Ad.{ad_frames}
use Rattle.bilateral_match.specs.declared.known.Kept.{Kept}
use Rattle.bilateral_match.specs.Known.{AreRanks, rank_expr}
use Rattle.bilateral_match.proofs.known.Known.new.Goals as goal

pub returns : goal.returns
returns c moment ads =
    let P : Kept → Type 0 = λ kept. AreRanks moment ads (rank_expr (ad_frames kept.ad)) kept.ranking.ranks.items in
    record { ranks = subst (All P) (sym c.new.ensures.items) (All-nil P); tests = c.new-2.ensures ads }
