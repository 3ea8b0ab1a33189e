use Rattle.std.proofs.Common.{◌++◌, ◌∷◌, [], sym, subst}
use Rattle.std.proofs.lemmas.List.Elements.{All-push, All-same}
use Rattle.ad_tree.specs.Ad.{ad_frames}
use Rattle.bilateral_match.specs.declared.known.Kept.{Kept}
use Rattle.bilateral_match.specs.Known.{AreRanks, rank_expr}
use Rattle.bilateral_match.proofs.known.Known.keep.Goals as goal

-- src/known.rt:129:9
pub returns-in_err-push : goal.returns-in_err-push
returns-in_err-push c = λ moment ads known ranks. record {
  ranks =
      All-same (λ (kept : Kept). AreRanks moment ads (rank_expr (ad_frames kept.ad)) kept.ranking.ranks.items)
      c.push.new.self.items c.args.self.now.kept.items c.in_err-push.ensures.items known.ranks;
  tests = known.tests;
}

-- src/known.rt:121:5
pub returns : goal.returns
returns c = λ moment ads known ranks.
    let last : Kept = record { ad = c.in_ok-share.field-0; ranking = c.args.ranking } in
    let told : AreRanks moment ads (rank_expr (ad_frames last.ad)) last.ranking.ranks.items =
    subst (λ frames. AreRanks moment ads (rank_expr frames) c.args.ranking.ranks.items) (sym c.in_ok-share.ensures) ranks
    in
    record {
      ranks =
          All-same (λ (kept : Kept). AreRanks moment ads (rank_expr (ad_frames kept.ad)) kept.ranking.ranks.items)
          c.push.new.self.items (c.args.self.now.kept.items ++ last ∷ []) c.in_ok-push.ensures.items
          (All-push (λ (kept : Kept). AreRanks moment ads (rank_expr (ad_frames kept.ad)) kept.ranking.ranks.items)
          c.args.self.now.kept.items last known.ranks told);
      tests = known.tests;
    }
