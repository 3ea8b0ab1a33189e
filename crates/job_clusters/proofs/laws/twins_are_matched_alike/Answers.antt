use Rattle.std.specs.Prelude.{ℕ, Bool, List, Contains}
use Rattle.std.proofs.lemmas.List.Elements.{All-contains_itself, All-weaker}
use Rattle.ad_tree.specs.Ad.{ad_frames}
use Rattle.ad_tree.specs.Frames.{Frame}
use Rattle.ad_store.specs.Stock.{Advert}
use Rattle.bilateral_match.specs.DockedAlike.{AllDockAlike, AreDockedAlike}
use Rattle.significant_attrs.specs.Shown.{ads_in}
use Rattle.significant_attrs.specs.Twins.{AreAllMarked, AreTwins}
use Rattle.significant_attrs.proofs.ContainLemmas.{contains_map}
use Rattle.job_clusters.proofs.laws.twins_are_matched_alike.Goals as goal

pub returns : goal.returns
returns c = record {
  answers = λ marks moment ads marked twins. c.requests_that_dock_alike_are_matched_alike.ensures.answers moment ads (alike marks moment ads marked twins);
  best = λ marks pool number marked twins. c.requests_that_dock_alike_are_matched_alike.ensures.best pool number
      (alike marks pool.moment pool.ads marked twins);
}
  where
    a : List Frame
    a = ad_frames c.args.one.now

    b : List Frame
    b = ad_frames c.args.other.now

    -- what twins are to each ad, said of all
    alike : (marks : List Bool) (moment : ℕ) (ads : List Advert) → AreAllMarked (ads_in ads) a marks → AreTwins marks a b → AllDockAlike moment a b ads
    alike marks moment ads marked twins =
        All-weaker (Contains ads) (λ (advert : Advert). AreDockedAlike moment a b advert.ad)
        (λ advert stands.
        let same =
        c.twins_are_told_apart_by_no_ad.ensures marks (ads_in ads) advert.ad moment marked twins (contains_map (λ (x : Advert). x.ad) ads advert stands) in
        record { dock = same.docks; rank = same.rank; regard = same.regard })
        ads (All-contains_itself ads)
