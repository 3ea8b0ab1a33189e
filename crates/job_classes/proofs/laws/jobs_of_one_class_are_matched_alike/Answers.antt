use Rattle.std.proofs.lemmas.List.Elements.{All-contains_itself, All-weaker}
use Rattle.std.specs.Prelude.{◌≡◌, ℕ, List, Ok, Contains}
use Rattle.ad_tree.specs.Ad.{ad_frames}
use Rattle.ad_tree.specs.Frames.{Frame}
use Rattle.ad_store.specs.Stock.{Advert}
use Rattle.ad_parser.specs.Answers.{AnswersAd}
use Rattle.bilateral_match.specs.DockedAlike.{AllDockAlike, AreDockedAlike}
use Rattle.job_classes.specs.Keys.{key_of}
use Rattle.significant_attrs.specs.Shown.{ads_in}
use Rattle.significant_attrs.proofs.ContainLemmas.{contains_map}
use Rattle.job_classes.proofs.laws.jobs_of_one_class_are_matched_alike.Goals as goal

pub returns : goal.returns
returns c = record {
  answers =
      λ text other_text moment ads parsed others keys. c.requests_that_dock_alike_are_matched_alike.ensures.answers moment ads
      (alike text other_text moment ads parsed others keys);
  best = λ text other_text pool number parsed others keys. c.requests_that_dock_alike_are_matched_alike.ensures.best pool number
      (alike text other_text pool.moment pool.ads parsed others keys);
}
  where
    a : List Frame
    a = ad_frames c.args.one.now

    b : List Frame
    b = ad_frames c.args.other.now

    -- what an equal key says of each ad, said of all
    alike : (text other_text : List ℕ) (moment : ℕ) (ads : List Advert) → AnswersAd text (Ok c.args.one.now)
        → AnswersAd other_text (Ok c.args.other.now)
        → key_of (ads_in ads) a ≡ key_of (ads_in ads) b → AllDockAlike moment a b ads
    alike text other_text moment ads parsed others keys =
        All-weaker (Contains ads) (λ (advert : Advert). AreDockedAlike moment a b advert.ad)
        (λ advert stands.
        let same =
        c.equal_keys_are_told_apart_by_no_ad.ensures text other_text (ads_in ads) advert.ad moment parsed others keys
        (contains_map (λ (x : Advert). x.ad) ads advert stands) in
        record { dock = same.docks; rank = same.rank; regard = same.regard })
        ads (All-contains_itself ads)
