use Rattle.std.proofs.Common.{refl}
use Rattle.ad_tree.specs.Ad.{ad_frames}
use Rattle.job_clusters.proofs.ClusterLemmas.{new-class, one-more}
use Rattle.job_clusters.proofs.clusters.Clusters.note.Goals as goal

pub returns-in_err-push-2-clause-clusters : goal.returns-in_err-push-2-clause-clusters
returns-in_err-push-2-clause-clusters c = λ moment stock settings jobs are.
    one-more moment stock settings jobs c.args.self.now are _ _ refl c.in_ok-push.ensures.items refl refl
    (new-class moment stock settings jobs _ (ad_frames c.args.request.now.ad) c.in_ok-share.ensures refl (c.in_ok-marks.ensures stock.ads are.reach))

pub returns-in_ok-push-2-clause-clusters : goal.returns-in_ok-push-2-clause-clusters
returns-in_ok-push-2-clause-clusters c = λ moment stock settings jobs are.
    one-more moment stock settings jobs c.args.self.now are _ _ refl c.in_ok-push.ensures.items refl refl
    (new-class moment stock settings jobs _ (ad_frames c.args.request.now.ad) c.in_ok-share.ensures refl (c.in_ok-marks.ensures stock.ads are.reach))

pub returns-else-kind-len-clause-clusters : goal.returns-else-kind-len-clause-clusters
returns-else-kind-len-clause-clusters c = λ moment stock settings jobs are.
    one-more moment stock settings jobs c.args.self.now are _ _ refl c.in_ok-push.ensures.items refl refl
    (new-class moment stock settings jobs _ (ad_frames c.args.request.now.ad) c.in_ok-share.ensures refl (c.in_ok-marks.ensures stock.ads are.reach))
