use Rattle.ad_tree.specs.Ad.{ad_frames}
use Rattle.claim_table.proofs.SmallLemmas.{holders-small}
use Rattle.job_clusters.specs.Scenes.{jobs_around, settings_in, stock_in}
use Rattle.job_clusters.proofs.ClusterLemmas.{ranked-first}
use Rattle.job_clusters.proofs.SmallLemmas.{small-job}
use Rattle.job_clusters.proofs.class.rank.Goals as goal

pub returns-in_err-slots-clause-ratio : goal.returns-in_err-slots-clause-ratio
returns-in_err-slots-clause-ratio g c ads small =
    let seeker = c.args.seeker.now in
    let jobs = jobs_around seeker in
    c.shortlist.ensures.ratio (small-job jobs seeker.place seeker.request.now c.requires.job small) ads
    (holders-small (settings_in c.args.scene.now) jobs small)

pub returns-clause-ranked : goal.returns-clause-ranked
returns-clause-ranked g c =
    ranked-first c.args.scene.now.moment (stock_in c.args.scene.now) (settings_in c.args.scene.now) (jobs_around c.args.seeker.now)
    (ad_frames c.args.seeker.now.request.now.ad) c.args.number c.in_ok-slots.slots c.in_ok-slots.ensures.best

pub returns-clause-ratio : goal.returns-clause-ratio
returns-clause-ratio g c ads small =
    let seeker = c.args.seeker.now in
    let jobs = jobs_around seeker in
    c.shortlist.ensures.ratio (small-job jobs seeker.place seeker.request.now c.requires.job small) ads
    (holders-small (settings_in c.args.scene.now) jobs small)
