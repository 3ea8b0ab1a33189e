use Rattle.claim_table.proofs.SmallLemmas.{holders-small}
use Rattle.job_clusters.specs.Scenes.{jobs_around, settings_in}
use Rattle.job_clusters.proofs.SmallLemmas.{small-job}
use Rattle.job_clusters.proofs.class.search_alone.Goals as goal

pub returns-clause-ratio : goal.returns-clause-ratio
returns-clause-ratio g c ads small =
    let seeker = c.args.seeker.now in
    let jobs = jobs_around seeker in
    c.best_knowing.ensures.ratio (small-job jobs seeker.place seeker.request.now c.requires.job small) ads
    (holders-small (settings_in c.args.scene.now) jobs small)
