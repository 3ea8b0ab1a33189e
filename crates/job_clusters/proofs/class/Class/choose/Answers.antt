use Rattle.std.proofs.Common.{Some, ap, ◌∙◌}
use Rattle.std.specs.Prelude.{option_map}
use Rattle.ad_tree.specs.Ad.{ad_frames}
use Rattle.dock_match.specs.Pool.{slot_at}
use Rattle.job_clusters.specs.Clusters.{is_offered}
use Rattle.job_clusters.specs.Scenes.{jobs_around, settings_in, stock_in}
use Rattle.job_clusters.proofs.ClusterLemmas.{class-list, class-ranked, ranked-along, ranked-best, ranked-further, twins-best}
use Rattle.job_clusters.proofs.class.Class.choose.Goals as goal

-- ---- the list is there

pub first-requires : goal.first-requires
first-requires g c =
    let scene = c.args.scene.now in
    let jobs = jobs_around c.args.seeker.now in
    let list = class-list scene.moment (stock_in scene) (settings_in scene) jobs c.args.self.now c.in-Some.ranked c.in-Some.is c.requires.class in
    list.passed

pub returns-in-Some-clause-best : goal.returns-in-Some-clause-best
returns-in-Some-clause-best g c =
    let moment = c.args.scene.now.moment in
    let stock = stock_in c.args.scene.now in
    let settings = settings_in c.args.scene.now in
    let jobs = jobs_around c.args.seeker.now in
    let class = c.args.self.now in
    let twins = c.twins_are_matched_alike.ensures.best in
    let list = class-list moment stock settings jobs class c.in-Some.ranked c.in-Some.is c.requires.class in
    ranked-best moment stock settings jobs (ad_frames class.ad) class.number c.in-Some.ranked list c.first.result c.first.ensures.first
    ∙ ap (option_map (λ m. slot_at stock m.place))
    (twins-best moment stock settings jobs class (ad_frames c.args.seeker.now.request.now.ad) c.requires.class c.requires.twins twins (is_offered jobs))

pub returns-in-Some-clause-class : goal.returns-in-Some-clause-class
returns-in-Some-clause-class g c =
    let moment = c.args.scene.now.moment in
    let stock = stock_in c.args.scene.now in
    let settings = settings_in c.args.scene.now in
    let jobs = jobs_around c.args.seeker.now in
    let class = c.args.self.now in
    let list = class-list moment stock settings jobs class c.in-Some.ranked c.in-Some.is c.requires.class in
    class-ranked moment stock settings jobs class (Some c.first.new.self) c.requires.class
    (ranked-further moment stock settings jobs (ad_frames class.ad) class.number c.in-Some.ranked list
    c.first.new.self c.first.ensures.slots c.first.ensures.passed)

-- ---- it is made

pub returns-clause-class : goal.returns-clause-class
returns-clause-class g c =
    let moment = c.args.scene.now.moment in
    let stock = stock_in c.args.scene.now in
    let settings = settings_in c.args.scene.now in
    let jobs = jobs_around c.args.seeker.now in
    let class = c.args.self.now in
    let frames = ad_frames c.args.seeker.now.request.now.ad in
    let ranked = c.in_ok-ranked.ranked in
    let list =
    ranked-along moment stock settings jobs frames class.number ranked c.in_ok-ranked.ensures.ranked (ad_frames class.ad)
    (twins-best moment stock settings jobs class frames c.requires.class c.requires.twins c.twins_are_matched_alike.ensures.best) in
    class-ranked moment stock settings jobs class (Some c.first-slot.new.self) c.requires.class
    (ranked-further moment stock settings jobs (ad_frames class.ad) class.number ranked list
    c.first-slot.new.self c.first-slot.ensures.slots c.first-slot.ensures.passed)
