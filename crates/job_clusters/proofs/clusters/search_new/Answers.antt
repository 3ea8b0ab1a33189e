use Rattle.job_clusters.specs.Scenes.{jobs_around, settings_in, stock_in}
use Rattle.job_clusters.proofs.clusters.search_new.Goals as goal

pub returns-in_err-read_names-clause-clusters : goal.returns-in_err-read_names-clause-clusters
returns-in_err-read_names-clause-clusters g c = c.read_names.ensures.clusters (settings_in c.args.scene.now) (jobs_around c.args.seeker.now) c.requires.clusters

pub search_alone-requires-clause-known : goal.search_alone-requires-clause-known
search_alone-requires-clause-known g c =
    let read = c.read_names.ensures.clusters (settings_in c.args.scene.now) (jobs_around c.args.seeker.now) c.requires.clusters in
    read.known

pub returns-in_err-slot-clause-clusters : goal.returns-in_err-slot-clause-clusters
returns-in_err-slot-clause-clusters g c =
    let read = c.read_names.ensures.clusters (settings_in c.args.scene.now) (jobs_around c.args.seeker.now) c.requires.clusters in
    record { reach = read.reach; classes = read.classes; known = c.search_alone.ensures.known; free = read.free; few = read.few }

pub returns-in_err-note-clause-clusters : goal.returns-in_err-note-clause-clusters
returns-in_err-note-clause-clusters g c =
    let settings = settings_in c.args.scene.now in
    let jobs = jobs_around c.args.seeker.now in
    let read = c.read_names.ensures.clusters settings jobs c.requires.clusters in
    c.note.ensures.clusters c.args.scene.now.moment (stock_in c.args.scene.now) settings jobs
    (record { reach = read.reach; classes = read.classes; known = c.search_alone.ensures.known; free = read.free; few = read.few })

pub returns-clause-clusters : goal.returns-clause-clusters
returns-clause-clusters g c =
    let settings = settings_in c.args.scene.now in
    let jobs = jobs_around c.args.seeker.now in
    let read = c.read_names.ensures.clusters settings jobs c.requires.clusters in
    c.note.ensures.clusters c.args.scene.now.moment (stock_in c.args.scene.now) settings jobs
    (record { reach = read.reach; classes = read.classes; known = c.search_alone.ensures.known; free = read.free; few = read.few })
