use Rattle.std.proofs.Common.{◌≡◌, ◌≢◌, List, ℕ, AllPairs, length, map, refl, sym, ◌∙◌}
use Rattle.std.specs.Prelude.{IfSome, option_map}
use Rattle.std.proofs.lemmas.Result.{IfOk-weaker}
use Rattle.ad_tree.specs.Ad.{ad_frames}
use Rattle.dock_match.specs.Pool.{slot_at}
use Rattle.claim_table.specs.Jobs.{AreFree, wanted}
use Rattle.claim_table.specs.Table.{jobs_of}
use Rattle.gang_ports.specs.Gangs.{gang}
use Rattle.job_clusters.specs.Pools.{pool_for}
use Rattle.job_clusters.specs.Scenes.{settings_in, stock_in}
use Rattle.negotiator.specs.Markets.{found_for}
use Rattle.negotiator.proofs.GangLemmas.{gang-all, slots-distinct, slots-free, slots-many}
use Rattle.negotiator.proofs.SearchLemmas.{entries-gang, evaluations-gang, found-gang, gang-wanted, looks-gang}
use Rattle.negotiator.proofs.StoredLemmas.{beside}
use Rattle.negotiator.proofs.search.search_gang.Goals as goal

pub returns-clause-spent : goal.returns-clause-spent
returns-clause-spent g c =
    let moment = c.args.scene.now.moment in
    let stock = stock_in c.args.scene.now in
    let settings = settings_in c.args.scene.now in
    let jobs = jobs_of c.args.claims.now in
    let request = c.args.request.now in
    let meter = c.args.meter.now in
    record {
      same = record {
        tops = refl {a = c.args.meter.now.tops.ghost_name};
        entry = refl {a = c.args.meter.now.entry.ghost_name};
        touch = refl {a = c.args.meter.now.touch.ghost_name};
      };
      most_evaluations =
          evaluations-gang moment stock settings jobs request c.requires.some meter.tops.now c.first_gang.new.tops c.first_gang.ensures.evaluations;
      most_entries = entries-gang moment stock settings jobs request c.requires.some meter.entry.now c.first_gang.new.entry c.first_gang.ensures.entries;
      most_looks = looks-gang moment stock settings jobs request c.requires.some meter.touch.now c.first_gang.new.touch c.first_gang.ensures.looks;
    }

pub returns-clause-found : goal.returns-clause-found
returns-clause-found g c =
    let moment = c.args.scene.now.moment in
    let stock = stock_in c.args.scene.now in
    let settings = settings_in c.args.scene.now in
    let jobs = jobs_of c.args.claims.now in
    let request = c.args.request.now in
    let is = found-gang moment stock settings jobs request c.requires.some in
    IfOk-weaker c.first_gang.result (λ slots. slots ≡ option_map (map (slot_at stock)) (gang (pool_for moment stock settings jobs) (ad_frames request.ad)
    request.ports)) (λ slots. (number : ℕ) → slots ≡ found_for moment stock settings jobs number request)
    (λ slots e number. e ∙ sym (is number)) c.first_gang.ensures.gang

pub returns-clause-free : goal.returns-clause-free
returns-clause-free g c =
    let moment = c.args.scene.now.moment in
    let stock = stock_in c.args.scene.now in
    let settings = settings_in c.args.scene.now in
    let jobs = jobs_of c.args.claims.now in
    let frames = ad_frames c.args.request.now.ad in
    let ports = c.args.request.now.ports in
    let free : List ℕ → Type 0 = λ list. AreFree list jobs in
    IfOk-weaker c.first_gang.result (λ slots. slots ≡ option_map (map (slot_at stock)) (gang (pool_for moment stock settings jobs) frames ports))
    (λ slots. IfSome slots free)
    (gang-all moment stock settings jobs frames ports free (slots-free moment stock settings jobs frames ports)) c.first_gang.ensures.gang

pub returns-clause-distinct : goal.returns-clause-distinct
returns-clause-distinct g c =
    let moment = c.args.scene.now.moment in
    let stock = stock_in c.args.scene.now in
    let settings = settings_in c.args.scene.now in
    let jobs = jobs_of c.args.claims.now in
    let frames = ad_frames c.args.request.now.ad in
    let ports = c.args.request.now.ports in
    let distinct : List ℕ → Type 0 = AllPairs (λ (a b : ℕ). a ≢ b) in
    IfOk-weaker c.first_gang.result (λ slots. slots ≡ option_map (map (slot_at stock)) (gang (pool_for moment stock settings jobs) frames ports))
    (λ slots. IfSome slots distinct)
    (gang-all moment stock settings jobs frames ports distinct
    (λ places is. slots-distinct moment stock settings jobs frames ports places is (beside c.args.scene.now.store.now) c.slots_are_apart.ensures))
    c.first_gang.ensures.gang

pub returns-clause-enough : goal.returns-clause-enough
returns-clause-enough g c =
    let moment = c.args.scene.now.moment in
    let stock = stock_in c.args.scene.now in
    let settings = settings_in c.args.scene.now in
    let jobs = jobs_of c.args.claims.now in
    let frames = ad_frames c.args.request.now.ad in
    let ports = c.args.request.now.ports in
    let enough : List ℕ → Type 0 = λ list. wanted c.args.request.now ≡ length list in
    IfOk-weaker c.first_gang.result (λ slots. slots ≡ option_map (map (slot_at stock)) (gang (pool_for moment stock settings jobs) frames ports))
    (λ slots. IfSome slots enough)
    (gang-all moment stock settings jobs frames ports enough
    (λ places is. gang-wanted c.args.request.now c.requires.some ∙ sym (slots-many moment stock settings jobs frames ports places is)))
    c.first_gang.ensures.gang
