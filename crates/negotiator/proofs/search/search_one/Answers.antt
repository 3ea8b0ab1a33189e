use Rattle.std.proofs.Common.{◌≡◌, ◌≢◌, ℕ, [], ◌∷◌, AllPairs, length, ◌∙◌, ◌+◌}
use Rattle.std.specs.Prelude.{IfSome, option_map}
use Rattle.std.proofs.lemmas.Option.{IfSome_then}
use Rattle.std.proofs.lemmas.Result.{IfOk-weaker}
use Rattle.claim_table.specs.Jobs.{AreFree, wanted}
use Rattle.job_clusters.specs.Scenes.{jobs_around, settings_in, stock_in}
use Rattle.negotiator.specs.Markets.{found_for}
use Rattle.negotiator.proofs.SearchLemmas.{entries-one, evaluations-one, found-one, if-each, looks-one, one-all, one-apart, one-free, one-wanted}
use Rattle.negotiator.proofs.search.search_one.Goals as goal

pub returns-in_err-slot-clause-evaluations : goal.returns-in_err-slot-clause-evaluations
returns-in_err-slot-clause-evaluations g c =
    evaluations-one c.args.scene.now.moment (stock_in c.args.scene.now) (settings_in c.args.scene.now) (jobs_around c.args.seeker.now)
    c.args.seeker.now.request.now c.requires.single c.args.meter.now.tops.now c.choose.new.meter.tops.now c.choose.ensures.evaluations

pub returns-in_err-slot-clause-entries : goal.returns-in_err-slot-clause-entries
returns-in_err-slot-clause-entries g c =
    entries-one c.args.scene.now.moment (stock_in c.args.scene.now) (settings_in c.args.scene.now) (jobs_around c.args.seeker.now)
    c.args.seeker.now.request.now c.requires.single c.args.meter.now.entry.now c.choose.new.meter.entry.now c.choose.ensures.entries

pub returns-in_err-slot-clause-looks : goal.returns-in_err-slot-clause-looks
returns-in_err-slot-clause-looks g c =
    looks-one c.args.scene.now.moment (stock_in c.args.scene.now) (settings_in c.args.scene.now) (jobs_around c.args.seeker.now)
    c.args.seeker.now.request.now c.requires.single (c.args.meter.now.touch.now + c.args.clusters.now.looks.saved)
    (c.choose.new.meter.touch.now + c.choose.new.clusters.looks.saved) c.choose.ensures.looks

pub returns-clause-evaluations : goal.returns-clause-evaluations
returns-clause-evaluations g c =
    evaluations-one c.args.scene.now.moment (stock_in c.args.scene.now) (settings_in c.args.scene.now) (jobs_around c.args.seeker.now)
    c.args.seeker.now.request.now c.requires.single c.args.meter.now.tops.now c.choose.new.meter.tops.now c.choose.ensures.evaluations

pub returns-clause-entries : goal.returns-clause-entries
returns-clause-entries g c =
    entries-one c.args.scene.now.moment (stock_in c.args.scene.now) (settings_in c.args.scene.now) (jobs_around c.args.seeker.now)
    c.args.seeker.now.request.now c.requires.single c.args.meter.now.entry.now c.choose.new.meter.entry.now c.choose.ensures.entries

pub returns-clause-looks : goal.returns-clause-looks
returns-clause-looks g c =
    looks-one c.args.scene.now.moment (stock_in c.args.scene.now) (settings_in c.args.scene.now) (jobs_around c.args.seeker.now)
    c.args.seeker.now.request.now c.requires.single (c.args.meter.now.touch.now + c.args.clusters.now.looks.saved)
    (c.choose.new.meter.touch.now + c.choose.new.clusters.looks.saved) c.choose.ensures.looks

pub returns-clause-found : goal.returns-clause-found
returns-clause-found g c =
    let moment = c.args.scene.now.moment in
    let stock = stock_in c.args.scene.now in
    let settings = settings_in c.args.scene.now in
    let jobs = jobs_around c.args.seeker.now in
    IfOk-weaker c.listed.result (λ slots. slots ≡ option_map (λ s. s ∷ []) c.in_ok-slot.slot)
    (λ slots. slots ≡ found_for moment stock settings jobs c.args.number c.args.seeker.now.request.now)
    (λ slots e. e ∙ found-one moment stock settings jobs c.args.seeker.now.request.now c.requires.single c.args.number c.in_ok-slot.slot
    c.in_ok-slot.ensures.best)
    c.listed.ensures

pub returns-clause-free : goal.returns-clause-free
returns-clause-free g c =
    let jobs = jobs_around c.args.seeker.now in
    IfOk-weaker c.listed.result (λ slots. slots ≡ option_map (λ s. s ∷ []) c.in_ok-slot.slot) (λ slots. IfSome slots (λ list. AreFree list jobs))
    (one-all (λ list. AreFree list jobs) c.in_ok-slot.slot (IfSome_then c.in_ok-slot.slot c.in_ok-slot.ensures.free (one-free jobs))) c.listed.ensures

pub returns-clause-distinct : goal.returns-clause-distinct
returns-clause-distinct g c =
    IfOk-weaker c.listed.result (λ slots. slots ≡ option_map (λ s. s ∷ []) c.in_ok-slot.slot)
    (λ slots. IfSome slots (AllPairs (λ (a b : ℕ). a ≢ b)))
    (one-all (AllPairs (λ (a b : ℕ). a ≢ b)) c.in_ok-slot.slot (if-each (λ s. AllPairs (λ (a b : ℕ). a ≢ b) (s ∷ [])) one-apart c.in_ok-slot.slot))
    c.listed.ensures

pub returns-clause-enough : goal.returns-clause-enough
returns-clause-enough g c =
    let request = c.args.seeker.now.request.now in
    IfOk-weaker c.listed.result (λ slots. slots ≡ option_map (λ s. s ∷ []) c.in_ok-slot.slot)
    (λ slots. IfSome slots (λ list. wanted request ≡ length list))
    (one-all (λ list. wanted request ≡ length list) c.in_ok-slot.slot
    (if-each (λ s. wanted request ≡ 1) (λ s. one-wanted request c.requires.single) c.in_ok-slot.slot)) c.listed.ensures
