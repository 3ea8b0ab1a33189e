use Rattle.std.proofs.Common.{◌≡◌, ℕ, List, Some, ap, arith, length, slice_get, sym, ◌∙◌}
use Rattle.std.specs.Prelude.{IfSome, option_map}
use Rattle.std.proofs.lemmas.Option.{IfSome_then}
use Rattle.std.proofs.lemmas.Result.{IfOk-weaker}
use Rattle.claim_table.specs.declared.job.Job.{Job}
use Rattle.claim_table.specs.Jobs.{wanted}
use Rattle.claim_table.specs.Priorities.{priority_of}
use Rattle.claim_table.specs.Table.{jobs_of}
use Rattle.job_clusters.specs.Scenes.{settings_in, stock_in}
use Rattle.job_clusters.proofs.SmallLemmas.{small-job}
use Rattle.negotiator.specs.Budget.{entries_for, evaluations_for, looks_for}
use Rattle.negotiator.specs.Markets.{found, found_for}
use Rattle.negotiator.proofs.SearchLemmas.{request-found, request-found-by-all, request-price, request-wanted}
use Rattle.negotiator.proofs.search.search.Goals as goal

pub returns-then-len-eq0-clause-found : goal.returns-then-len-eq0-clause-found
returns-then-len-eq0-clause-found g c =
    let moment = c.args.scene.now.moment in
    let stock = stock_in c.args.scene.now in
    let settings = settings_in c.args.scene.now in
    let jobs = jobs_of c.args.claims.now in
    let request = c.request-request.result.now in
    let mine = c.get-number.ensures.number ∙ ap (λ user. priority_of user settings) c.bytes.ensures in
    let same = request-found moment stock settings jobs c.args.i request c.request-request.ensures c.user.result.now c.get-number.result c.user.ensures mine in
    IfOk-weaker c.search_one.result (λ slots. slots ≡ found_for moment stock settings jobs c.get-number.result request)
    (λ slots. slots ≡ found moment stock settings jobs c.args.i) (λ slots e. e ∙ sym same) c.search_one.ensures.found

pub returns-then-len-eq0-clause-enough : goal.returns-then-len-eq0-clause-enough
returns-then-len-eq0-clause-enough g c =
    let jobs = jobs_of c.args.claims.now in
    let request = c.request-request.result.now in
    let wants =
    request-wanted c.args.scene.now.moment (stock_in c.args.scene.now) (settings_in c.args.scene.now) jobs c.args.i request c.request-request.ensures in
    IfOk-weaker c.search_one.result (λ slots. IfSome slots (λ (list : List ℕ). wanted request ≡ length list))
    (λ slots. IfSome slots (λ (list : List ℕ). option_map (λ (job : Job). wanted job.request) (slice_get jobs c.args.i) ≡ Some (length list)))
    (λ slots h. IfSome_then slots h (λ list enough. wants ∙ ap (λ (n : ℕ). Some n) enough)) c.search_one.ensures.enough

pub returns-then-len-eq0-clause-counted : goal.returns-then-len-eq0-clause-counted
returns-then-len-eq0-clause-counted g c =
    let moment = c.args.scene.now.moment in
    let stock = stock_in c.args.scene.now in
    let settings = settings_in c.args.scene.now in
    let jobs = jobs_of c.args.claims.now in
    let price = request-price moment stock settings jobs c.args.i c.request-request.result.now c.request-request.ensures in
    record {
      tops = omega (arith, price (evaluations_for moment stock settings), c.search_one.ensures.evaluations);
      entry = omega (arith, price (entries_for moment stock settings), c.search_one.ensures.entries);
      touch = omega (arith, price (looks_for stock), c.search_one.ensures.looks);
    }

pub returns-else-len-eq0-clause-found : goal.returns-else-len-eq0-clause-found
returns-else-len-eq0-clause-found g c =
    let moment = c.args.scene.now.moment in
    let stock = stock_in c.args.scene.now in
    let settings = settings_in c.args.scene.now in
    let jobs = jobs_of c.args.claims.now in
    let request = c.request-request.result.now in
    IfOk-weaker c.search_gang.result (λ slots. (number : ℕ) → slots ≡ found_for moment stock settings jobs number request)
    (λ slots. slots ≡ found moment stock settings jobs c.args.i)
    (request-found-by-all moment stock settings jobs c.args.i request c.request-request.ensures) c.search_gang.ensures.found

pub returns-else-len-eq0-clause-enough : goal.returns-else-len-eq0-clause-enough
returns-else-len-eq0-clause-enough g c =
    let jobs = jobs_of c.args.claims.now in
    let request = c.request-request.result.now in
    let wants =
    request-wanted c.args.scene.now.moment (stock_in c.args.scene.now) (settings_in c.args.scene.now) jobs c.args.i request c.request-request.ensures in
    IfOk-weaker c.search_gang.result (λ slots. IfSome slots (λ (list : List ℕ). wanted request ≡ length list))
    (λ slots. IfSome slots (λ (list : List ℕ). option_map (λ (job : Job). wanted job.request) (slice_get jobs c.args.i) ≡ Some (length list)))
    (λ slots h. IfSome_then slots h (λ list enough. wants ∙ ap (λ (n : ℕ). Some n) enough)) c.search_gang.ensures.enough

pub returns-else-len-eq0-clause-counted : goal.returns-else-len-eq0-clause-counted
returns-else-len-eq0-clause-counted g c =
    let moment = c.args.scene.now.moment in
    let stock = stock_in c.args.scene.now in
    let settings = settings_in c.args.scene.now in
    let jobs = jobs_of c.args.claims.now in
    let price = request-price moment stock settings jobs c.args.i c.request-request.result.now c.request-request.ensures in
    record {
      tops = omega (arith, price (evaluations_for moment stock settings), c.search_gang.ensures.spent.most_evaluations);
      entry = omega (arith, price (entries_for moment stock settings), c.search_gang.ensures.spent.most_entries);
      touch = omega (arith, price (looks_for stock), c.search_gang.ensures.spent.most_looks);
    }

pub returns-else-len-eq0-clause-ratio : goal.returns-else-len-eq0-clause-ratio
returns-else-len-eq0-clause-ratio g c ads small =
    c.search_gang.ensures.ratio (small-job (jobs_of c.args.claims.now) c.args.i c.request-request.result.now c.request-request.ensures small) ads
