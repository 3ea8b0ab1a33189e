-- The market of a table of jobs, over slots, and the market of a state, over names: they find the same, so the cycle is the same.
use Rattle.std.proofs.Common.{◌≡◌, ℕ, All, Bool, false, true, cond, List, [], ◌∷◌, ◌++◌, count_by, filter, length, map, max, sum_by, refl, sym, ◌∙◌, ap, arith}
use Rattle.std.proofs.Common.{Result, Ok, Err, OnErr}
use Rattle.std.proofs.lemmas.List.{map-append}
use Rattle.std.proofs.lemmas.List.Elements.{All-head, All-nil, All-push, All-tail}
use Rattle.std.proofs.lemmas.List.Sums.{sum_by-cons}
use Rattle.ad_tree.specs.Ad.{ad_frames}
use Rattle.ad_tree.specs.Frames.{Frame}
use Rattle.ad_tree.specs.declared.request.Port.{Port}
use Rattle.ad_store.specs.Stock.{Stock}
use Rattle.claim_table.specs.declared.job.Job.{Job}
use Rattle.claim_table.specs.declared.job.Stage.{Stage}
use Rattle.job_clusters.specs.Pools as pools
use Rattle.negotiator.specs.Cycle.{Market, Offer, PlainSpin, PlainTurn, Waiting, cycle_of, offers_in, offers_of}
use Rattle.negotiator.specs.Mapped.{offer_mapped, spin_mapped, turn_mapped}
use Rattle.claim_table.specs.Priorities.{Setting}
use Rattle.negotiator.specs.declared.answers.Spin.{Spin}
use Rattle.negotiator.proofs.AlikeLemmas.{IsRenamed, cycle-renamed}
use Rattle.negotiator.proofs.CycleLemmas.{offer}
use Rattle.negotiator.proofs.StoredLemmas.{found-stored}
use Rattle.pool_replies.specs.declared.reply.Reply.{Reply}
use Rattle.pool_replies.specs.declared.rows.SpinRow.{SpinRow}
use Rattle.negotiator.specs.Budget as budget
use Rattle.negotiator.specs.Markets as market
use Rattle.pool_replies.specs.declared.reply.Reply.TheVariants as reply
use Rattle.pool_books.specs.Books.{name_in, named_standing, queued}
use Rattle.pool_books.specs.Negotiation as seen
use Rattle.pool_books.specs.Ports.{HasOwnPorts, ports_in}
use Rattle.pool_books.specs.Rows as rows
use Rattle.pool_books.specs.State.{QueuedJob, State}
use Rattle.pool_books.specs.Stored.{are_stored}
use Rattle.pool_books.specs.Wanting.{IsPartOffered}
use Rattle.pool_books.proofs.FoundLemmas.{find-seen}
use Rattle.pool_books.proofs.MatchedLemmas.{AreOffered, IsOffered, IsOwned, kept-offers, offers-seen, stored-offers}
use Rattle.pool_books.proofs.NameLemmas.{AreBeside}
use Rattle.pool_books.proofs.PoolLemmas.{docks-seen, free-seen, open-seen}
use Rattle.pool_books.proofs.SpinRowLemmas.{spin-rows}

module _ (stock : Stock) where
  idle-seen : (standing : Stage) → seen.is_idle (named_standing stock standing) ≡ market.is_idle standing
  idle-seen Stage.Idle = refl
  idle-seen (Stage.Matched own) = refl
  idle-seen (Stage.Claimed own) = refl

  one-waiting : (job : Job) → IsOwned job → seen.waiting (queued stock job) ≡ market.waiting_of job
  one-waiting job owned =
      ap (λ b. let w : Waiting = record { user = job.user; wants = max 1 (length (ports_in (ad_frames job.request.ad))); is_idle = b } in w)
      (idle-seen job.standing)
      ∙ ap (λ n. let w : Waiting = record { user = job.user; wants = n; is_idle = market.is_idle job.standing } in w)
      (sym (ap (λ (ports : List Port). max 1 (length ports)) owned))

  waiting-seen : (jobs : List Job) → All IsOwned jobs → map seen.waiting (map (queued stock) jobs) ≡ map market.waiting_of jobs
  waiting-seen [] owned = refl
  waiting-seen (job ∷ jobs) owned =
      ap (λ w. w ∷ map seen.waiting (map (queued stock) jobs)) (one-waiting job (All-head IsOwned job jobs owned))
      ∙ ap (λ l. market.waiting_of job ∷ l) (waiting-seen jobs (All-tail IsOwned job jobs owned))

  -- the offers of turns and spins with names
  abbrev named : Offer ℕ → Offer (List ℕ)
  named = offer_mapped (name_in stock)

  turns-named : (ts : List (PlainTurn ℕ)) → offers_in (map (turn_mapped (name_in stock)) ts) ≡ map named (offers_in ts)
  turns-named [] = refl
  turns-named (t ∷ ts) = ap (λ l. map named t.offers ++ l) (turns-named ts) ∙ sym (map-append named t.offers (offers_in ts))

  spins-named : (spins : List (PlainSpin ℕ)) → offers_of (map (spin_mapped (name_in stock)) spins) ≡ map named (offers_of spins)
  spins-named [] = refl
  spins-named (spin ∷ spins) =
      ap (λ l. l ++ offers_of (map (spin_mapped (name_in stock)) spins)) (turns-named spin.turns)
      ∙ ap (λ l. map named (offers_in spin.turns) ++ l) (spins-named spins)
      ∙ sym (map-append named (offers_in spin.turns) (offers_of spins))

-- ---- the cycle

module _ (stock : Stock) (beside : AreBeside stock.ads stock.slots) (moment : ℕ) (settings : List Setting) (jobs : List Job)
    (stored : are_stored stock.slots jobs ≡ true) (owned : All IsOwned jobs) where
  abbrev state_of : List QueuedJob → State
  state_of js = record { moment = moment; ads = stock.ads; jobs = js; priorities = settings }

  abbrev state : State
  state = state_of (map (queued stock) jobs)

  abbrev here : Market ℕ
  here = market.market_of moment stock settings jobs

  then_stored : (made : List (Offer ℕ)) → AreOffered stock.slots made → are_stored stock.slots (market.with_offers made jobs) ≡ true
  then_stored made offered = stored-offers stock.slots made jobs offered stored

  then_owned : (made : List (Offer ℕ)) → All IsOwned (market.with_offers made jobs)
  then_owned made = kept-offers HasOwnPorts made jobs owned

  renames : IsRenamed (name_in stock) here (seen.market_in state) (AreOffered stock.slots)
  renames = record {
    jobs = waiting-seen stock jobs owned;
    priority = λ user. refl;
    start = All-nil (IsOffered stock.slots);
    free = λ made offered. ap (λ js. count_by (seen.is_free js) stock.ads) (offers-seen stock made jobs)
        ∙ free-seen stock beside moment settings (market.with_offers made jobs) (then_stored made offered) (then_owned made);
    find = λ made i offered. ap (λ js. seen.found moment stock.ads settings js i) (offers-seen stock made jobs)
        ∙ find-seen stock beside moment settings (market.with_offers made jobs) (then_stored made offered) (then_owned made) i;
    step = λ user made i own offered waiting found.
        All-push (IsOffered stock.slots) made (offer i own) offered
        (found-stored moment stock settings (let long = beside.long in omega (arith, long)) (market.with_offers made jobs) i own found);
  }

  cycle-seen : cycle_of (seen.market_in state) ≡ map (spin_mapped (name_in stock)) (cycle_of here)
  cycle-seen = cycle-renamed (name_in stock) here (seen.market_in state) (AreOffered stock.slots) renames

  -- the jobs behind the cycle
  jobs-seen : seen.with_offers (offers_of (cycle_of (seen.market_in state))) (map (queued stock) jobs)
      ≡ map (queued stock) (market.with_offers (offers_of (cycle_of here)) jobs)
  jobs-seen =
      ap (λ spins. seen.with_offers (offers_of spins) (map (queued stock) jobs)) cycle-seen
      ∙ ap (λ offers. seen.with_offers offers (map (queued stock) jobs)) (spins-named stock (cycle_of here))
      ∙ offers-seen stock (offers_of (cycle_of here)) jobs

  -- the step
  pub negotiated : (later : List Job) (spins : List Spin) (answered : List SpinRow) → later ≡ market.with_offers (offers_of (cycle_of here)) jobs
      → spins ≡ map (market.spin_named jobs) (cycle_of here) → answered ≡ map (rows.spin_row stock) spins
      → ◌≡◌ {A = State × Reply} (seen.negotiate state) (state_of (map (queued stock) later), reply.Cycle answered)
  negotiated later spins answered is named_spins named_rows =
      ap (λ js. pair js (map (seen.spin_row (map (queued stock) jobs)) (cycle_of (seen.market_in state)))) (jobs-seen ∙ ap (map (queued stock)) (sym is))
      ∙ ap (pair (map (queued stock) later)) (ap (map (seen.spin_row (map (queued stock) jobs))) cycle-seen ∙ spin-rows stock jobs (cycle_of here)
      ∙ ap (map (rows.spin_row stock)) (sym named_spins) ∙ sym named_rows)
    where
      pair : List QueuedJob → List SpinRow → State × Reply
      pair js rs = (state_of js, reply.Cycle rs)

  -- where memory was wanting, the first offers stand
  pub part-seen : {T E : Type 0} (r : Result T E) (later : List Job) → OnErr r (market.IsPart (offers_of (cycle_of here)) jobs later)
      → OnErr r (IsPartOffered state (map (queued stock) later))
  part-seen (Ok x) later part = tt
  part-seen (Err e) later part = record {
    front = map (named stock) part.front;
    rest = map (named stock) part.rest;
    all = ap offers_of cycle-seen ∙ spins-named stock (cycle_of here) ∙ ap (map (named stock)) part.all ∙ map-append (named stock) part.front part.rest;
    made = ap (map (queued stock)) part.made ∙ sym (offers-seen stock part.front jobs);
  }

  -- ---- what it costs

  sum-idle : (f : QueuedJob → ℕ) (g : Job → ℕ) → ((job : Job) → IsOwned job → f (queued stock job) ≡ g job) → (js : List Job) → All IsOwned js
      → sum_by f (filter (λ (job : QueuedJob). seen.is_idle job.standing) (map (queued stock) js))
      ≡ sum_by g (filter (λ (job : Job). market.is_idle job.standing) js)
  sum-idle f g each [] own = refl
  sum-idle f g each (job ∷ js) own =
      ap (λ b. sum_by f (cond b (queued stock job ∷ behind) behind)) (idle-seen stock job.standing)
      ∙ by (market.is_idle job.standing) (sum-idle f g each js (All-tail IsOwned job js own))
    where
      behind : List QueuedJob
      behind = filter (λ (j : QueuedJob). seen.is_idle j.standing) (map (queued stock) js)

      others : List Job
      others = filter (λ (j : Job). market.is_idle j.standing) js

      by : (b : Bool) → sum_by f behind ≡ sum_by g others → sum_by f (cond b (queued stock job ∷ behind) behind) ≡ sum_by g (cond b (job ∷ others) others)
      by true rest =
          let one = each job (All-head IsOwned job js own) in omega (arith, one, rest, sum_by-cons f (queued stock job) behind, sum_by-cons g job others)
      by false rest = rest

  open-with : (request : List Frame) (ports : List Port)
      → budget.open_by (seen.pool_in moment stock.ads settings (map (queued stock) jobs)) request ports
      ≡ budget.open_by (pools.pool_for moment stock settings jobs) request ports
  open-with request [] = open-seen stock beside moment settings jobs stored owned request
  open-with request (port ∷ ports) = docks-seen stock beside moment settings jobs stored owned request (port ∷ ports)

  pub undecided-seen : seen.undecided_for_jobs state ≡ budget.over_idle (budget.open_for moment stock settings) jobs
  undecided-seen =
      sum-idle (λ job. budget.open_by (seen.pool_in moment stock.ads settings (map (queued stock) jobs)) job.ad (ports_in job.ad))
      (λ job. budget.open_for moment stock settings jobs job.request)
      (λ job own.
      ap (budget.open_by (seen.pool_in moment stock.ads settings (map (queued stock) jobs)) (ad_frames job.request.ad)) (sym own)
      ∙ open-with (ad_frames job.request.ad) job.request.ports) jobs owned

  pub looks-seen : seen.looks_for_jobs state ≡ budget.over_idle (budget.looks_for stock) jobs
  looks-seen =
      sum-idle (λ job. budget.looks_by stock.ads job.ad (ports_in job.ad)) (λ job. budget.looks_for stock jobs job.request)
      (λ job own. ap (budget.looks_by stock.ads (ad_frames job.request.ad)) (sym own)) jobs owned
