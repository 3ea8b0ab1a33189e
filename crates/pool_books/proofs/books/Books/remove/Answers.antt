use Rattle.std.proofs.Common.{All, Ok, map, refl, sym, ◌∙◌, ap, subst}
use Rattle.ad_store.specs.Store.{stock_of}
use Rattle.claim_table.specs.Answers.{no_job}
use Rattle.claim_table.specs.Jobs.{numbered, slots_of}
use Rattle.claim_table.specs.Table.{jobs_of}
use Rattle.pool_books.specs.Books.{queued}
use Rattle.pool_books.specs.Ports.{HasOwnPorts}
use Rattle.pool_books.specs.Stored.{are_stored}
use Rattle.pool_books.proofs.JobLemmas.{kept-without, queue-without, removed, stored-without}
use Rattle.pool_books.proofs.QueueLemmas.{RequestIs}
use Rattle.pool_books.proofs.SmallLemmas.{IsSmallRequest}
use Rattle.pool_books.proofs.books.Books.remove.Goals as goal

pub invariant_of-self : goal.invariant_of-self
invariant_of-self c =
    let old = c.args.self.now in
    let name = c.args.name.now in
    let slots = (stock_of old.ads.store).slots in
    record {
      listed = ap (are_stored slots) c.remove.ensures.jobs ∙ stored-without slots name (jobs_of old.claims) c.names_are_apart.ensures old.listed;
      owned =
          subst (All (RequestIs HasOwnPorts)) (sym c.remove.ensures.jobs)
          (kept-without HasOwnPorts (numbered name (jobs_of old.claims)) (jobs_of old.claims) old.owned);
      small =
          subst (All (RequestIs IsSmallRequest)) (sym c.remove.ensures.jobs)
          (kept-without IsSmallRequest (numbered name (jobs_of old.claims)) (jobs_of old.claims) old.small);
    }

pub returns-clause-held : goal.returns-clause-held
returns-clause-held c =
    let old = c.args.self.now in
    c.is_ok.ensures.value ∙ removed (λ job. Ok (slots_of job.standing)) no_job (λ job. refl) c.args.name.now (stock_of old.ads.store) (jobs_of
    old.claims) c.remove.result c.remove.ensures.answer

pub returns-clause-jobs : goal.returns-clause-jobs
returns-clause-jobs c =
    let old = c.args.self.now in
    ap (map (queued (stock_of old.ads.store))) c.remove.ensures.jobs
    ∙ queue-without (stock_of old.ads.store) c.args.name.now (jobs_of old.claims) c.names_are_apart.ensures
