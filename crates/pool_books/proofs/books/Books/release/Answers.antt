use Rattle.std.proofs.Common.{◌≡◌, All, List, true}
use Rattle.ad_store.specs.Store.{stock_of}
use Rattle.claim_table.specs.declared.job.Job.{Job}
use Rattle.claim_table.specs.Jobs.{idle_at, numbered}
use Rattle.claim_table.specs.Table.{jobs_of}
use Rattle.pool_books.specs.Ports.{HasOwnPorts}
use Rattle.pool_books.specs.Stored.{are_stored}
use Rattle.pool_books.proofs.ClaimLemmas.{kept-released, released, released-stored}
use Rattle.pool_books.proofs.JobLemmas.{either-way}
use Rattle.pool_books.proofs.QueueLemmas.{RequestIs}
use Rattle.pool_books.proofs.SmallLemmas.{IsSmallRequest}
use Rattle.pool_books.proofs.books.Books.release.Goals as goal

pub invariant_of-self : goal.invariant_of-self
invariant_of-self c =
    let books = c.args.self.now in
    let slots = (stock_of books.ads.store).slots in
    let jobs = jobs_of books.claims in
    let number = numbered c.args.name.now jobs in
    let idle = idle_at number jobs in
    let later = jobs_of c.release.new.self in
    let r = c.release.ensures in
    record {
      listed =
          either-way (λ (l : List Job). are_stored slots l ≡ true) c.release.result jobs idle later r.ok r.err (released-stored slots number jobs books.listed)
          books.listed;
      owned =
          either-way (All (RequestIs HasOwnPorts)) c.release.result jobs idle later r.ok r.err (kept-released HasOwnPorts number jobs books.owned) books.owned;
      small =
          either-way (All (RequestIs IsSmallRequest)) c.release.result jobs idle later r.ok r.err (kept-released IsSmallRequest number jobs books.small)
          books.small;
    }

pub returns-clause-release : goal.returns-clause-release
returns-clause-release c = λ moment priorities.
    let books = c.args.self.now in
    released (stock_of books.ads.store) moment priorities c.args.name.now (jobs_of books.claims) c.names_are_apart.ensures c.release.result
    (jobs_of c.release.new.self) c.release.ensures.answer c.release.ensures.ok c.release.ensures.err
