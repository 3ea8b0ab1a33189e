use Rattle.std.proofs.Common.{ℕ, IfSome, Option, inl, inr, sym, ◌∙◌, ap, subst}
use Rattle.ad_store.specs.Stock.{Advert, Stock}
use Rattle.ad_store.specs.Store.{stock_of}
use Rattle.claim_table.specs.Table.{jobs_of}
use Rattle.pool_books.specs.Adverts.{advert_of}
use Rattle.pool_books.specs.Ports.{HasOwnPorts}
use Rattle.pool_books.specs.Wanting.{IsGone}
use Rattle.pool_books.proofs.AdLemmas.{stock-length}
use Rattle.pool_books.proofs.JobLemmas.{queue-put, stored-put}
use Rattle.pool_books.proofs.IndexLemmas.{on_ok}
use Rattle.pool_books.proofs.NameLemmas.{AreBeside}
use Rattle.pool_books.proofs.SmallLemmas.{IsSmallRequest}
use Rattle.pool_books.proofs.WantingLemmas.{left-kept, left-queue, left-stored}
use Rattle.pool_books.proofs.books.Books.put.Goals as goal

pub invariant_of-self : goal.invariant_of-self
invariant_of-self g c =
    let books = c.args.self.now in
    let old : Stock = stock_of books.ads.store in
    let new : Stock = stock_of c.put.new.self.store in
    let advert : Advert = advert_of c.args.advertised in
    record {
      listed =
          stored-put c.in-Ok.put advert old new (stock-length books.ads.store) c.in-Ok.ensures.ads c.in-Ok.ensures.slots c.in-Ok.ensures.added
          (jobs_of books.claims) books.listed;
      owned = books.owned;
      small = books.small;
    }

pub returns-in-Ok-clause-jobs : goal.returns-in-Ok-clause-jobs
returns-in-Ok-clause-jobs g c =
    let books = c.args.self.now in
    let old : Stock = stock_of books.ads.store in
    let new : Stock = stock_of c.put.new.self.store in
    let advert : Advert = advert_of c.args.advertised in
    queue-put c.in-Ok.put advert old new (stock-length books.ads.store) c.in-Ok.ensures.ads c.in-Ok.ensures.slots c.in-Ok.ensures.added (jobs_of books.claims)
    books.listed

-- the ad of the name has left, and each job that had it is idle
pub invariant_of-self-else-is_err : goal.invariant_of-self-else-is_err
invariant_of-self-else-is_err g c =
    let books = c.args.self.now in
    let old : Stock = stock_of books.ads.store in
    let new : Stock = stock_of c.put.new.self.store in
    let jobs = jobs_of books.claims in
    let later = jobs_of c.lose.new.self in
    let beside : AreBeside old.ads old.slots =
    record { long = stock-length books.ads.store; names = c.names_are_apart.ensures; apart = c.slots_are_apart.ensures } in
    let gone : IsGone c.args.advertised.name.now c.in-Err.end.fault old new c.in-Some.slot =
    subst (λ (o : Option ℕ). IfSome o (IsGone c.args.advertised.name.now c.in-Err.end.fault old new)) c.in-Some.is c.in-Err.ensures.gone in
    let lost = on_ok c.lose.result _ (sym c.is_err.ensures.value ∙ c.if-is_err.false) c.lose.ensures.ok in
    let offers = c.resources_are_apart.ensures.offers in
    let claims = c.resources_are_apart.ensures.claims in
    record {
      listed = left-stored c.args.advertised.name.now old new beside c.in-Some.slot gone.had gone.left jobs later offers claims lost books.listed;
      owned = left-kept c.args.advertised.name.now old new beside c.in-Some.slot gone.had gone.left jobs later offers claims lost HasOwnPorts books.owned;
      small = left-kept c.args.advertised.name.now old new beside c.in-Some.slot gone.had gone.left jobs later offers claims lost IsSmallRequest
          books.small;
    }

pub returns-else-is_err-clause-memory : goal.returns-else-is_err-clause-memory
returns-else-is_err-clause-memory g c =
    let books = c.args.self.now in
    let old : Stock = stock_of books.ads.store in
    let new : Stock = stock_of c.put.new.self.store in
    let jobs = jobs_of books.claims in
    let later = jobs_of c.lose.new.self in
    let beside : AreBeside old.ads old.slots =
    record { long = stock-length books.ads.store; names = c.names_are_apart.ensures; apart = c.slots_are_apart.ensures } in
    let gone : IsGone c.args.advertised.name.now c.in-Err.end.fault old new c.in-Some.slot =
    subst (λ (o : Option ℕ). IfSome o (IsGone c.args.advertised.name.now c.in-Err.end.fault old new)) c.in-Some.is c.in-Err.ensures.gone in
    let lost = on_ok c.lose.result _ (sym c.is_err.ensures.value ∙ c.if-is_err.false) c.lose.ensures.ok in
    let queue =
    left-queue c.args.advertised.name.now old new beside c.in-Some.slot gone.had gone.left jobs later c.resources_are_apart.ensures.offers
    c.resources_are_apart.ensures.claims lost books.listed in
    inr (ap (λ (s : Stock). s.ads) gone.left, inl queue)
