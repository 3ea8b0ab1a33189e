use Rattle.std.proofs.Common.{ℕ, ◌*◌, ◌≤◌, ◌+◌, Contains, sym, subst}
use Rattle.ad_store.specs.Store.{stock_of}
use Rattle.claim_table.specs.Settings.{settings_of}
use Rattle.claim_table.specs.Table.{jobs_of}
use Rattle.claim_table.proofs.StoredLemmas.{claim-keeps}
use Rattle.pool_books.specs.Ports.{HasOwnPorts}
use Rattle.pool_books.proofs.AdLemmas.{stock-length}
use Rattle.pool_books.proofs.ClaimLemmas.{all-held, claim-kept, claim-seen, held-all}
use Rattle.pool_books.proofs.FailingLemmas.{offered-seen, undecided-seen}
use Rattle.pool_books.proofs.NameLemmas.{AreBeside}
use Rattle.pool_books.proofs.SmallLemmas.{IsSmallRequest}
use Rattle.pool_books.proofs.books.Books.claim.Goals as goal

pub claim-requires : goal.claim-requires
claim-requires g c = all-held (stock_of c.args.self.now.ads.store).slots (jobs_of c.args.self.now.claims) c.args.self.now.listed

pub invariant_of-self : goal.invariant_of-self
invariant_of-self g c =
    let books = c.args.self.now in
    let stock = stock_of books.ads.store in
    let settings = settings_of c.args.priorities.now in
    let jobs = jobs_of books.claims in
    let listed =
    held-all stock.slots (jobs_of c.claim.new.self) (claim-keeps (Contains stock.slots) c.args.moment stock settings c.args.name.now jobs
    (all-held stock.slots jobs books.listed) c.claim.result (jobs_of c.claim.new.self) c.claim.ensures.claim) in
    let owned =
    claim-kept HasOwnPorts c.args.moment stock settings c.args.name.now jobs books.owned c.claim.result (jobs_of c.claim.new.self) c.claim.ensures.claim in
    let small =
    claim-kept IsSmallRequest c.args.moment stock settings c.args.name.now jobs books.small c.claim.result (jobs_of c.claim.new.self)
    c.claim.ensures.claim in
    record { listed = listed; owned = owned; small = small }

pub returns-clause-claim : goal.returns-clause-claim
returns-clause-claim g c =
    let books = c.args.self.now in
    let stock = stock_of books.ads.store in
    let beside : AreBeside stock.ads stock.slots =
    record { long = stock-length books.ads.store; names = c.names_are_apart.ensures; apart = c.slots_are_apart.ensures } in
    claim-seen stock c.args.moment (settings_of c.args.priorities.now) beside c.args.name.now (jobs_of books.claims) books.listed books.owned
    c.names_are_apart-2.ensures c.resources_are_apart.ensures.claims c.claim.result (jobs_of c.claim.new.self) c.claim.ensures.claim

pub returns-clause-cost : goal.returns-clause-cost
returns-clause-cost g c = λ priorities.
    let books = c.args.self.now in
    let stock = stock_of books.ads.store in
    let beside : AreBeside stock.ads stock.slots =
    record { long = stock-length books.ads.store; names = c.names_are_apart.ensures; apart = c.slots_are_apart.ensures } in
    subst (λ (n : ℕ). c.claim.new.tops ≤ c.args.meter.now.tops.now + 4 * n)
    (sym (undecided-seen stock beside c.args.moment priorities (jobs_of books.claims) books.listed books.owned c.args.name.now)) c.claim.ensures.evaluations

pub returns-clause-looks : goal.returns-clause-looks
returns-clause-looks g c = λ priorities.
    let books = c.args.self.now in
    let stock = stock_of books.ads.store in
    let beside : AreBeside stock.ads stock.slots =
    record { long = stock-length books.ads.store; names = c.names_are_apart.ensures; apart = c.slots_are_apart.ensures } in
    subst (λ (n : ℕ). c.claim.new.touch ≤ c.args.meter.now.touch.now + 9 * n)
    (sym (offered-seen stock beside c.args.moment priorities (jobs_of books.claims) books.listed books.owned c.args.name.now)) c.claim.ensures.looks
