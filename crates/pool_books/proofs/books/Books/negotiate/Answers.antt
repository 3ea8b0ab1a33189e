use Rattle.std.proofs.Common.{◌≡◌, ℕ, ◌*◌, ◌≤◌, ◌+◌, All, map, Result, Ok, Err, IfOk, OnOk, sym, ◌∙◌, subst}
use Rattle.ad_store.specs.Store.{stock_of}
use Rattle.claim_table.specs.Table.{jobs_of}
use Rattle.negotiator.specs.Cycle.{cycle_of, offers_of}
use Rattle.negotiator.specs.Markets.{IsPart, market_of, spin_named}
use Rattle.claim_table.specs.Settings.{settings_of}
use Rattle.pool_books.specs.Ports.{HasOwnPorts}
use Rattle.pool_books.specs.Rows.{IsSpinHeld}
use Rattle.pool_books.proofs.DockLemmas.{holders-stored}
use Rattle.pool_books.proofs.HitLemmas.{if_ok}
use Rattle.pool_books.proofs.MarketLemmas.{looks-seen, negotiated, part-seen, undecided-seen}
use Rattle.pool_books.proofs.MatchedLemmas.{part-kept, part-of, part-stored}
use Rattle.pool_books.proofs.NameLemmas.{AreBeside}
use Rattle.pool_books.proofs.PortLemmas.{all-own}
use Rattle.pool_books.proofs.SmallLemmas.{IsSmallRequest}
use Rattle.pool_books.proofs.SpinRowLemmas.{spins-held}
use Rattle.pool_books.proofs.books.Books.negotiate.Goals as goal

-- what follows of an answer from two facts
if_ok-both : {T E A : Type 0} (r : Result T E) (P Q : T → Type 0) → (A → (x : T) → P x → Q x) → OnOk r A → IfOk r P → IfOk r Q
if_ok-both (Ok x) P Q more a p = more a x p
if_ok-both (Err e) P Q more a p = tt

pub cycle-requires-clause-stored : goal.cycle-requires-clause-stored
cycle-requires-clause-stored g c =
    holders-stored (stock_of c.args.self.now.ads.store) (settings_of c.args.priorities.now) (jobs_of c.args.self.now.claims) c.args.self.now.listed

pub cycle-requires-clause-ports : goal.cycle-requires-clause-ports
cycle-requires-clause-ports g c = all-own (jobs_of c.args.self.now.claims) c.args.self.now.owned

pub invariant_of-self : goal.invariant_of-self
invariant_of-self g c =
    let books = c.args.self.now in
    let stock = stock_of books.ads.store in
    let jobs = jobs_of books.claims in
    let later = jobs_of c.cycle.new.claims in
    let offers = offers_of (cycle_of (market_of c.args.moment stock (settings_of c.args.priorities.now) jobs)) in
    let part : IsPart offers jobs later = part-of c.cycle.result offers jobs later c.cycle.ensures.table c.cycle.ensures.part in
    record {
      listed = part-stored stock.slots offers jobs later part c.cycle.ensures.stored books.listed;
      owned = part-kept HasOwnPorts offers jobs later part books.owned;
      small = part-kept IsSmallRequest offers jobs later part books.small;
    }

pub returns-clause-cycle : goal.returns-clause-cycle
returns-clause-cycle g c =
    let books = c.args.self.now in
    let stock = stock_of books.ads.store in
    let beside : AreBeside stock.ads stock.slots =
    record { long = sym c.len-len.ensures.ads ∙ c.len-len.ensures.slots; names = c.names_are_apart.ensures; apart = c.slots_are_apart.ensures } in
    if_ok-both c.cycle.result _ _
    (λ table spins is. λ answered are. negotiated stock beside c.args.moment (settings_of c.args.priorities.now) (jobs_of books.claims) books.listed books.owned
    (jobs_of c.cycle.new.claims) spins answered table is are)
    c.cycle.ensures.table c.cycle.ensures.cycle

pub returns-clause-held : goal.returns-clause-held
returns-clause-held g c =
    let books = c.args.self.now in
    let stock = stock_of books.ads.store in
    let jobs = jobs_of books.claims in
    let spins = cycle_of (market_of c.args.moment stock (settings_of c.args.priorities.now) jobs) in
    if_ok c.cycle.result (λ answered. answered ≡ map (spin_named jobs) spins) (All (IsSpinHeld stock.slots))
    (λ answered is. subst (All (IsSpinHeld stock.slots)) (sym is) (spins-held stock.slots jobs spins c.cycle.ensures.stored)) c.cycle.ensures.cycle

pub returns-clause-part : goal.returns-clause-part
returns-clause-part g c =
    let books = c.args.self.now in
    let stock = stock_of books.ads.store in
    let beside : AreBeside stock.ads stock.slots =
    record { long = sym c.len-len.ensures.ads ∙ c.len-len.ensures.slots; names = c.names_are_apart.ensures; apart = c.slots_are_apart.ensures } in
    part-seen stock beside c.args.moment (settings_of c.args.priorities.now) (jobs_of books.claims) books.listed books.owned c.cycle.result
    (jobs_of c.cycle.new.claims) c.cycle.ensures.part

pub returns-clause-cost : goal.returns-clause-cost
returns-clause-cost g c =
    let books = c.args.self.now in
    let stock = stock_of books.ads.store in
    let beside : AreBeside stock.ads stock.slots =
    record { long = sym c.len-len.ensures.ads ∙ c.len-len.ensures.slots; names = c.names_are_apart.ensures; apart = c.slots_are_apart.ensures } in
    subst (λ (n : ℕ). c.cycle.new.tops ≤ c.args.meter.now.tops.now + 5 * n)
    (sym (undecided-seen stock beside c.args.moment (settings_of c.args.priorities.now) (jobs_of books.claims) books.listed books.owned))
    c.cycle.ensures.evaluations

pub returns-clause-looks : goal.returns-clause-looks
returns-clause-looks g c =
    let books = c.args.self.now in
    let stock = stock_of books.ads.store in
    let beside : AreBeside stock.ads stock.slots =
    record { long = sym c.len-len.ensures.ads ∙ c.len-len.ensures.slots; names = c.names_are_apart.ensures; apart = c.slots_are_apart.ensures } in
    subst (λ (n : ℕ). c.cycle.new.touch ≤ c.args.meter.now.touch.now + n)
    (sym (looks-seen stock beside c.args.moment (settings_of c.args.priorities.now) (jobs_of books.claims) books.listed books.owned)) c.cycle.ensures.looks
