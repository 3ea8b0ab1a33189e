use Rattle.std.proofs.Common.{ℕ, All, Contains, List, Option, IfSome, Some, map, option_map, sym, ◌∙◌, ap, subst}
use Rattle.ad_tree.specs.Ad.{ad_frames}
use Rattle.ad_store.specs.Store.{stock_of}
use Rattle.claim_table.specs.Settings.{settings_of}
use Rattle.claim_table.specs.Table.{jobs_of}
use Rattle.pool_books.specs.Books.{name_in}
use Rattle.pool_books.proofs.AdLemmas.{stock-length}
use Rattle.pool_books.proofs.NameLemmas.{AreBeside}
use Rattle.pool_books.proofs.PoolLemmas.{gang-names}
use Rattle.pool_commands.proofs.NamedGangLemmas.{gang-cost, gang-stored}
use Rattle.pool_commands.proofs.gangs.gang_names.Goals as goal

pub returns-in_err-found-clause-cost : goal.returns-in_err-found-clause-cost
returns-in_err-found-clause-cost g c =
    let books = c.args.books.now in
    let stock = stock_of books.ads.store in
    let beside : AreBeside stock.ads stock.slots =
    record { long = stock-length books.ads.store; names = c.names_are_apart.ensures; apart = c.slots_are_apart.ensures } in
    let request = c.args.request.now in
    gang-cost stock beside c.args.moment (settings_of c.args.priorities.now) (jobs_of books.claims) books.listed books.owned (ad_frames request.ad)
    request.ports c.args.meter.now.tops.now c.first_gang.new.tops c.first_gang.ensures.evaluations c.first_gang.ensures.once

pub returns-in_default-clause-cost : goal.returns-in_default-clause-cost
returns-in_default-clause-cost g c =
    let books = c.args.books.now in
    let stock = stock_of books.ads.store in
    let beside : AreBeside stock.ads stock.slots =
    record { long = stock-length books.ads.store; names = c.names_are_apart.ensures; apart = c.slots_are_apart.ensures } in
    let request = c.args.request.now in
    gang-cost stock beside c.args.moment (settings_of c.args.priorities.now) (jobs_of books.claims) books.listed books.owned (ad_frames request.ad)
    request.ports c.args.meter.now.tops.now c.first_gang.new.tops c.first_gang.ensures.evaluations c.first_gang.ensures.once

pub returns-in_err-names_of-clause-cost : goal.returns-in_err-names_of-clause-cost
returns-in_err-names_of-clause-cost g c =
    let books = c.args.books.now in
    let stock = stock_of books.ads.store in
    let beside : AreBeside stock.ads stock.slots =
    record { long = stock-length books.ads.store; names = c.names_are_apart.ensures; apart = c.slots_are_apart.ensures } in
    let request = c.args.request.now in
    gang-cost stock beside c.args.moment (settings_of c.args.priorities.now) (jobs_of books.claims) books.listed books.owned (ad_frames request.ad)
    request.ports c.args.meter.now.tops.now c.first_gang.new.tops c.first_gang.ensures.evaluations c.first_gang.ensures.once

pub returns-clause-cost : goal.returns-clause-cost
returns-clause-cost g c =
    let books = c.args.books.now in
    let stock = stock_of books.ads.store in
    let beside : AreBeside stock.ads stock.slots =
    record { long = stock-length books.ads.store; names = c.names_are_apart.ensures; apart = c.slots_are_apart.ensures } in
    let request = c.args.request.now in
    gang-cost stock beside c.args.moment (settings_of c.args.priorities.now) (jobs_of books.claims) books.listed books.owned (ad_frames request.ad)
    request.ports c.args.meter.now.tops.now c.first_gang.new.tops c.first_gang.ensures.evaluations c.first_gang.ensures.once

pub returns-in_default-clause-names : goal.returns-in_default-clause-names
returns-in_default-clause-names g c =
    let books = c.args.books.now in
    let stock = stock_of books.ads.store in
    let beside : AreBeside stock.ads stock.slots =
    record { long = stock-length books.ads.store; names = c.names_are_apart.ensures; apart = c.slots_are_apart.ensures } in
    let request = c.args.request.now in
    sym (gang-names stock beside c.args.moment (settings_of c.args.priorities.now) (jobs_of books.claims) books.listed books.owned (ad_frames request.ad)
    request.ports ∙ ap (option_map (map (name_in stock))) (sym c.in_ok-found.ensures.gang ∙ c.in_default.is))

pub names_of-requires : goal.names_of-requires
names_of-requires g c =
    let books = c.args.books.now in
    let stock = stock_of books.ads.store in
    let beside : AreBeside stock.ads stock.slots =
    record { long = stock-length books.ads.store; names = c.names_are_apart.ensures; apart = c.slots_are_apart.ensures } in
    let request = c.args.request.now in
    let held : All (Contains stock.slots) c.in-Some.slots =
    subst (λ (o : Option (List ℕ)). IfSome o (All (Contains stock.slots))) c.in-Some.is
    (gang-stored stock beside c.args.moment (settings_of c.args.priorities.now) (jobs_of books.claims) books.listed books.owned (ad_frames request.ad)
    request.ports c.in_ok-found.found c.in_ok-found.ensures.gang) in
    subst (λ (slots : List ℕ). All (Contains stock.slots) slots) (sym c.as_slice.ensures) held

pub returns-clause-names : goal.returns-clause-names
returns-clause-names g c =
    let books = c.args.books.now in
    let stock = stock_of books.ads.store in
    let beside : AreBeside stock.ads stock.slots =
    record { long = stock-length books.ads.store; names = c.names_are_apart.ensures; apart = c.slots_are_apart.ensures } in
    let request = c.args.request.now in
    ap (λ (names : List (List ℕ)). Some names) (c.in_ok-names_of.ensures ∙ ap (map (name_in stock)) c.as_slice.ensures)
    ∙ ap (option_map (map (name_in stock))) (sym c.in-Some.is ∙ c.in_ok-found.ensures.gang)
    ∙ sym (gang-names stock beside c.args.moment (settings_of c.args.priorities.now) (jobs_of books.claims) books.listed books.owned (ad_frames request.ad)
    request.ports)
