use Rattle.std.proofs.Common.{◌≡◌, ◌++◌, ◌∷◌, None, sym, ◌∙◌, ap, subst}
use Rattle.ad_store.specs.Stock.{Stock, is_named}
use Rattle.ad_store.specs.Store.{stock_of}
use Rattle.ad_tree.specs.Ad.{ad_frames}
use Rattle.literal_index.specs.Rows.{ad_under, row_of}
use Rattle.literal_index.specs.Shown.{IsKept}
use Rattle.ad_candidates.specs.Rows.{rows_of}
use Rattle.ad_candidates.proofs.RowLemmas.{alone-under, rows-round}
use Rattle.significant_attrs.proofs.ContainLemmas.{contains_at}
use Rattle.pool_books.specs.Stocks.{stock_without}
use Rattle.pool_books.proofs.AdLemmas.{has_at, named, slot_beside-found, stock-length}
use Rattle.pool_books.proofs.IndexLemmas.{here_frames, on_err, on_ok, rows-unnamed, withdrawn_stock}
use Rattle.pool_books.proofs.SmallLemmas.{small-withdrawn}
use Rattle.pool_books.proofs.indexed.remember.Goals as goal

pub returns-in_default-clause-all : goal.returns-in_default-clause-all
returns-in_default-clause-all g c = λ index.
    let stock : Stock = stock_of c.args.store.now in
    subst (IsKept c.args.index.now) (rows-unnamed c.args.name.now stock.ads stock.slots (sym c.requires ∙ c.in_default.is)) index

pub returns-then-is_err-clause-gone : goal.returns-then-is_err-clause-gone
returns-then-is_err-clause-gone g c = λ index.
    let stock : Stock = stock_of c.args.store.now in
    let name = c.args.name.now in
    let slot = c.in-Some.slot in
    let round = rows-round name stock.ads stock.slots slot (sym c.requires ∙ c.in-Some.is) in
    let alone =
    alone-under stock.ads stock.slots round.before slot round.old.ad round.after (stock-length c.args.store.now) c.slots_are_apart.ensures round.rows in
    let absent : ad_under slot (rows_of (stock_without name stock)) ≡ None = ap (ad_under slot) round.withdrawn ∙ alone in
    let same = on_err c.add.result _ (sym c.is_err.ensures.value ∙ c.if-is_err.true) c.add.ensures.err (rows_of (stock_without name stock)) index absent in
    let beside = slot_beside-found (is_named name) stock.ads stock.slots slot (sym c.requires ∙ c.in-Some.is) in
    let held = has_at name stock.ads beside.place beside.advert beside.at (sym (named name beside.advert beside.passes)) in
    let gone =
    withdrawn_stock c.withdraw.result name stock (stock_of c.withdraw.new.self) held c.withdraw.ensures.ads c.withdraw.ensures.slots
    c.withdraw.ensures.none in
    subst (λ (s : Stock). IsKept c.add.new.self (rows_of s)) (sym gone) same

pub look-requires : goal.look-requires
look-requires g c =
    let stock : Stock = stock_of c.args.store.now in
    let found = slot_beside-found (is_named c.args.name.now) stock.ads stock.slots c.in-Some.slot (sym c.requires ∙ c.in-Some.is) in
    contains_at stock.slots found.place _ found.slot_at

pub returns-then-is_err-clause-without : goal.returns-then-is_err-clause-without
returns-then-is_err-clause-without g c =
    let stock : Stock = stock_of c.args.store.now in
    let name = c.args.name.now in
    let beside = slot_beside-found (is_named name) stock.ads stock.slots c.in-Some.slot (sym c.requires ∙ c.in-Some.is) in
    let held = has_at name stock.ads beside.place beside.advert beside.at (sym (named name beside.advert beside.passes)) in
    withdrawn_stock c.withdraw.result name stock (stock_of c.withdraw.new.self) held c.withdraw.ensures.ads c.withdraw.ensures.slots c.withdraw.ensures.none

pub returns-then-is_err-clause-small : goal.returns-then-is_err-clause-small
returns-then-is_err-clause-small g c =
    small-withdrawn c.withdraw.result c.args.name.now (stock_of c.args.store.now) (stock_of c.withdraw.new.self) c.withdraw.ensures.ads c.withdraw.ensures.err

pub returns-clause-all : goal.returns-clause-all
returns-clause-all g c = λ index.
    let stock : Stock = stock_of c.args.store.now in
    let slot = c.in-Some.slot in
    let round = rows-round c.args.name.now stock.ads stock.slots slot (sym c.requires ∙ c.in-Some.is) in
    let frames = here_frames stock.ads round.place round.old (ad_frames c.look.result.now) round.ad_there (c.look.ensures.ad round.place round.slot_there) in
    let others = subst (IsKept c.args.index.now) round.withdrawn index in
    let alone =
    alone-under stock.ads stock.slots round.before slot round.old.ad round.after (stock-length c.args.store.now) c.slots_are_apart.ensures round.rows in
    let added = on_ok c.add.result _ (sym c.is_err.ensures.value ∙ c.if-is_err.false) c.add.ensures.ok round.before round.after others alone in
    subst (IsKept c.add.new.self) (sym (round.rows ∙ ap (λ f. round.before ++ row_of slot f ∷ round.after) frames)) added
