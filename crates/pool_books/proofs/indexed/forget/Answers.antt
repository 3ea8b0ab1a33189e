use Rattle.std.proofs.Common.{◌++◌, ◌∷◌, sym, ◌∙◌, ap, subst}
use Rattle.ad_store.specs.Stock.{Stock}
use Rattle.ad_store.specs.Store.{stock_of}
use Rattle.ad_tree.specs.Ad.{ad_frames}
use Rattle.literal_index.specs.Rows.{row_of}
use Rattle.literal_index.specs.Shown.{IsKept}
use Rattle.ad_candidates.proofs.RowLemmas.{rows-round}
use Rattle.pool_books.proofs.IndexLemmas.{here_frames, rows-unnamed}
use Rattle.pool_books.proofs.indexed.forget.Goals as goal

pub returns-clause-others : goal.returns-clause-others
returns-clause-others g c = λ index.
    let stock : Stock = stock_of c.args.store.now in
    let slot = c.in_ok-slot.slot in
    let round = rows-round c.args.name.now stock.ads stock.slots slot (sym c.in_ok-slot.ensures.slot) in
    let frames = here_frames stock.ads round.place round.old (ad_frames c.look.result.now) round.ad_there (c.look.ensures.ad round.place round.slot_there) in
    let parted = subst (IsKept c.args.index.now) (round.rows ∙ ap (λ f. round.before ++ row_of slot f ∷ round.after) frames) index in
    subst (IsKept c.remove.new.self) (sym round.withdrawn) (c.remove.ensures round.before round.after parted)

pub returns-in_err-slot-clause-others : goal.returns-in_err-slot-clause-others
returns-in_err-slot-clause-others g c = λ index.
    let stock : Stock = stock_of c.args.store.now in
    subst (IsKept c.args.index.now) (sym (rows-unnamed c.args.name.now stock.ads stock.slots (sym c.in_err-slot.ensures.slot))) index
