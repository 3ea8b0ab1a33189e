use Rattle.std.proofs.Common.{◌≡◌, ◌∙◌}
use Rattle.ad_store.specs.Store.{stock_of}
use Rattle.pool_books.specs.Books.{name_in}
use Rattle.pool_books.proofs.HitLemmas.{if_ok}
use Rattle.pool_books.proofs.SlotLemmas.{name-in}
use Rattle.pool_books.proofs.naming.name_of.Goals as goal

pub returns : goal.returns
returns c =
    let stock = stock_of c.args.store.now in
    if_ok c.copy.result _ (λ name. name ≡ name_in stock c.args.slot) (λ name is. is ∙ name-in stock c.args.slot c.name.result.now c.requires c.name.ensures)
    c.copy.ensures.text
