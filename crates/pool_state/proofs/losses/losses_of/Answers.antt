use Rattle.std.proofs.Common.{◌≡◌, ◌∷◌, [], cond, is_some, List, ℕ, sym, ◌∙◌, ap}
use Rattle.ad_store.specs.Stock.{Stock, is_named}
use Rattle.ad_store.specs.Store.{stock_of}
use Rattle.pool_script.specs.declared.command.Command.TheVariants.{Withdraw}
use Rattle.pool_books.specs.Books.{queue_of, name_in}
use Rattle.pool_books.specs.Indexed.{ads_of}
use Rattle.pool_books.proofs.AdLemmas.{has_at, named, slot_beside-found, slot_beside-none, stock-length}
use Rattle.pool_books.proofs.HitLemmas.{if_ok}
use Rattle.pool_books.proofs.JobLemmas.{found-any}
use Rattle.pool_state.specs.Notices.{granted, had_by, losses}
use Rattle.pool_state.specs.declared.posting.Notice.{Notice}
use Rattle.pool_state.proofs.LossLemmas.{name-there}
use Rattle.pool_state.proofs.losses.losses_of.Goals as goal

pub returns-in_default : goal.returns-in_default
returns-in_default c =
    let books = c.args.books.now in
    let old : Stock = stock_of books.ads.store in
    let name = c.args.name.now in
    let none = slot_beside-none (is_named name) old.ads old.slots (stock-length books.ads.store) (sym c.in_default.ensures.slot) in
    c.new.ensures ∙ sym (ap (λ b. let l : List Notice = cond b (losses (queue_of books) (had_by (queue_of books) (name ∷ []))) [] in l)
    (sym (found-any (is_named name) old.ads) ∙ ap is_some none))

pub returns : goal.returns
returns c =
    let books = c.args.books.now in
    let queue = queue_of books in
    let old : Stock = stock_of books.ads.store in
    let name = c.args.name.now in
    let slot = c.in-Some.slot in
    let found = slot_beside-found (is_named name) old.ads old.slots slot (sym c.in-Some.ensures.slot) in
    let called = sym (named name found.advert found.passes) in
    let held = has_at name old.ads found.place found.advert found.at called in
    let same : name_in old slot ≡ name = name-there old c.slots_are_apart.ensures found.place slot found.advert found.slot_at found.at ∙ called in
    let places = c.in_ok-places.ensures.places ∙ ap (λ (n : List ℕ). had_by queue (n ∷ [])) same in
    if_ok c.losses.result (λ list. list ≡ losses queue c.in_ok-places.places) (λ list. list ≡ granted (ads_of books.ads) queue (Withdraw name))
    (λ list is. is ∙ ap (losses queue) places ∙ sym (ap (λ b. let l : List Notice = cond b (losses queue (had_by queue (name ∷ []))) [] in l) held))
    c.losses.ensures
