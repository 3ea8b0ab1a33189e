use Rattle.std.proofs.Common.{◌≡◌, All, is_some, map, sym, ◌∙◌, ap, subst}
use Rattle.ad_store.specs.Stock.{Stock, has, is_named, slots_without, without}
use Rattle.ad_store.specs.Store.{stock_of}
use Rattle.ad_store.proofs.HeldLemmas.{without-absent}
use Rattle.claim_table.specs.Table.{jobs_of}
use Rattle.pool_books.specs.Books.{queued}
use Rattle.pool_books.specs.Ports.{HasOwnPorts}
use Rattle.pool_books.specs.Stored.{are_stored}
use Rattle.pool_books.proofs.AdLemmas.{has_at, named, slot_beside-found, slot_beside-none, stock-length, withdrawn}
use Rattle.pool_books.proofs.JobLemmas.{found-any, queue-freed, stays}
use Rattle.pool_books.proofs.NameLemmas.{AreBeside}
use Rattle.pool_books.proofs.QueueLemmas.{RequestIs, freed-kept, freed-stored, lost-each}
use Rattle.pool_books.proofs.SmallLemmas.{IsSmallRequest}
use Rattle.pool_books.proofs.books.Books.withdraw.Goals as goal

pub returns-in_default-clause-held : goal.returns-in_default-clause-held
returns-in_default-clause-held g c =
    let old : Stock = stock_of c.args.self.now.ads.store in
    let none = slot_beside-none (is_named c.args.name.now) old.ads old.slots (stock-length c.args.self.now.ads.store) (sym c.in_default.ensures.slot) in
    sym (sym (found-any (is_named c.args.name.now) old.ads) ∙ ap is_some none)

pub returns-in_default-clause-ads : goal.returns-in_default-clause-ads
returns-in_default-clause-ads g c =
    let old : Stock = stock_of c.args.self.now.ads.store in
    let none = slot_beside-none (is_named c.args.name.now) old.ads old.slots (stock-length c.args.self.now.ads.store) (sym c.in_default.ensures.slot) in
    sym (without-absent c.args.name.now old.ads (sym (found-any (is_named c.args.name.now) old.ads) ∙ ap is_some none))

pub invariant_of-self-2 : goal.invariant_of-self-2
invariant_of-self-2 g c =
    let books = c.args.self.now in
    let name = c.args.name.now in
    let old : Stock = stock_of books.ads.store in
    let new : Stock = stock_of c.withdraw.new.self.store in
    let jobs = jobs_of books.claims in
    let slot = c.in-Some.slot in
    let beside : AreBeside old.ads old.slots =
    record { long = stock-length books.ads.store; names = c.names_are_apart.ensures; apart = c.slots_are_apart.ensures } in
    let found = slot_beside-found (is_named name) old.ads old.slots slot (sym c.in-Some.ensures.slot) in
    let called = sym (named name found.advert found.passes) in
    let held = has_at name old.ads found.place found.advert found.at called in
    let ads = withdrawn c.withdraw.result (new.ads ≡ without name old.ads) (has name old.ads) held c.withdraw.ensures.ads c.withdraw.ensures.none in
    let slots =
    withdrawn c.withdraw.result (new.slots ≡ slots_without name old.ads old.slots) (has name old.ads) held c.withdraw.ensures.slots
    c.withdraw.ensures.none in
    let lost = c.in_ok-_freed.ensures.ok ∙ lost-each slot jobs c.resources_are_apart.ensures.offers c.resources_are_apart.ensures.claims in
    record {
      listed =
          ap (are_stored new.slots) lost ∙ freed-stored old.slots new.slots slot (stays name old new beside slot found.place found.advert found.at found.slot_at
          called (sym c.in-Some.ensures.slot) ads slots) jobs books.listed;
      owned = subst (All (RequestIs HasOwnPorts)) (sym lost) (freed-kept HasOwnPorts slot jobs books.owned);
      small = subst (All (RequestIs IsSmallRequest)) (sym lost) (freed-kept IsSmallRequest slot jobs books.small);
    }

pub returns-clause-held : goal.returns-clause-held
returns-clause-held g c =
    let old : Stock = stock_of c.args.self.now.ads.store in
    let found = slot_beside-found (is_named c.args.name.now) old.ads old.slots c.in-Some.slot (sym c.in-Some.ensures.slot) in
    sym (has_at c.args.name.now old.ads found.place found.advert found.at (sym (named c.args.name.now found.advert found.passes)))

pub returns-clause-ads : goal.returns-clause-ads
returns-clause-ads g c =
    let name = c.args.name.now in
    let old : Stock = stock_of c.args.self.now.ads.store in
    let new : Stock = stock_of c.withdraw.new.self.store in
    let found = slot_beside-found (is_named name) old.ads old.slots c.in-Some.slot (sym c.in-Some.ensures.slot) in
    let held = has_at name old.ads found.place found.advert found.at (sym (named name found.advert found.passes)) in
    withdrawn c.withdraw.result (new.ads ≡ without name old.ads) (has name old.ads) held c.withdraw.ensures.ads c.withdraw.ensures.none

pub returns-clause-slots : goal.returns-clause-slots
returns-clause-slots g c = λ _.
    let name = c.args.name.now in
    let old : Stock = stock_of c.args.self.now.ads.store in
    let new : Stock = stock_of c.withdraw.new.self.store in
    let found = slot_beside-found (is_named name) old.ads old.slots c.in-Some.slot (sym c.in-Some.ensures.slot) in
    let held = has_at name old.ads found.place found.advert found.at (sym (named name found.advert found.passes)) in
    withdrawn c.withdraw.result (new.slots ≡ slots_without name old.ads old.slots) (has name old.ads) held c.withdraw.ensures.slots c.withdraw.ensures.none

pub returns-clause-jobs : goal.returns-clause-jobs
returns-clause-jobs g c = λ _.
    let books = c.args.self.now in
    let name = c.args.name.now in
    let old : Stock = stock_of books.ads.store in
    let new : Stock = stock_of c.withdraw.new.self.store in
    let jobs = jobs_of books.claims in
    let slot = c.in-Some.slot in
    let beside : AreBeside old.ads old.slots =
    record { long = stock-length books.ads.store; names = c.names_are_apart.ensures; apart = c.slots_are_apart.ensures } in
    let found = slot_beside-found (is_named name) old.ads old.slots slot (sym c.in-Some.ensures.slot) in
    let called = sym (named name found.advert found.passes) in
    let held = has_at name old.ads found.place found.advert found.at called in
    let ads = withdrawn c.withdraw.result (new.ads ≡ without name old.ads) (has name old.ads) held c.withdraw.ensures.ads c.withdraw.ensures.none in
    let slots =
    withdrawn c.withdraw.result (new.slots ≡ slots_without name old.ads old.slots) (has name old.ads) held c.withdraw.ensures.slots
    c.withdraw.ensures.none in
    ap (map (queued new)) (c.in_ok-_freed.ensures.ok ∙ lost-each slot jobs c.resources_are_apart.ensures.offers c.resources_are_apart.ensures.claims)
    ∙ queue-freed name old new beside slot found.place found.advert found.at found.slot_at called (sym c.in-Some.ensures.slot) ads slots jobs books.listed
