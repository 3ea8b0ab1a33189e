use Rattle.std.proofs.Common.{◌≡◌, ◌<◌, ◌≤◌, ◌+◌, ◌*◌, ◌≢◌, [], ℕ, suc, All, List, Some, true, length, map, option_map, ap}
use Rattle.std.proofs.Common.{arith, sym, subst, ◌∙◌}
use Rattle.std.proofs.lemmas.List.{length-map}
use Rattle.ad_tree.specs.Ad.{ad_frames}
use Rattle.ad_tree.specs.Small.{IsSmall}
use Rattle.ad_store.specs.Store.{stock_of}
use Rattle.eval_scope.specs.Shown.{world_of}
use Rattle.eval_scope.specs.World.{PlainWorld, port_frame}
use Rattle.dock_match.specs.Pool.{Pool, pool_of, slot_at}
use Rattle.dock_match.specs.Small.{AreSmallAds}
use Rattle.gang_ports.specs.Gangs.{open_places}
use Rattle.gang_ports.specs.Search.{HaveSides, has_empty}
use Rattle.gang_ports.proofs.EmptyLemmas.{all-open, gang-empty}
use Rattle.gang_ports.proofs.WholeLemmas.{Started, TakesInAll, found-whole, from-nothing, in-all, none-whole, sides-small, start-small, within-whole}
use Rattle.gang_ports.proofs.gangs.first_gang.Given.{Over}
use Rattle.gang_ports.proofs.gangs.first_gang.Goals.{After-search-searched}
use Rattle.gang_ports.proofs.gangs.first_gang.Goals as goal

-- ---- what is known once it has searched

abbrev pool : (g : Over) → After-search-searched g → Pool
pool g c = pool_of c.args.moment (stock_of c.args.store.now) (g.H.Holdings.is_offered c.args.held.now) (g.H.Holdings.holding c.args.held.now)

abbrev begun : (g : Over) (c : After-search-searched g) → Started (pool g c) (ad_frames c.args.request.now.ad) c.args.request.now.ports
begun g c = record {
  w = world_of c.new-world.result;
  world = c.new-world.ensures;
  before = c.new-places.result.items;
  none = c.new-places.ensures.items;
  sides = c.as_mut_slice.result.now;
  listed = c.in_ok-sides.sides.items;
  same = c.as_mut_slice.ensures.value;
  are = c.in_ok-sides.ensures.sides;
  many = c.in_ok-sides.ensures.many;
}

taken : (g : Over) (c : After-search-searched g) → TakesInAll (pool g c) (ad_frames c.args.request.now.ad) c.args.request.now.ports
    c.args.tops.now c.args.entry.now c.search-searched.new.tops c.search-searched.new.entry
taken g c = in-all (begun g c) (c.search-searched.ensures.taken (pool g c) (from-nothing (begun g c)))

ratio : (g : Over) (c : After-search-searched g) → IsSmall (ad_frames c.args.request.now.ad) → AreSmallAds (stock_of c.args.store.now).ads
    → c.search-searched.new.entry + 9216 * c.args.tops.now ≤ c.args.entry.now + 9216 * c.search-searched.new.tops
ratio g c small stored = c.search-searched.ensures.ratio (start-small (begun g c) small) (sides-small (begun g c) stored)

-- each port's dock may be true with some resource
none-empty : (g : Over) (c : After-search-searched g) (i : ℕ) → i < length c.args.request.now.ports
    → open_places (pool g c) (ad_frames c.args.request.now.ad) c.args.request.now.ports (port_frame c.args.request.now.ports (suc i)) ≢ []
none-empty g c =
    let full = ap has_empty (sym c.as_slice.ensures.value) ∙ sym c.has_empty.ensures ∙ c.if-has_empty.false in
    all-open (pool g c) (ad_frames c.args.request.now.ad) c.args.request.now.ports c.in_ok-sides.sides.items c.in_ok-sides.ensures.sides
    c.in_ok-sides.ensures.many full

-- ---- the goals

pub search-searched-requires-clause-tests : goal.search-searched-requires-clause-tests
search-searched-requires-clause-tests g c =
    let sides = c.as_mut_slice.result.now in
    subst (λ (w : PlainWorld). HaveSides w.request w.ports (length w.docked) sides) (sym c.new-world.ensures)
    (subst (HaveSides (ad_frames c.args.request.now.ad) c.args.request.now.ports 0) (sym c.as_mut_slice.ensures.value) c.in_ok-sides.ensures.tests)

pub returns-then-has_empty-clause-gang : goal.returns-then-has_empty-clause-gang
returns-then-has_empty-clause-gang g c =
    let stock = stock_of c.args.store.now in
    let pool : Pool = pool_of c.args.moment stock (g.H.Holdings.is_offered c.args.held.now) (g.H.Holdings.holding c.args.held.now) in
    let empty : has_empty c.in_ok-sides.sides.items ≡ true =
    ap has_empty (sym c.as_slice.ensures.value) ∙ sym c.has_empty.ensures ∙ c.if-has_empty.true in
    ap (option_map (map (slot_at stock)))
    (sym (gang-empty pool (ad_frames c.args.request.now.ad) c.args.request.now.ports c.in_ok-sides.sides.items c.in_ok-sides.ensures.sides
    c.in_ok-sides.ensures.many empty))

pub returns-then-not-is_found-clause-gang : goal.returns-then-not-is_found-clause-gang
returns-then-not-is_found-clause-gang g c =
    let s = begun g (goal.at.returns-then-not-is_found-clause-gang g c).After-search-searched in
    let o = c.in_ok-ending.ensures.outcome _ (from-nothing s) in
    ap (option_map (map (slot_at (stock_of c.args.store.now))))
    (sym (none-whole s c.search-searched.new.before.items c.in_ok-ending.ending o (sym c.is_found.ensures ∙ c.if-not-is_found.true)))

pub slots_at-requires : goal.slots_at-requires
slots_at-requires g c =
    let stock = stock_of c.args.store.now in
    let s = begun g (goal.at.slots_at-requires g c).After-search-searched in
    let o = c.in_ok-ending.ensures.outcome _ (from-nothing s) in
    let fits : length stock.ads ≤ length stock.slots = simp length-map (omega arith) in
    subst (λ (places : List ℕ). All (λ place. place < length stock.slots) places) (sym c.as_slice-2.ensures.value)
    (within-whole s c.search-searched.new.before.items c.in_ok-ending.ending o (sym c.is_found.ensures ∙ c.if-not-is_found.false) (length stock.slots) fits)

pub returns-clause-gang : goal.returns-clause-gang
returns-clause-gang g c =
    let stock = stock_of c.args.store.now in
    let s = begun g (goal.at.returns-clause-gang g c).After-search-searched in
    let o = c.in_ok-ending.ensures.outcome _ (from-nothing s) in
    ap (λ (slots : List ℕ). Some slots) (c.in_ok-slots_at.ensures ∙ ap (map (slot_at stock)) c.as_slice-2.ensures.value)
    ∙ ap (option_map (map (slot_at stock)))
    (sym (found-whole s c.search-searched.new.before.items c.in_ok-ending.ending o (sym c.is_found.ensures ∙ c.if-not-is_found.false)))

pub returns-in_err-ending-clause-evaluations : goal.returns-in_err-ending-clause-evaluations
returns-in_err-ending-clause-evaluations g c = (taken g (goal.at.returns-in_err-ending-clause-evaluations g c).After-search-searched).evaluations

pub returns-in_err-ending-clause-once : goal.returns-in_err-ending-clause-once
returns-in_err-ending-clause-once g c = (taken g (goal.at.returns-in_err-ending-clause-once g c).After-search-searched).once

pub returns-in_err-ending-clause-entries : goal.returns-in_err-ending-clause-entries
returns-in_err-ending-clause-entries g c = (taken g (goal.at.returns-in_err-ending-clause-entries g c).After-search-searched).entries

pub returns-in_err-ending-clause-ratio : goal.returns-in_err-ending-clause-ratio
returns-in_err-ending-clause-ratio g c = ratio g (goal.at.returns-in_err-ending-clause-ratio g c).After-search-searched

pub returns-in_err-ending-clause-empty : goal.returns-in_err-ending-clause-empty
returns-in_err-ending-clause-empty g c i within none =
    absurd (none-empty g (goal.at.returns-in_err-ending-clause-empty g c).After-search-searched i within none)

pub returns-then-not-is_found-clause-evaluations : goal.returns-then-not-is_found-clause-evaluations
returns-then-not-is_found-clause-evaluations g c = (taken g (goal.at.returns-then-not-is_found-clause-evaluations g c).After-search-searched).evaluations

pub returns-then-not-is_found-clause-once : goal.returns-then-not-is_found-clause-once
returns-then-not-is_found-clause-once g c = (taken g (goal.at.returns-then-not-is_found-clause-once g c).After-search-searched).once

pub returns-then-not-is_found-clause-entries : goal.returns-then-not-is_found-clause-entries
returns-then-not-is_found-clause-entries g c = (taken g (goal.at.returns-then-not-is_found-clause-entries g c).After-search-searched).entries

pub returns-then-not-is_found-clause-ratio : goal.returns-then-not-is_found-clause-ratio
returns-then-not-is_found-clause-ratio g c = ratio g (goal.at.returns-then-not-is_found-clause-ratio g c).After-search-searched

pub returns-then-not-is_found-clause-empty : goal.returns-then-not-is_found-clause-empty
returns-then-not-is_found-clause-empty g c i within none =
    absurd (none-empty g (goal.at.returns-then-not-is_found-clause-empty g c).After-search-searched i within none)

pub returns-in_err-slots_at-clause-evaluations : goal.returns-in_err-slots_at-clause-evaluations
returns-in_err-slots_at-clause-evaluations g c = (taken g (goal.at.returns-in_err-slots_at-clause-evaluations g c).After-search-searched).evaluations

pub returns-in_err-slots_at-clause-once : goal.returns-in_err-slots_at-clause-once
returns-in_err-slots_at-clause-once g c = (taken g (goal.at.returns-in_err-slots_at-clause-once g c).After-search-searched).once

pub returns-in_err-slots_at-clause-entries : goal.returns-in_err-slots_at-clause-entries
returns-in_err-slots_at-clause-entries g c = (taken g (goal.at.returns-in_err-slots_at-clause-entries g c).After-search-searched).entries

pub returns-in_err-slots_at-clause-ratio : goal.returns-in_err-slots_at-clause-ratio
returns-in_err-slots_at-clause-ratio g c = ratio g (goal.at.returns-in_err-slots_at-clause-ratio g c).After-search-searched

pub returns-in_err-slots_at-clause-empty : goal.returns-in_err-slots_at-clause-empty
returns-in_err-slots_at-clause-empty g c i within none =
    absurd (none-empty g (goal.at.returns-in_err-slots_at-clause-empty g c).After-search-searched i within none)

pub returns-clause-evaluations : goal.returns-clause-evaluations
returns-clause-evaluations g c = (taken g (goal.at.returns-clause-evaluations g c).After-search-searched).evaluations

pub returns-clause-once : goal.returns-clause-once
returns-clause-once g c = (taken g (goal.at.returns-clause-once g c).After-search-searched).once

pub returns-clause-entries : goal.returns-clause-entries
returns-clause-entries g c = (taken g (goal.at.returns-clause-entries g c).After-search-searched).entries

pub returns-clause-ratio : goal.returns-clause-ratio
returns-clause-ratio g c = ratio g (goal.at.returns-clause-ratio g c).After-search-searched

pub returns-clause-empty : goal.returns-clause-empty
returns-clause-empty g c i within none = absurd (none-empty g (goal.at.returns-clause-empty g c).After-search-searched i within none)
