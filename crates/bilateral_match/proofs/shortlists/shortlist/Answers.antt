use Rattle.std.proofs.Common.{◌<◌, All, List, length, subst, sym}
use Rattle.std.proofs.lemmas.Result.{IfOk-weaker}
use Rattle.std.specs.List.Sorted.{IsPermutation}
use Rattle.bilateral_match.specs.declared.member.Member.{Member}
use Rattle.bilateral_match.specs.Scenes.{pool_in, request_in, stock_in}
use Rattle.bilateral_match.specs.Shortlists.{AreInOrder, IsShortlist}
use Rattle.bilateral_match.proofs.MeterLemmas.{searched}
use Rattle.bilateral_match.proofs.ShortlistLemmas.{found-within, shortlisted}
use Rattle.bilateral_match.proofs.shortlists.shortlist.Goals as goal

pub returns-in_err-found-clause-spent : goal.returns-in_err-found-clause-spent
returns-in_err-found-clause-spent g c =
    let scene = c.args.scene.now in
    let pool = pool_in g.H.Holdings.is_offered g.H.Holdings.holding scene in
    searched pool (request_in scene) c.in_ok-places.places c.in_ok-places.ensures.places c.members_at.ensures.spent

pub returns-clause-spent : goal.returns-clause-spent
returns-clause-spent g c =
    let scene = c.args.scene.now in
    let pool = pool_in g.H.Holdings.is_offered g.H.Holdings.holding scene in
    searched pool (request_in scene) c.in_ok-places.places c.in_ok-places.ensures.places c.members_at.ensures.spent

pub slots_in_order-requires : goal.slots_in_order-requires
slots_in_order-requires g c =
    let scene = c.args.scene.now in
    let pool = pool_in g.H.Holdings.is_offered g.H.Holdings.holding scene in
    let slots = (stock_in scene).slots in
    let found = found-within pool (request_in scene) scene.number (length slots) c.in_ok-places.places c.in_ok-places.ensures.held in
    subst (λ (ms : List Member). All (λ (m : Member). m.place < length slots) ms) (sym c.in_ok-found.ensures.found) found

pub returns-clause-best : goal.returns-clause-best
returns-clause-best g c =
    let scene = c.args.scene.now in
    let stock = stock_in scene in
    let offered = g.H.Holdings.is_offered scene.held.now in
    let holding = g.H.Holdings.holding scene.held.now in
    let request = request_in scene in
    IfOk-weaker c.slots_in_order.result (AreInOrder stock c.in_ok-found.found.items)
    (IsShortlist scene.moment stock offered holding request scene.number)
    (λ slots (sorted, moved, ordered, are).
    shortlisted scene.moment stock offered holding request scene.number c.in_ok-places.places sorted slots c.in_ok-places.ensures.places
    (subst (λ (ms : List Member). IsPermutation ms sorted) c.in_ok-found.ensures.found moved) ordered are)
    c.slots_in_order.ensures.slots
