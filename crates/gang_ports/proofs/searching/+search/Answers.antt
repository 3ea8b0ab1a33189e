use Rattle.std.proofs.Common.{◌≡◌, ◌<◌, ℕ, suc, List, take, true, get_or, length, arith, ap, refl, rules, sym, ◌∙◌, subst, IsSorted}
use Rattle.std.specs.List.{filter_map}
use Rattle.std.specs.List.Sorted.{IsPermutation}
use Rattle.ad_tree.specs.Ad.{ad_frames}
use Rattle.eval_scope.specs.Shown.{world_of}
use Rattle.eval_scope.specs.World.{PlainWorld}
use Rattle.gang_ports.specs.declared.searching.Ending.{Ending}
use Rattle.gang_ports.specs.declared.weighing.Candidate.{Candidate}
use Rattle.gang_ports.specs.declared.weighing.Side.{Side}
use Rattle.gang_ports.specs.Search.{Outcome, candidate_in, candidate_order, choice_in, is_spent}
use Rattle.gang_ports.proofs.ListLemmas.{length-more}
use Rattle.gang_ports.proofs.OpenLemmas.{behind-have, deeper-have, first-has, rest-have, whole-have}
use Rattle.gang_ports.proofs.SearchLemmas.{first-whole, outcome-whole, rest-fewer, some-first}
use Rattle.gang_ports.proofs.SmallLemmas.{rest-small, turn-small, whole-small}
use Rattle.gang_ports.proofs.TurnLemmas.{Begun, Trying, Weighed, asked_of, begun-takes, deeper, deeper-behind, deeper-leaves, deeper-over, deeper-takes}
use Rattle.gang_ports.proofs.TurnLemmas.{next-so-far, none-found, none-yet, so-far-leaves, so-far-takes}
use Rattle.gang_ports.proofs.searching.+search.Given.{Over}
use Rattle.gang_ports.proofs.searching.+search.Goals.{After-candidate-item, After-candidates, After-deref-candidate-items}
use Rattle.gang_ports.proofs.searching.+search.Goals as goal

-- ---- what is known at its places

abbrev begun : (g : Over) (t : ℕ) → After-candidates g t → Begun
begun g t c = record {
  w = world_of c.args.world.now;
  before = c.args.before.now.items;
  listed = c.as_slice.result.now;
  same = c.as_slice.ensures.value;
  sides = c.args.sides.now;
  some = some-first c.args.sides.now c.is_empty.result c.is_empty.ensures c.if-is_empty.false;
  spare = c.index-sides-0.result;
  new = c.candidates.new.side;
  tops = c.args.tops.now;
  entry = c.args.entry.now;
  tops_then = c.candidates.new.tops;
  entry_then = c.candidates.new.entry;
  evaluations = c.candidates.ensures.evaluations;
  entries = c.candidates.ensures.entries;
}

abbrev start : (g : Over) (t : ℕ) → After-deref-candidate-items g t → Begun
start g t c = begun g t (goal.at.loop-candidate-init g t c).After-candidates

abbrev tried : (g : Over) (t : ℕ) (c : After-deref-candidate-items g t) → Weighed (start g t c)
tried g t c =
    let side = get_or c.args.sides.now 0 c.index-sides-0.result in
    let w = world_of c.args.world.now in
    record {
      tries = c.deref-candidate-items.result.now;
      all =
          subst (λ (cs : List Candidate). IsPermutation (filter_map (candidate_in w c.as_slice.result.now) (asked_of side)) cs)
          (sym c.deref-candidate-items.ensures.value) c.in_ok-tries.ensures.all;
      ordered = subst (λ (cs : List Candidate). IsSorted candidate_order cs) (sym c.deref-candidate-items.ensures.value) c.in_ok-tries.ensures.ordered;
      free = c.candidates.ensures.free;
      kept = c.in_ok-tries.ensures.kept;
    }

abbrev trying : (g : Over) (t : ℕ) (c : After-candidate-item g t)
    → let e = (goal.at.with-deeper-requires g t c).After-deref-candidate-items in Trying (start g t e) (tried g t e)
trying g t c = record {
  i = c.loop-candidate.candidate-index;
  at = record {
    left = c.loop-candidate.others;
    places = c.loop-candidate.before.items;
    tops = c.loop-candidate.tops;
    entry = c.loop-candidate.entry;
  };
  long = c.loop-candidate.invariant.long;
  c = c.candidate-item.result;
  within = c.loop-candidate-test.true;
  is = c.candidate-item.is;
}

pub returns-then-is_empty-clause-outcome : goal.returns-then-is_empty-clause-outcome
returns-then-is_empty-clause-outcome g t c = λ pool h.
    let w = world_of c.args.world.now in
    let before = c.args.before.now.items in
    let none : length c.args.sides.now ≡ 0 = search rules in
    subst (λ (n : ℕ). Outcome (choice_in pool w) n before before Ending.Found) (sym none) (outcome-whole (choice_in pool w) before before refl)

pub returns-in_err-tries-clause-taken : goal.returns-in_err-tries-clause-taken
returns-in_err-tries-clause-taken g t c = λ pool h. begun-takes (begun g t (goal.at.returns-in_err-tries-clause-taken g t c).After-candidates) pool h

pub returns-in_err-tries-clause-ratio : goal.returns-in_err-tries-clause-ratio
returns-in_err-tries-clause-ratio g t c small are =
    let x = begun g t (goal.at.returns-in_err-tries-clause-ratio g t c).After-candidates in
    omega (arith, c.candidates.ensures.ratio small (are 0 x.spare x.some))

pub candidates-requires-clause-room : goal.candidates-requires-clause-room
candidates-requires-clause-room g t c =
    let some : 0 < length c.args.sides.now = some-first c.args.sides.now c.is_empty.result c.is_empty.ensures c.if-is_empty.false in
    omega (arith, c.requires.room, some)

pub candidates-requires-clause-tests : goal.candidates-requires-clause-tests
candidates-requires-clause-tests g t c =
    let w = world_of c.args.world.now in
    first-has w.request w.ports (length w.docked) c.args.sides.now c.index-sides-0.result
    (some-first c.args.sides.now c.is_empty.result c.is_empty.ensures c.if-is_empty.false) c.requires.tests

pub loop-candidate-init : goal.loop-candidate-init
loop-candidate-init g t c =
    let x = start g t c in
    record {
      long = refl;
      so_far = λ pool h. none-yet x pool h (tried g t c);
      small = λ are. rest-small x are;
      tests = rest-have x c.requires.tests;
      ratio = λ small are. omega arith;
    }

pub with-deeper-requires : goal.with-deeper-requires
with-deeper-requires g t c =
    let some : 0 < length c.args.sides.now = some-first c.args.sides.now c.is_empty.result c.is_empty.ensures c.if-is_empty.false in
    omega (arith, c.requires.room, some)

pub returns-in_err-push-clause-taken : goal.returns-in_err-push-clause-taken
returns-in_err-push-clause-taken g t c = λ pool h.
    let d = (goal.at.returns-in_err-push-clause-taken g t c).After-deref-candidate-items in
    so-far-takes (start g t d) pool h (tried g t d) (c.loop-candidate.invariant.so_far pool h)

pub returns-in_err-push-clause-ratio : goal.returns-in_err-push-clause-ratio
returns-in_err-push-clause-ratio g t c small are =
    let x = start g t (goal.at.returns-in_err-push-clause-ratio g t c).After-deref-candidate-items in
    omega (arith, c.candidates.ensures.ratio small (are 0 x.spare x.some), c.loop-candidate.invariant.ratio small are)

pub search-requires : goal.search-requires
search-requires g t c κs within =
    let w = world_of c.args.world.now in
    let below = world_of c.with-deeper.result in
    let ad = ad_frames c.candidate-item.result.ad.now in
    let x = start g t (goal.at.search-requires g t c).After-deref-candidate-items in
    let long : length below.docked ≡ suc (length w.docked) = ap (λ (u : PlainWorld). length u.docked) c.with-deeper.ensures ∙ length-more w.docked ad in
    let fewer : suc (length c.loop-candidate.others) ≡ length c.args.sides.now =
    rest-fewer x.sides x.new c.loop-candidate.others x.some c.loop-candidate.invariant.long in (
      omega (arith, c.decreases, fewer),
      (
        within.0,
        (
          within.1,
          (
            omega (arith, c.requires.room, fewer, long),
            deeper-have w below ad c.with-deeper.ensures c.loop-candidate.others c.loop-candidate.invariant.tests,
          ),
        ),
      ),
    )

pub returns-in_err-ending-clause-taken : goal.returns-in_err-ending-clause-taken
returns-in_err-ending-clause-taken g t c = λ pool h.
    let p = goal.at.returns-in_err-ending-clause-taken g t c in
    let x = start g t p.After-deref-candidate-items in
    let y = tried g t p.After-deref-candidate-items in
    let d = deeper (trying g t p.After-candidate-item) (world_of c.with-deeper.result) c.with-deeper.ensures c.push.new.self.items c.in_ok-push.ensures.items in
    let so = c.loop-candidate.invariant.so_far pool h in
    deeper-takes x pool h y d so (c.search.ensures.taken pool (deeper-behind x pool h y d so))

pub returns-in_err-ending-clause-ratio : goal.returns-in_err-ending-clause-ratio
returns-in_err-ending-clause-ratio g t c small are =
    let p = goal.at.returns-in_err-ending-clause-ratio g t c in
    let x = start g t p.After-deref-candidate-items in
    let y = tried g t p.After-deref-candidate-items in
    let d = deeper (trying g t p.After-candidate-item) (world_of c.with-deeper.result) c.with-deeper.ensures c.push.new.self.items c.in_ok-push.ensures.items in
    omega (
      arith,
      c.candidates.ensures.ratio small (are 0 x.spare x.some),
      c.loop-candidate.invariant.ratio small are,
      c.search.ensures.ratio (turn-small x y d small are) (c.loop-candidate.invariant.small are),
    )

pub returns-then-is_over-clause-outcome : goal.returns-then-is_over-clause-outcome
returns-then-is_over-clause-outcome g t c = λ pool h.
    let p = goal.at.returns-then-is_over-clause-outcome g t c in
    let x = start g t p.After-deref-candidate-items in
    let y = tried g t p.After-deref-candidate-items in
    let d = deeper (trying g t p.After-candidate-item) (world_of c.with-deeper.result) c.with-deeper.ensures c.push.new.self.items c.in_ok-push.ensures.items in
    let so = c.loop-candidate.invariant.so_far pool h in
    deeper-over x pool h y d so c.search.new.before.items c.in_ok-ending.ending (c.in_ok-ending.ensures.outcome pool (deeper-behind x pool h y d so))
    c.len-depth.result (c.len-depth.ensures ∙ c.args.before.now.ok.0) (sym c.is_over.ensures ∙ c.if-is_over.true)

pub returns-then-is_over-clause-left : goal.returns-then-is_over-clause-left
returns-then-is_over-clause-left g t c = λ pool h.
    let p = goal.at.returns-then-is_over-clause-left g t c in
    let x = start g t p.After-deref-candidate-items in
    let y = tried g t p.After-deref-candidate-items in
    let d = deeper (trying g t p.After-candidate-item) (world_of c.with-deeper.result) c.with-deeper.ensures c.push.new.self.items c.in_ok-push.ensures.items in
    let so = c.loop-candidate.invariant.so_far pool h in
    let behind = deeper-behind x pool h y d so in
    deeper-leaves x pool h y d so (c.search.ensures.taken pool behind) (c.in_ok-ending.ensures.left pool behind) c.search.auto.sides

pub returns-then-is_over-clause-taken : goal.returns-then-is_over-clause-taken
returns-then-is_over-clause-taken g t c = λ pool h.
    let p = goal.at.returns-then-is_over-clause-taken g t c in
    let x = start g t p.After-deref-candidate-items in
    let y = tried g t p.After-deref-candidate-items in
    let d = deeper (trying g t p.After-candidate-item) (world_of c.with-deeper.result) c.with-deeper.ensures c.push.new.self.items c.in_ok-push.ensures.items in
    let so = c.loop-candidate.invariant.so_far pool h in
    let behind = deeper-behind x pool h y d so in
    deeper-takes x pool h y d so (c.search.ensures.taken pool behind)

pub returns-then-is_over-clause-small : goal.returns-then-is_over-clause-small
returns-then-is_over-clause-small g t c are =
    let d = (goal.at.returns-then-is_over-clause-small g t c).After-deref-candidate-items in
    whole-small (start g t d) (tried g t d) c.search.new.sides (c.search.auto.sides ∙ c.loop-candidate.invariant.long) are
    (c.in_ok-ending.ensures.small (c.loop-candidate.invariant.small are))

pub returns-then-is_over-clause-tests : goal.returns-then-is_over-clause-tests
returns-then-is_over-clause-tests g t c =
    let d = (goal.at.returns-then-is_over-clause-tests g t c).After-deref-candidate-items in
    whole-have (start g t d) c.requires.tests (tried g t d) c.search.new.sides (c.search.auto.sides ∙ c.loop-candidate.invariant.long)
    (behind-have (world_of c.args.world.now) (world_of c.with-deeper.result) (ad_frames c.candidate-item.result.ad.now) c.with-deeper.ensures
    c.search.new.sides c.in_ok-ending.ensures.tests)

pub returns-then-is_over-clause-ratio : goal.returns-then-is_over-clause-ratio
returns-then-is_over-clause-ratio g t c small are =
    let p = goal.at.returns-then-is_over-clause-ratio g t c in
    let x = start g t p.After-deref-candidate-items in
    let y = tried g t p.After-deref-candidate-items in
    let d = deeper (trying g t p.After-candidate-item) (world_of c.with-deeper.result) c.with-deeper.ensures c.push.new.self.items c.in_ok-push.ensures.items in
    omega (
      arith,
      c.candidates.ensures.ratio small (are 0 x.spare x.some),
      c.loop-candidate.invariant.ratio small are,
      c.search.ensures.ratio (turn-small x y d small are) (c.loop-candidate.invariant.small are),
    )

pub loop-candidate-preserved : goal.loop-candidate-preserved
loop-candidate-preserved g t c =
    let p = goal.at.loop-candidate-preserved g t c in
    let x = start g t p.After-deref-candidate-items in
    let y = tried g t p.After-deref-candidate-items in
    let d = deeper (trying g t p.After-candidate-item) (world_of c.with-deeper.result) c.with-deeper.ensures c.push.new.self.items c.in_ok-push.ensures.items in
    record {
      long = omega (arith, c.search.auto.sides, c.loop-candidate.invariant.long);
      so_far = λ pool h.
          let so = c.loop-candidate.invariant.so_far pool h in
          let behind = deeper-behind x pool h y d so in
          next-so-far x pool h y d so (c.search.ensures.taken pool behind) (c.in_ok-ending.ensures.left pool behind)
          c.in_ok-ending.ending c.search.new.before.items (c.in_ok-ending.ensures.outcome pool behind)
          c.len-depth.result (c.len-depth.ensures ∙ c.args.before.now.ok.0) (sym c.is_over.ensures ∙ c.if-is_over.false)
          c.truncate.new.self.items c.truncate.ensures.items;
      small = λ are. c.in_ok-ending.ensures.small (c.loop-candidate.invariant.small are);
      tests = behind-have x.w d.w (ad_frames d.on.c.ad.now) d.docked c.search.new.sides c.in_ok-ending.ensures.tests;
      ratio = λ small are.
          let here = c.search.ensures.ratio (turn-small x y d small are) (c.loop-candidate.invariant.small are) in
          omega (arith, c.loop-candidate.invariant.ratio small are, here);
    }

pub returns-clause-outcome : goal.returns-clause-outcome
returns-clause-outcome g t c = λ pool h.
    let e = (goal.at.returns-clause-outcome g t c).After-deref-candidate-items in
    let x = start g t e in
    let so = c.loop-candidate.invariant.so_far pool h in
    let many = c.blamed_places.result in
    let there : c.as_slice-2.result.now ≡ x.before = c.as_slice-2.ensures.value ∙ so.same in
    let first_now = first-whole x.sides x.new c.loop-candidate.others x.some c.loop-candidate.invariant.long in
    none-found x pool h (tried g t e) so c.loop-candidate-test.false many
    (λ low. subst (λ (ps : List ℕ). is_spent (take many ps) x.new ≡ true) there
    (subst (λ (xs : List Side). is_spent (take many c.as_slice-2.result.now) (get_or xs 0 c.index-sides-0-2.result) ≡ true) first_now
    (c.blamed_places.ensures.spent (subst (λ (ps : List ℕ). many < length ps) (sym there) low))))

pub returns-clause-left : goal.returns-clause-left
returns-clause-left g t c = λ pool h.
    let d = (goal.at.returns-clause-left g t c).After-deref-candidate-items in
    so-far-leaves (start g t d) pool h (tried g t d) (c.loop-candidate.invariant.so_far pool h) c.loop-candidate.invariant.long

pub returns-clause-taken : goal.returns-clause-taken
returns-clause-taken g t c = λ pool h.
    let d = (goal.at.returns-clause-taken g t c).After-deref-candidate-items in
    so-far-takes (start g t d) pool h (tried g t d) (c.loop-candidate.invariant.so_far pool h)

pub returns-clause-small : goal.returns-clause-small
returns-clause-small g t c are =
    let d = (goal.at.returns-clause-small g t c).After-deref-candidate-items in
    whole-small (start g t d) (tried g t d) c.loop-candidate.others c.loop-candidate.invariant.long are (c.loop-candidate.invariant.small are)

pub returns-clause-tests : goal.returns-clause-tests
returns-clause-tests g t c =
    let d = (goal.at.returns-clause-tests g t c).After-deref-candidate-items in
    whole-have (start g t d) c.requires.tests (tried g t d) c.loop-candidate.others c.loop-candidate.invariant.long c.loop-candidate.invariant.tests

pub returns-clause-ratio : goal.returns-clause-ratio
returns-clause-ratio g t c small are =
    let x = start g t (goal.at.returns-clause-ratio g t c).After-deref-candidate-items in
    omega (arith, c.candidates.ensures.ratio small (are 0 x.spare x.some), c.loop-candidate.invariant.ratio small are)
