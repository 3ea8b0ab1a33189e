-- A turn of a search: the resources of its first port are weighed, and it goes on behind each of them that docks.
use Rattle.std.proofs.Common.{◌≡◌, ◌<◌, ◌≤◌, ◌+◌, ◌-◌, ℕ, suc, Bool, true, false, refl, List, [], ◌∷◌, ◌++◌, length, map}
use Rattle.std.proofs.Common.{get_or, take, set, sum_by, below_more, ap, sym, ◌∙◌, subst, arith, append_assoc, nat_lt, IsSorted}
use Rattle.std.specs.List.{filter_map}
use Rattle.std.specs.List.Sorted.{IsPermutation}
use Rattle.std.proofs.Math.Seq.{take-append_seam}
use borrow.Rule.Slice.PartMut.{put_mid}
use Rattle.std.proofs.lemmas.Bool.Decides.{nat_tests}
use Rattle.std.proofs.lemmas.List.{append-nil}
use Rattle.ad_tree.specs.Ad.{ad_frames}
use Rattle.eval_scope.specs.World.{PlainWorld, port_frame, with_docked}
use Rattle.dock_match.specs.Pool.{Pool}
use Rattle.gang_ports.specs.declared.searching.Ending.{Ending}
use Rattle.gang_ports.specs.declared.weighing.Candidate.{Candidate}
use Rattle.gang_ports.specs.declared.weighing.Resource.{Resource}
use Rattle.gang_ports.specs.declared.weighing.Side.{Side}
use Rattle.gang_ports.specs.Choice.{Choice, next, over_prefixes, tuples}
use Rattle.gang_ports.specs.Gangs.{attributes_behind, evaluations_behind, open_places}
use Rattle.gang_ports.specs.Search.{AreResources, AreSides, HasNoTuples, IsBehind, IsSide, IsWorth, Leaves, Outcome, Takes, attributes_of, candidate_in}
use Rattle.gang_ports.specs.Search.{candidate_order, choice_in, evaluations_anew, evaluations_in, is_over, is_spent, remembered, side_ahead, sides_ahead}
use Rattle.gang_ports.specs.Search.{weighed, weighed_in}
use Rattle.gang_ports.proofs.CountLemmas.{at-deeper, at-first, at-next, at-place, behind}
use Rattle.gang_ports.proofs.ListLemmas.{length-mapped, length-more, mapped-at}
use Rattle.gang_ports.proofs.SearchLemmas.{IsCandidate, ahead-cons, anew-same, attributes-are, attributes-same, behind-candidate, choice-same, evaluations-are}
use Rattle.gang_ports.proofs.SearchLemmas.{evaluations-same, first-cut, first-whole, outcome-found, outcome-none, place_of, rest_of, tries-are, tries-next}
use Rattle.gang_ports.proofs.SearchLemmas.{tries-ordered}
use Rattle.gang_ports.proofs.SideLemmas.{side-once, side-spent, side-weighed}
use Rattle.gang_ports.proofs.SpentLemmas.{none-whole, spent-above, spent-here}
use Rattle.gang_ports.proofs.WeighLemmas.{remembered-attributes, remembered-evaluations, remembered-weighed}

-- ---- what is known at a place of the search

abbrev pub asked_of : Side → List Resource
asked_of side = remembered side.is_free side.resources.items

-- the first port is weighed: the world, the places before (of which there is another list), the sides, the first of them as it is now, and what that took
pub record Begun : Type 0 where
  pub w : PlainWorld
  pub before : List ℕ
  pub listed : List ℕ
  pub same : listed ≡ before
  pub sides : List Side
  pub some : 0 < length sides
  pub spare : Side
  pub new : Side
  pub tops : ℕ
  pub entry : ℕ
  pub tops_then : ℕ
  pub entry_then : ℕ
  pub evaluations : tops_then ≤ tops + sum_by (evaluations_in listed) (asked_of (get_or sides 0 spare))
  pub entries : entry_then ≤ entry + sum_by (attributes_of w listed) (asked_of (get_or sides 0 spare))

abbrev pub first : Begun → Side
first x = get_or x.sides 0 x.spare

abbrev pub others : Begun → List Side
others x = rest_of x.sides x.new

-- all of them, once there are others behind the first one
abbrev pub whole : Begun → List Side → List Side
whole x left = put_mid 1 (length (set x.sides 0 x.new) - 1) (set x.sides 0 x.new) left

-- there was memory for its candidates
pub record Weighed (x : Begun) : Type 0 where
  pub tries : List Candidate
  pub all : IsPermutation (filter_map (candidate_in x.w x.listed) (asked_of (first x))) tries
  pub ordered : IsSorted candidate_order tries
  pub free : x.new.is_free ≡ (first x).is_free
  pub kept : x.new.resources.items ≡ map (weighed_in x.w x.listed) (asked_of (first x))

-- where the search is among them: the sides behind the first one, the places, and the counts
pub record Place : Type 0 where
  pub left : List Side
  pub places : List ℕ
  pub tops : ℕ
  pub entry : ℕ

-- nothing was found behind the first i of them, and going through them took no more than this
pub record SoFar (pool : Pool) (w : PlainWorld) (cs : List ℕ) (i : ℕ) (start at : Place) : Type 0 where
  pub same : at.places ≡ start.places
  pub sides : AreSides pool w.request w.ports (suc (length start.places)) at.left
  pub passed : (j : ℕ) → j < i → tuples (choice_in pool w) (length start.left) (start.places ++ get_or cs j 0 ∷ []) ≡ []
  pub evaluations : at.tops ≤ start.tops + behind (choice_in pool w) (evaluations_behind pool w.request w.ports) (length start.left) start.places (take i cs)
  pub once : at.tops + sides_ahead at.left
      ≤ start.tops + sides_ahead start.left + behind (choice_in pool w) (evaluations_anew pool w) (length start.left) start.places (take i cs)
  pub entries : at.entry ≤ start.entry + behind (choice_in pool w) (attributes_behind pool w.request w.ports) (length start.left) start.places (take i cs)

-- it is at candidate i
pub record Trying (x : Begun) (y : Weighed x) : Type 0 where
  pub i : ℕ
  pub at : Place
  pub long : length at.left ≡ length (others x)
  pub c : Candidate
  pub within : i < length y.tries
  pub is : c ≡ get_or y.tries i c

-- it goes on behind it: the world, and the places
pub record Deeper (x : Begun) (y : Weighed x) : Type 0 where
  pub on : Trying x y
  pub w : PlainWorld
  pub docked : w ≡ with_docked x.w (ad_frames on.c.ad.now)
  pub longer : List ℕ
  pub pushed : longer ≡ on.at.places ++ on.c.place ∷ []

abbrev pub deeper : {x : Begun} {y : Weighed x} (on : Trying x y) (w : PlainWorld) → w ≡ with_docked x.w (ad_frames on.c.ad.now)
    → (longer : List ℕ) → longer ≡ on.at.places ++ on.c.place ∷ [] → Deeper x y
deeper on w docked longer pushed = record { on = on; w = w; docked = docked; longer = longer; pushed = pushed }

-- ---- what a search that isn't over leaves

-- it has found nothing behind these places
not-over : (choice : Choice) (n : ℕ) (before after : List ℕ) (depth : ℕ) (e : Ending) → is_over depth e ≡ false → Outcome choice n before after e
    → ((rest : List ℕ) × (after ≡ before ++ rest)) × (tuples choice n before ≡ [])
not-over choice n before after depth Ending.Found over o = absurd (cc)
not-over choice n before after depth (Ending.NotFound many) over o = (o.0, o.1 before refl refl)

-- the places before the one that was added last
popped : (now longer before rest new : List ℕ) (p depth : ℕ) → now ≡ longer ++ rest → longer ≡ before ++ p ∷ [] → depth ≡ length before
    → new ≡ take depth now
    → new ≡ before
popped now longer before rest new p depth more added many cut =
    cut
    ∙ ap (λ (k : ℕ). take k now) many
    ∙ ap (take (length before)) (more ∙ ap (λ (b : List ℕ). b ++ rest) added ∙ append_assoc before (p ∷ []) rest)
    ∙ take-append_seam before (p ∷ rest)

module _ (x : Begun) (pool : Pool) (h : IsBehind pool x.w x.before x.sides) where
  abbrev choice : Choice
  choice = choice_in pool x.w

  abbrev anew : List ℕ → ℕ
  anew = evaluations_anew pool x.w

  cut : x.sides ≡ first x ∷ others x
  cut = first-cut x.sides x.new x.spare x.some

  all-sides : suc (length (others x)) ≡ length x.sides
  all-sides = sym (ap length cut)

  next_side : IsSide pool x.w.request x.w.ports (length x.before) (first x)
  next_side = (subst (AreSides pool x.w.request x.w.ports (length x.before)) cut h.sides).0

  next_port : AreResources pool (open_places pool x.w.request x.w.ports (port_frame x.w.ports (suc (length x.before)))) (first x).resources.items
  next_port = next_side.resources

  ports-left : AreSides pool x.w.request x.w.ports (suc (length x.before)) (others x)
  ports-left = (subst (AreSides pool x.w.request x.w.ports (length x.before)) cut h.sides).1

  ahead-cut : sides_ahead x.sides ≡ side_ahead (first x) + sides_ahead (others x)
  ahead-cut = ap sides_ahead cut ∙ ahead-cons (first x) (others x)

  -- ---- what weighing the first port took

  weighed-evaluations : x.tops_then ≤ x.tops + sum_by (evaluations_in x.before) (asked_of (first x))
  weighed-evaluations = subst (λ (b : List ℕ). x.tops_then ≤ x.tops + sum_by (evaluations_in b) (asked_of (first x))) x.same x.evaluations

  first-evaluations : x.tops_then ≤ x.tops + evaluations_behind pool x.w.request x.w.ports x.before
  first-evaluations =
      omega (
        arith,
        weighed-evaluations,
        remembered-evaluations x.w x.before (first x).is_free (first x).resources.items,
        evaluations-are pool x.w x.before h.world (first x).resources.items next_port,
      )

  first-entries : x.entry_then ≤ x.entry + attributes_behind pool x.w.request x.w.ports x.before
  first-entries =
      let total : sum_by (attributes_of x.w x.listed) (asked_of (first x)) ≡ attributes_behind pool x.w.request x.w.ports x.before =
      ap (λ (b : List ℕ). sum_by (attributes_of x.w b) (asked_of (first x))) x.same
      ∙ remembered-attributes x.w x.before (first x).is_free (first x).resources.items
      ∙ attributes-are pool x.w x.before h.world (first x).resources.items next_port in
      subst (λ n. x.entry_then ≤ x.entry + n) total x.entries

  -- what was ahead before it
  first-spent : x.tops_then ≤ x.tops + sides_ahead x.sides + anew x.before
  first-spent =
      omega (
        arith,
        side-spent pool x.w x.before h.world (first x) next_side x.tops x.tops_then
            (evaluations-are pool x.w x.before h.world (first x).resources.items next_port) weighed-evaluations,
        ahead-cut,
      )

  at-begin : (count : List ℕ → ℕ) (start now : ℕ) → now ≤ start + count x.before
      → now ≤ start + over_prefixes choice count (length x.sides) x.before
  at-begin count start now step =
      subst (λ n. now ≤ start + over_prefixes choice count n x.before) all-sides (at-first choice count (length (others x)) x.before start now step)

  pub begun-takes : Takes pool x.w x.before x.sides x.tops x.entry x.tops_then x.entry_then
  begun-takes = record {
    evaluations = at-begin (evaluations_behind pool x.w.request x.w.ports) x.tops x.tops_then first-evaluations;
    once = omega (arith, at-begin anew (x.tops + sides_ahead x.sides) x.tops_then first-spent);
    entries = at-begin (attributes_behind pool x.w.request x.w.ports) x.entry x.entry_then first-entries;
  }

  module _ (y : Weighed x) where
    abbrev cs : List ℕ
    cs = map place_of y.tries

    abbrev start : Place
    start = record { left = others x; places = x.before; tops = x.tops_then; entry = x.entry_then }

    all-weighed : IsPermutation (weighed x.w x.before (first x).resources.items) y.tries
    all-weighed = subst (λ (cs : List Candidate). IsPermutation cs y.tries) kept y.all
      where
        is-right : (first x).is_free ≡ true → (k : ℕ) (d : Resource) → k < length (first x).resources.items
            → IsWorth x.w (ad_frames (get_or (first x).resources.items k d).ad.now) (get_or (first x).resources.items k d).kept
        is-right e k d within =
            let r = get_or (first x).resources.items k d in
            subst (λ (u : PlainWorld). IsWorth u (ad_frames r.ad.now) r.kept) (sym h.world) (next_side.kept e k d within x.before refl)

        kept : filter_map (candidate_in x.w x.listed) (asked_of (first x)) ≡ weighed x.w x.before (first x).resources.items
        kept =
            ap (λ (b : List ℕ). filter_map (candidate_in x.w b) (asked_of (first x))) x.same
            ∙ remembered-weighed x.w x.before (first x).is_free (first x).resources.items (λ e k d within. is-right e k d within)

    in-order : IsPermutation (next choice x.before) cs
    in-order = tries-next pool x.w x.before h.world (first x).resources.items next_port y.tries all-weighed

    kept-here : x.new.resources.items ≡ map (weighed_in x.w x.before) (asked_of (first x))
    kept-here = y.kept ∙ ap (λ (b : List ℕ). map (weighed_in x.w b) (asked_of (first x))) x.same

    side-after : IsSide pool x.w.request x.w.ports (length x.before) x.new
    side-after = side-weighed pool x.w x.before h.world (first x) x.new next_side y.free kept-here

    first-once : x.tops_then + side_ahead x.new + sides_ahead (others x) ≤ x.tops + sides_ahead x.sides + anew x.before
    first-once =
        omega (
          arith,
          side-once pool x.w x.before h.world (first x) x.new next_side y.free kept-here x.tops x.tops_then
              (evaluations-are pool x.w x.before h.world (first x).resources.items next_port) weighed-evaluations,
          ahead-cut,
        )

    whole-leaves : (left : List Side) → length left ≡ length (others x) → (now : ℕ)
        → AreSides pool x.w.request x.w.ports (suc (length x.before)) left
        → now + side_ahead x.new + sides_ahead left ≤ x.tops + sides_ahead x.sides + over_prefixes choice anew (length x.sides) x.before
        → Leaves pool x.w x.before x.sides x.tops now (whole x left)
    whole-leaves left long now sides ahead =
        subst (Leaves pool x.w x.before x.sides x.tops now) (sym (first-whole x.sides x.new left x.some long))
        (record { are = (side-after, sides); ahead = omega (arith, ahead, ahead-cons x.new left) })

    -- ---- among the candidates

    pub none-yet : SoFar pool x.w cs 0 start start
    none-yet = record {
      same = refl;
      sides = ports-left;
      passed = λ j low. absurd (omega (arith, low));
      evaluations = omega arith;
      once = omega arith;
      entries = omega arith;
    }

    module _ {i : ℕ} {at : Place} (so : SoFar pool x.w cs i start at) where
      at-now : (count : List ℕ → ℕ) (begin weighed now : ℕ) → weighed ≤ begin + count x.before
          → now ≤ weighed + behind choice count (length (others x)) x.before (take i cs)
          → now ≤ begin + over_prefixes choice count (length x.sides) x.before
      at-now count begin weighed now first step =
          subst (λ n. now ≤ begin + over_prefixes choice count n x.before) all-sides
          (at-place choice count (length (others x)) x.before begin weighed first cs in-order i now step)

      -- with what is ahead at the first port
      with_own : at.tops + side_ahead x.new + sides_ahead at.left
          ≤ x.tops_then + side_ahead x.new + sides_ahead (others x) + behind choice anew (length (others x)) x.before (take i cs)
      with_own = omega (arith, so.once)

      ahead-now : at.tops + side_ahead x.new + sides_ahead at.left ≤ x.tops + sides_ahead x.sides + over_prefixes choice anew (length x.sides) x.before
      ahead-now =
          at-now anew (x.tops + sides_ahead x.sides) (x.tops_then + side_ahead x.new + sides_ahead (others x))
          (at.tops + side_ahead x.new + sides_ahead at.left) first-once with_own

      pub so-far-takes : Takes pool x.w x.before x.sides x.tops x.entry at.tops at.entry
      so-far-takes = record {
        evaluations = at-now (evaluations_behind pool x.w.request x.w.ports) x.tops x.tops_then at.tops first-evaluations so.evaluations;
        once = omega (arith, ahead-now);
        entries = at-now (attributes_behind pool x.w.request x.w.ports) x.entry x.entry_then at.entry first-entries so.entries;
      }

      pub so-far-leaves : length at.left ≡ length (others x)
          → Leaves pool x.w x.before x.sides x.tops at.tops (whole x at.left)
      so-far-leaves long = whole-leaves at.left long at.tops so.sides ahead-now

      -- where there is none behind this prefix, there may be none behind fewer of its places
      pub none-found : length y.tries ≤ i → (many : ℕ) → (many < length x.before → is_spent (take many x.before) x.new ≡ true)
          → Outcome choice (length x.sides) x.before at.places (Ending.NotFound many)
      none-found past many spent = (
        ([], so.same ∙ sym (append-nil x.before)),
        subst (λ (n : ℕ). HasNoTuples choice n x.before many) all-sides (by (nat_lt many (length x.before)) refl),
      )
        where
          by : (b : Bool) → nat_lt many (length x.before) ≡ b → HasNoTuples choice (suc (length (others x))) x.before many
          by true e = spent-here pool x.w.request x.w.ports (length (others x)) x.before x.new side-after many (spent (grind (arith, nat_tests)))
          by false e =
              none-whole choice (suc (length (others x))) x.before many (grind (arith, nat_tests))
              (outcome-none choice (length (others x)) x.before cs in-order
              (λ j within. so.passed j (omega (arith, within, past, length-mapped place_of y.tries))))

    -- ---- behind a candidate

    module _ (d : Deeper x y) (so : SoFar pool x.w cs d.on.i start d.on.at) where
      abbrev deep : List ℕ
      deep = x.before ++ d.on.c.place ∷ []

      is : d.longer ≡ deep
      is = d.pushed ∙ ap (λ (b : List ℕ). b ++ d.on.c.place ∷ []) so.same

      inside : d.on.i < length cs
      inside = omega (arith, d.on.within, length-mapped place_of y.tries)

      place-is : d.on.c.place ≡ get_or cs d.on.i 0
      place-is = ap place_of d.on.is ∙ sym (mapped-at place_of y.tries d.on.i 0 d.on.c d.on.within)

      is-candidate : IsCandidate pool x.w x.before h.world d.on.c
      is-candidate =
          subst (IsCandidate pool x.w x.before h.world) (sym d.on.is)
          (tries-are pool x.w x.before h.world (first x).resources.items next_port y.tries all-weighed d.on.i d.on.c d.on.within)

      pub deeper-behind : IsBehind pool d.w d.longer d.on.at.left
      deeper-behind =
          subst (λ b. IsBehind pool d.w b d.on.at.left) (sym is)
          (behind-candidate pool x.w x.before h.world d.on.c is-candidate d.w d.docked d.on.at.left so.sides)

      -- a count behind it, in the world of the prefix
      moved : (count : PlainWorld → List ℕ → ℕ)
          → ((n : ℕ) (b : List ℕ) → over_prefixes (choice_in pool d.w) (count d.w) n b ≡ over_prefixes choice (count x.w) n b)
          → over_prefixes (choice_in pool d.w) (count d.w) (length d.on.at.left) d.longer
          ≡ over_prefixes choice (count x.w) (length (others x)) (x.before ++ get_or cs d.on.i 0 ∷ [])
      moved count same =
          same (length d.on.at.left) d.longer
          ∙ ap (λ n. over_prefixes choice (count x.w) n d.longer) d.on.long
          ∙ ap (over_prefixes choice (count x.w) (length (others x))) (is ∙ ap (λ p. x.before ++ p ∷ []) place-is)

      evaluations-moved : over_prefixes (choice_in pool d.w) (evaluations_behind pool d.w.request d.w.ports) (length d.on.at.left) d.longer
          ≡ over_prefixes choice (evaluations_behind pool x.w.request x.w.ports) (length (others x)) (x.before ++ get_or cs d.on.i 0 ∷ [])
      evaluations-moved =
          moved (λ w. evaluations_behind pool w.request w.ports) (evaluations-same pool x.w x.before h.world d.on.c is-candidate d.w d.docked)

      entries-moved : over_prefixes (choice_in pool d.w) (attributes_behind pool d.w.request d.w.ports) (length d.on.at.left) d.longer
          ≡ over_prefixes choice (attributes_behind pool x.w.request x.w.ports) (length (others x)) (x.before ++ get_or cs d.on.i 0 ∷ [])
      entries-moved =
          moved (λ w. attributes_behind pool w.request w.ports) (attributes-same pool x.w x.before h.world d.on.c is-candidate d.w d.docked)

      anew-moved : over_prefixes (choice_in pool d.w) (evaluations_anew pool d.w) (length d.on.at.left) d.longer
          ≡ over_prefixes choice anew (length (others x)) (x.before ++ get_or cs d.on.i 0 ∷ [])
      anew-moved = moved (evaluations_anew pool) (anew-same pool x.w x.before h.world d.on.c is-candidate d.w d.docked)

      at-deep : (count : List ℕ → ℕ) (begin weighed now after : ℕ) → weighed ≤ begin + count x.before
          → now ≤ weighed + behind choice count (length (others x)) x.before (take d.on.i cs)
          → after ≤ now + over_prefixes choice count (length (others x)) (x.before ++ get_or cs d.on.i 0 ∷ [])
          → after ≤ begin + over_prefixes choice count (length x.sides) x.before
      at-deep count begin weighed now after first step deeper =
          subst (λ n. after ≤ begin + over_prefixes choice count n x.before) all-sides
          (at-deeper choice count (length (others x)) x.before begin weighed first cs in-order d.on.i now step 0 after inside deeper)

      -- with what is ahead at the first port
      ahead-deep : (after : ℕ)
          → after ≤ d.on.at.tops + sides_ahead d.on.at.left + over_prefixes choice anew (length (others x)) (x.before ++ get_or cs d.on.i 0 ∷ [])
          → after + side_ahead x.new ≤ x.tops + sides_ahead x.sides + over_prefixes choice anew (length x.sides) x.before
      ahead-deep after deeper =
          at-deep anew (x.tops + sides_ahead x.sides) (x.tops_then + side_ahead x.new + sides_ahead (others x))
          (d.on.at.tops + side_ahead x.new + sides_ahead d.on.at.left) (after + side_ahead x.new) first-once (with_own so) (omega (arith, deeper))

      module _ {tops entry : ℕ} (takes : Takes pool d.w d.longer d.on.at.left d.on.at.tops d.on.at.entry tops entry) where
        evaluations-deep : tops ≤ d.on.at.tops + over_prefixes choice (evaluations_behind pool x.w.request x.w.ports) (length (others x)) (x.before
            ++ get_or cs d.on.i 0 ∷ [])
        evaluations-deep = subst (λ n. tops ≤ d.on.at.tops + n) evaluations-moved takes.evaluations

        entries-deep : entry ≤ d.on.at.entry + over_prefixes choice (attributes_behind pool x.w.request x.w.ports) (length (others x)) (x.before
            ++ get_or cs d.on.i 0 ∷ [])
        entries-deep = subst (λ n. entry ≤ d.on.at.entry + n) entries-moved takes.entries

        pub deeper-takes : Takes pool x.w x.before x.sides x.tops x.entry tops entry
        deeper-takes = record {
          evaluations =
              at-deep (evaluations_behind pool x.w.request x.w.ports) x.tops x.tops_then d.on.at.tops tops first-evaluations so.evaluations evaluations-deep;
          once = omega (arith, ahead-deep tops (omega (arith, takes.once, anew-moved)));
          entries = at-deep (attributes_behind pool x.w.request x.w.ports) x.entry x.entry_then d.on.at.entry entry first-entries so.entries entries-deep;
        }

        module _ {left : List Side} (leaves : Leaves pool d.w d.longer d.on.at.left d.on.at.tops tops left) where
          left-sides : AreSides pool x.w.request x.w.ports (suc (length x.before)) left
          left-sides =
              subst (λ (n : ℕ). AreSides pool x.w.request x.w.ports n left) (ap length is ∙ length-more x.before d.on.c.place)
              (subst (λ (u : PlainWorld). AreSides pool u.request u.ports (length d.longer) left) d.docked leaves.are)

          ahead-left : tops + sides_ahead left
              ≤ d.on.at.tops + sides_ahead d.on.at.left + over_prefixes choice anew (length (others x)) (x.before ++ get_or cs d.on.i 0 ∷ [])
          ahead-left = omega (arith, leaves.ahead, anew-moved)

          pub deeper-leaves : length left ≡ length d.on.at.left
              → Leaves pool x.w x.before x.sides x.tops tops (whole x left)
          deeper-leaves long = whole-leaves left (long ∙ d.on.long) tops left-sides (omega (arith, ahead-deep (tops + sides_ahead left) ahead-left))

          -- it found nothing there, and goes on with the next candidate
          pub next-so-far : (e : Ending) (after : List ℕ) → Outcome (choice_in pool d.w) (length d.on.at.left) d.longer after e
              → (depth : ℕ) → depth ≡ length x.before → is_over depth e ≡ false → (places : List ℕ) → places ≡ take depth after
              → SoFar pool x.w cs (d.on.i + 1) start (record { left = left; places = places; tops = tops; entry = entry })
          next-so-far e after o depth deep over places taken = record {
            same = popped after d.longer x.before found.0.0 places d.on.c.place depth found.0.1 is deep taken;
            sides = left-sides;
            passed = below_more (λ j. tuples choice (length (others x)) (x.before ++ get_or cs j 0 ∷ []) ≡ []) d.on.i so.passed here;
            evaluations =
                on (evaluations_behind pool x.w.request x.w.ports) x.tops x.tops_then d.on.at.tops tops first-evaluations so.evaluations evaluations-deep;
            once =
                omega (
                  arith,
                  on anew (x.tops + sides_ahead x.sides) (x.tops_then + side_ahead x.new + sides_ahead (others x))
                      (d.on.at.tops + side_ahead x.new + sides_ahead d.on.at.left) (tops + sides_ahead left + side_ahead x.new) first-once
                      (with_own so) (omega (arith, ahead-left)),
                );
            entries = on (attributes_behind pool x.w.request x.w.ports) x.entry x.entry_then d.on.at.entry entry first-entries so.entries entries-deep;
          }
            where
              found : ((rest : List ℕ) × (after ≡ d.longer ++ rest)) × (tuples (choice_in pool d.w) (length d.on.at.left) d.longer ≡ [])
              found = not-over (choice_in pool d.w) (length d.on.at.left) d.longer after depth e over o

              here : tuples choice (length (others x)) (x.before ++ get_or cs d.on.i 0 ∷ []) ≡ []
              here =
                  ap (λ p. tuples choice (length (others x)) (x.before ++ p ∷ [])) (sym place-is)
                  ∙ ap (tuples choice (length (others x))) (sym is)
                  ∙ ap (λ n. tuples choice n d.longer) (sym d.on.long)
                  ∙ ap (λ k. tuples k (length d.on.at.left) d.longer) (sym (choice-same pool x.w x.before h.world d.on.c is-candidate d.w d.docked))
                  ∙ found.1

              on : (count : List ℕ → ℕ) (begin weighed now after : ℕ) → weighed ≤ begin + count x.before
                  → now ≤ weighed + behind choice count (length (others x)) x.before (take d.on.i cs)
                  → after ≤ now + over_prefixes choice count (length (others x)) (x.before ++ get_or cs d.on.i 0 ∷ [])
                  → after ≤ weighed + behind choice count (length (others x)) x.before (take (d.on.i + 1) cs)
              on count begin weighed now after first step deeper =
                  at-next choice count (length (others x)) x.before begin weighed first cs in-order d.on.i now step 0 after inside deeper

      -- ---- a search that is over behind a candidate is over

      outcome-here : (after : List ℕ) (e : Ending) → Outcome (choice_in pool d.w) (length d.on.at.left) d.longer after e
          → Outcome choice (length (others x)) deep after e
      outcome-here after e o =
          subst (λ (b : List ℕ). Outcome choice (length (others x)) b after e) is
          (subst (λ (n : ℕ). Outcome choice n d.longer after e) d.on.long
          (subst (λ (k : Choice). Outcome k (length d.on.at.left) d.longer after e)
          (choice-same pool x.w x.before h.world d.on.c is-candidate d.w d.docked) o))

      deeper-found : (after : List ℕ) → Outcome choice (length (others x)) deep after Ending.Found
          → Outcome choice (suc (length (others x))) x.before after Ending.Found
      deeper-found after o =
          outcome-found choice (length (others x)) x.before cs in-order
          (tries-ordered pool x.w x.before h.world y.tries (tries-are pool x.w x.before h.world (first x).resources.items next_port y.tries all-weighed)
          y.ordered)
          d.on.i inside so.passed after
          (subst (λ p. Outcome choice (length (others x)) (x.before ++ p ∷ []) after Ending.Found) place-is o)

      by-ending : (after : List ℕ) (depth : ℕ) → depth ≡ length x.before → (e : Ending) → is_over depth e ≡ true
          → Outcome choice (length (others x)) deep after e
          → Outcome choice (suc (length (others x))) x.before after e
      by-ending after depth at Ending.Found over o = deeper-found after o
      by-ending after depth at (Ending.NotFound many) over o = (
        (d.on.c.place ∷ o.0.0, o.0.1 ∙ append_assoc x.before (d.on.c.place ∷ []) o.0.0),
        spent-above choice (length (others x)) x.before many d.on.c.place (subst (λ (n : ℕ). many ≤ n) at (grind (arith, nat_tests))) o.1,
      )

      pub deeper-over : (after : List ℕ) (e : Ending) → Outcome (choice_in pool d.w) (length d.on.at.left) d.longer after e
          → (depth : ℕ) → depth ≡ length x.before → is_over depth e ≡ true → Outcome choice (length x.sides) x.before after e
      deeper-over after e o depth at over =
          subst (λ (n : ℕ). Outcome choice n x.before after e) all-sides (by-ending after depth at e over (outcome-here after e o))
