-- A search behind a prefix: what its candidates are, what they take, and what is found behind each.
use Rattle.std.proofs.Common.{◌≡◌, ◌<◌, ◌+◌, ◌-◌, ◌*◌, ℕ, zero, suc, Bool, true, false, not, ◌&&◌, cond, if◌then◌else◌, refl}
use Rattle.std.proofs.Common.{List, [], ◌∷◌, ◌++◌, length, map, filter, get_or, take, drop, set, sum_by, None, Some, option_map, All, ap, sym}
use Rattle.std.proofs.Common.{◌∙◌, subst, arith, append_assoc, nat_eq, ℤ, IsSorted}
use Rattle.std.specs.List.{cons_option, filter_map}
use Rattle.std.specs.List.Sorted.{IsPermutation}
use Rattle.std.specs.Ordering.{int_cmp, is_lt, nat_cmp, ordering_then}
use borrow.Rule.Slice.PartMut.{put_mid}
use Rattle.std.proofs.lemmas.List.{append-nil, drop_all, take_all}
use Rattle.std.proofs.lemmas.List.Elements.{All-cons, All-from_get_or, All-head, All-nil, All-tail}
use Rattle.std.proofs.lemmas.List.Sums.{sum_by-cons}
use Rattle.std.proofs.lemmas.List.Sorted.{All-permutation, IsPermutation-map, IsPermutation-trans, sum_by-IsPermutation}
use Rattle.ad_tree.specs.Ad.{ad_frames}
use Rattle.ad_tree.specs.Frames.{Frame}
use Rattle.ad_tree.specs.declared.request.Port.{Port}
use Rattle.ad_eval.specs.Dock.{is_docked, rank_by}
use Rattle.eval_scope.specs.World.{PlainWorld, attribute_count, port_frame, request_side, with_docked}
use Rattle.dock_match.specs.Pool.{Pool}
use Rattle.gang_ports.specs.declared.searching.Ending.{Ending}
use Rattle.gang_ports.specs.declared.weighing.Candidate.{Candidate}
use Rattle.gang_ports.specs.declared.weighing.Resource.{Resource}
use Rattle.gang_ports.specs.declared.weighing.Side.{Side}
use Rattle.gang_ports.specs.Choice.{Choice, fits, is_among, next, over_prefixes, place_order, tuple_order, tuples}
use Rattle.gang_ports.specs.Gangs.{ad_at, attributes_behind, evaluations_behind, gang_world, open_docks, open_places}
use Rattle.gang_ports.specs.Search.{AreResources, AreSides, IsBehind, Outcome, attributes_from, attributes_of, candidate_of, candidate_order, choice_in}
use Rattle.gang_ports.specs.Search.{evaluations_anew, evaluations_from, evaluations_of, side_ahead, sides_ahead, weighed}
use Rattle.gang_ports.proofs.DockLemmas.{gang-with, next-open}
use Rattle.gang_ports.proofs.ListLemmas.{IsPermutation-filter, length-mapped, length-more, mapped-at, sum_by-agree, sum_by-constant, sum_by-map, sum_by-passing}
use Rattle.gang_ports.proofs.OrderLemmas.{first-behind, none-behind}

abbrev pub place_of : Candidate → ℕ
place_of c = c.place

-- the candidate that a resource is at this rank
abbrev pub made : Resource → ℤ → Candidate
made r rank = record { place = r.place; rank = rank; ad = r.ad }

module _ (pool : Pool) (w : PlainWorld) (before : List ℕ) (same : w ≡ gang_world pool w.request w.ports before) where
  abbrev choice : Choice
  choice = choice_in pool w

  -- the world in which a resource with the ad of a place is docked
  pub docked-is : (ad : List Frame) (place : ℕ) → ad ≡ ad_at pool place
      → with_docked w ad ≡ gang_world pool w.request w.ports (before ++ place ∷ [])
  docked-is ad place is =
      ap (with_docked w) is ∙ ap (λ (u : PlainWorld). with_docked u (ad_at pool place)) same ∙ gang-with pool w.request w.ports before place

  -- ---- candidates

  -- what is so of the candidate that a resource is
  pub record IsCandidate (c : Candidate) : Type 0 where
    pub rank : c.rank ≡ choice.rank before c.place
    pub ad : ad_frames c.ad.now ≡ ad_at pool c.place

  -- each resource has the ad of its place
  abbrev Has : List Resource → Type 0
  Has rs = All (λ (r : Resource). ad_frames r.ad.now ≡ ad_at pool r.place) rs

  abbrev docked : Resource → PlainWorld
  docked r = with_docked w (ad_frames r.ad.now)

  head-case : (r : Resource) (tl : List Candidate) (rank : ℤ) (among docks : Bool)
      → map place_of (cons_option (if among then None else option_map (made r) (if docks then Some rank else None)) tl)
      ≡ cond (not among && docks) (r.place ∷ map place_of tl) (map place_of tl)
  head-case r tl rank true docks = refl
  head-case r tl rank false true = refl
  head-case r tl rank false false = refl

  places-next : (rs : List Resource) → Has rs → map place_of (weighed w before rs) ≡ filter (fits choice before) (map (λ r. r.place) rs)
  unfolding weighed fits
  places-next [] has = refl
  places-next (r ∷ rs) has =
      let among = is_among before r.place in
      let tl = filter_map (candidate_of w before) rs in
      head-case r tl (rank_by (docked r) (request_side (docked r))) among (is_docked (docked r))
      ∙ ap (λ (u : PlainWorld). cond (not among && is_docked u) (r.place ∷ map place_of tl) (map place_of tl))
      (docked-is (ad_frames r.ad.now) r.place (All-head (λ (r : Resource). ad_frames r.ad.now ≡ ad_at pool r.place) r rs has))
      ∙ ap (λ (ps : List ℕ). cond (not among && is_docked (gang_world pool w.request w.ports (before ++ r.place ∷ []))) (r.place ∷ ps) ps)
      (places-next rs (All-tail (λ (r : Resource). ad_frames r.ad.now ≡ ad_at pool r.place) r rs has))

  candidates-are : (rs : List Resource) → Has rs → All IsCandidate (weighed w before rs)
  unfolding weighed
  candidates-are [] has = All-nil IsCandidate
  candidates-are (r ∷ rs) has =
      by (is_among before r.place) (is_docked (docked r)) (candidates-are rs (All-tail (λ (r : Resource). ad_frames r.ad.now ≡ ad_at pool r.place) r rs has))
    where
      here : ad_frames r.ad.now ≡ ad_at pool r.place
      here = All-head (λ (r : Resource). ad_frames r.ad.now ≡ ad_at pool r.place) r rs has

      rank : ℤ
      rank = rank_by (docked r) (request_side (docked r))

      by : (among docks : Bool) → All IsCandidate (filter_map (candidate_of w before) rs)
          → All IsCandidate (cons_option (if among then None else option_map (made r) (if docks then Some rank else None))
          (filter_map (candidate_of w before) rs))
      by true docks rest = rest
      by false true rest =
          All-cons IsCandidate (made r rank) (filter_map (candidate_of w before) rs)
          (record { rank = ap (λ (u : PlainWorld). rank_by u (request_side u)) (docked-is (ad_frames r.ad.now) r.place here); ad = here }) rest
      by false false rest = rest

  -- ---- candidates in order

  order-same : (a b : Candidate) → IsCandidate a → IsCandidate b → place_order choice before a.place b.place ≡ candidate_order a b
  order-same a b h k =
      ap (λ (r : ℤ). ordering_then (int_cmp r (choice.rank before a.place)) (nat_cmp a.place b.place)) (sym k.rank)
      ∙ ap (λ (r : ℤ). ordering_then (int_cmp b.rank r) (nat_cmp a.place b.place)) (sym h.rank)

  pub tries-ordered : (tries : List Candidate) → All IsCandidate tries → IsSorted candidate_order tries
      → IsSorted (place_order choice before) (map place_of tries)
  tries-ordered [] are ordered = λ k d low high. absurd (omega (arith, high))
  tries-ordered (c ∷ cs) are ordered = λ k d low high.
      let tries = c ∷ cs in
      let inside : k + 1 < length tries = omega (arith, high, length-mapped place_of tries) in
      let first : k < length tries = omega (arith, inside) in
      let a = get_or tries (k + 1) c in
      let b = get_or tries k c in
      ap (λ (p : ℕ). is_lt (place_order choice before p (get_or (map place_of tries) k d))) (mapped-at place_of tries (k + 1) d c inside)
      ∙ ap (λ (p : ℕ). is_lt (place_order choice before a.place p)) (mapped-at place_of tries k d c first)
      ∙ ap is_lt (order-same a b (are (k + 1) c inside) (are k c first))
      ∙ ordered k c low inside

  -- ---- the resources of the next port

  module _ (rs : List Resource) (resources : AreResources pool (open_places pool w.request w.ports (port_frame w.ports (suc (length before)))) rs) where
    abbrev asked : List ℕ
    asked = open_places pool w.request w.ports (port_frame w.ports (suc (length before)))

    abbrev places : List ℕ
    places = map (λ r. r.place) rs

    -- the sum over those that aren't docked
    sum-open : (f : ℕ → ℕ)
        → sum_by (λ (r : Resource). if is_among before r.place then 0 else f r.place) rs ≡ sum_by f (open_docks pool w.request w.ports before)
    unfolding open_docks
    sum-open f =
        sym (sum_by-map (λ p. if is_among before p then 0 else f p) (λ (r : Resource). r.place) rs)
        ∙ sum_by-IsPermutation (λ p. if is_among before p then 0 else f p) asked places resources.all
        ∙ sum_by-passing (is_among before) f asked

    pub evaluations-are : sum_by (evaluations_of before) rs ≡ evaluations_behind pool w.request w.ports before
    evaluations-are = sum-open (λ p. 3) ∙ sum_by-constant 3 (open_docks pool w.request w.ports before)

    pub attributes-are : sum_by (attributes_of w before) rs ≡ attributes_behind pool w.request w.ports before
    attributes-are =
        sum_by-agree (attributes_of w before) (λ (r : Resource). if is_among before r.place then 0 else 3 * attribute_count
        (gang_world pool w.request w.ports (before ++ r.place ∷ []))) rs
        (λ k d within.
        let r = get_or rs k d in
        ap (λ (u : PlainWorld). if is_among before r.place then 0 else 3 * attribute_count u)
        (docked-is (ad_frames r.ad.now) r.place (resources.ads k d within)))
        ∙ sum-open (λ p. 3 * attribute_count (gang_world pool w.request w.ports (before ++ p ∷ [])))

    module _ (tries : List Candidate) (all : IsPermutation (weighed w before rs) tries) where
      pub tries-are : All IsCandidate tries
      tries-are = All-permutation IsCandidate (weighed w before rs) tries all (candidates-are rs resources.ads)

      pub tries-next : IsPermutation (next choice before) (map place_of tries)
      tries-next =
          let found = map place_of (weighed w before rs) in
          let passing : IsPermutation (filter (fits choice before) asked) (filter (fits choice before) places) =
          IsPermutation-filter (fits choice before) asked places resources.all in
          let step : IsPermutation (next choice before) found =
          subst (λ (xs : List ℕ). IsPermutation xs found) (next-open pool w.request w.ports before)
          (subst (λ (ys : List ℕ). IsPermutation (filter (fits choice before) asked) ys) (sym (places-next rs resources.ads)) passing) in
          IsPermutation-trans (next choice before) found (map place_of tries) step (IsPermutation-map place_of (weighed w before rs) tries all)

  -- ---- behind a candidate

  module _ (c : Candidate) (is : IsCandidate c) (deeper : PlainWorld) (new : deeper ≡ with_docked w (ad_frames c.ad.now)) where
    requests : deeper.request ≡ w.request
    requests = ap (λ (u : PlainWorld). u.request) new

    ports-same : deeper.ports ≡ w.ports
    ports-same = ap (λ (u : PlainWorld). u.ports) new

    pub behind-candidate : (sides : List Side) → AreSides pool w.request w.ports (suc (length before)) sides
        → IsBehind pool deeper (before ++ c.place ∷ []) sides
    behind-candidate sides rest = record {
      world =
          new
          ∙ docked-is (ad_frames c.ad.now) c.place is.ad
          ∙ ap (λ (r : List Frame). gang_world pool r w.ports (before ++ c.place ∷ [])) (sym requests)
          ∙ ap (λ (ps : List Port). gang_world pool deeper.request ps (before ++ c.place ∷ [])) (sym ports-same);
      sides =
          subst (λ (n : ℕ). AreSides pool deeper.request deeper.ports n sides) (sym (length-more before c.place))
          (subst (λ (ps : List Port). AreSides pool deeper.request ps (suc (length before)) sides) (sym ports-same)
          (subst (λ (r : List Frame). AreSides pool r w.ports (suc (length before)) sides) (sym requests) rest));
    }

    pub choice-same : choice_in pool deeper ≡ choice
    choice-same = ap (choice_in pool) new

    pub evaluations-same : (n : ℕ) (b : List ℕ) → evaluations_from pool deeper n b ≡ evaluations_from pool w n b
    evaluations-same n b = ap (λ (u : PlainWorld). evaluations_from pool u n b) new

    pub attributes-same : (n : ℕ) (b : List ℕ) → attributes_from pool deeper n b ≡ attributes_from pool w n b
    attributes-same n b = ap (λ (u : PlainWorld). attributes_from pool u n b) new

    pub anew-same : (n : ℕ) (b : List ℕ)
        → over_prefixes (choice_in pool deeper) (evaluations_anew pool deeper) n b ≡ over_prefixes choice (evaluations_anew pool w) n b
    anew-same n b = ap (λ (u : PlainWorld). over_prefixes (choice_in pool u) (evaluations_anew pool u) n b) new

-- ---- what is found

module _ (choice : Choice) (n : ℕ) (before cs : List ℕ) (all : IsPermutation (next choice before) cs) where
  pub outcome-found : IsSorted (place_order choice before) cs → (i : ℕ) → i < length cs
      → ((j : ℕ) → j < i → tuples choice n (before ++ get_or cs j 0 ∷ []) ≡ [])
      → (after : List ℕ) → Outcome choice n (before ++ get_or cs i 0 ∷ []) after Ending.Found → Outcome choice (suc n) before after Ending.Found
  outcome-found ordered i within passed after o =
      (get_or cs i 0 ∷ o.0, o.1 ∙ append_assoc before (get_or cs i 0 ∷ []) o.0, first-behind choice n before cs all ordered i 0 within o.0 passed o.2)

  pub outcome-none : ((j : ℕ) → j < length cs → tuples choice n (before ++ get_or cs j 0 ∷ []) ≡ []) → tuples choice (suc n) before ≡ []
  outcome-none passed = none-behind choice n before cs all (All-from_get_or (λ p. tuples choice n (before ++ p ∷ []) ≡ []) cs 0 passed)

pub outcome-whole : (choice : Choice) (before after : List ℕ) → after ≡ before → Outcome choice 0 before after Ending.Found
unfolding tuples tuple_order
outcome-whole choice before after same = (
  [],
  same ∙ sym (append-nil before),
  record {
    among = (zero, omega arith, refl);
    none_before =
        All-cons (λ o. is_lt (tuple_order choice before o []) ≡ false) [] [] refl (All-nil (λ o. is_lt (tuple_order choice before o []) ≡ false));
  },
)

pub ahead-cons : (side : Side) (sides : List Side) → sides_ahead (side ∷ sides) ≡ side_ahead side + sides_ahead sides
unfolding sides_ahead
ahead-cons side sides = sum_by-cons side_ahead side sides

-- ---- the sides of a search: the first one, and those behind it

pub some-first : (sides : List Side) (none : Bool) → none ≡ nat_eq (length sides) 0 → none ≡ false → 0 < length sides
some-first [] none is e = absurd (cc)
some-first (side ∷ sides) none is e = omega arith

-- the sides behind the first one, once that one is another
abbrev pub rest_of : List Side → Side → List Side
rest_of sides new = take (length (set sides 0 new) - 1) (drop 1 (set sides 0 new))

rest-is : (side new : Side) (sides : List Side) → rest_of (side ∷ sides) new ≡ sides
rest-is side new sides =
    let one : length (new ∷ sides) - 1 ≡ length sides = omega arith in ap (λ n. take n sides) one ∙ take_all (length sides) sides (omega arith)

pub first-cut : (sides : List Side) (new d : Side) → 0 < length sides → sides ≡ get_or sides 0 d ∷ rest_of sides new
first-cut [] new d some = absurd (omega (arith, some))
first-cut (side ∷ sides) new d some = ap (λ rest. side ∷ rest) (sym (rest-is side new sides))

pub rest-fewer : (sides : List Side) (new : Side) (left : List Side) → 0 < length sides → length left ≡ length (rest_of sides new)
    → suc (length left) ≡ length sides
rest-fewer [] new left some long = absurd (omega (arith, some))
rest-fewer (side ∷ sides) new left some long = ap suc (long ∙ ap length (rest-is side new sides))

-- all sides, once the first one is another, and those behind it are others
pub first-whole : (sides : List Side) (new : Side) (left : List Side) → 0 < length sides → length left ≡ length (rest_of sides new)
    → put_mid 1 (length (set sides 0 new) - 1) (set sides 0 new) left ≡ new ∷ left
first-whole [] new left some long = absurd (omega (arith, some))
first-whole (side ∷ sides) new left some long =
    let one : length (new ∷ sides) - 1 ≡ length sides = omega arith in
    ap (λ n. new ∷ (left ++ drop n sides)) one ∙ ap (λ rest. new ∷ (left ++ rest)) (drop_all (length sides) sides (omega arith))
    ∙ ap (λ rest. new ∷ rest) (append-nil left)
