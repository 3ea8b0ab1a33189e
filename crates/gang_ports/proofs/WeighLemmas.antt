-- Resources as they are weighed again: which candidates they are, what that takes, and what is kept of them.
use Rattle.std.proofs.Common.{◌≡◌, ◌≤◌, ◌+◌, ℕ, Bool, true, false, if◌then◌else◌, refl, List, [], ◌∷◌, map, sum_by, Option, None}
use Rattle.std.proofs.Common.{option_map, All, ap, sym, ◌∙◌, subst, arith, ℤ}
use Rattle.std.specs.List.{cons_option, filter_map}
use Rattle.std.proofs.lemmas.List.Elements.{All-head, All-map, All-tail}
use Rattle.std.proofs.lemmas.List.Sums.{sum_by-cons, sum_by-le-sum_by}
use Rattle.ad_tree.specs.Ad.{ad_frames}
use Rattle.ad_tree.specs.Frames.{Frame}
use Rattle.eval_scope.specs.World.{PlainWorld, with_docked}
use Rattle.gang_ports.specs.declared.weighing.Candidate.{Candidate}
use Rattle.gang_ports.specs.declared.weighing.Kept.{Kept}
use Rattle.gang_ports.specs.declared.weighing.Resource.{Resource}
use Rattle.gang_ports.specs.declared.weighing.Side.{Side}
use Rattle.gang_ports.specs.Choice.{is_among}
use Rattle.gang_ports.specs.Search.{IsWorth, attributes_of, candidate_in, candidate_of, evaluations_ahead, evaluations_in, evaluations_of, forgotten}
use Rattle.gang_ports.specs.Search.{is_unknown, kept_in, rank_kept, remembered, weighed, weighed_in, worth}
use Rattle.gang_ports.proofs.ListLemmas.{sum_by-map}

module _ (w : PlainWorld) (before : List ℕ) where
  -- what is kept of a resource is right in this world
  abbrev pub IsRight : Resource → Type 0
  IsRight r = IsWorth w (ad_frames r.ad.now) r.kept

  -- ---- candidates

  worth-kept : (ad : List Frame) (kept : Kept) → IsWorth w ad kept → rank_kept (kept_in w ad kept) ≡ worth (with_docked w ad)
  worth-kept ad Kept.Unknown right = refl
  worth-kept ad (Kept.Weighed rank) right = right

  abbrev at_rank : Resource → Option ℤ → Option Candidate
  at_rank r rank = if is_among before r.place then None else option_map (λ rank. record { place = r.place; rank = rank; ad = r.ad }) rank

  candidate-same : (r : Resource) → IsRight r → candidate_in w before r ≡ candidate_of w before r
  candidate-same r right = ap (at_rank r) (worth-kept (ad_frames r.ad.now) r.kept right)

  known-same : (rs : List Resource) → All IsRight rs → filter_map (candidate_in w before) rs ≡ filter_map (candidate_of w before) rs
  known-same [] right = refl
  known-same (r ∷ rs) right =
      ap (λ (c : Option Candidate). cons_option c (filter_map (candidate_in w before) rs)) (candidate-same r (All-head IsRight r rs right))
      ∙ ap (cons_option (candidate_of w before r)) (known-same rs (All-tail IsRight r rs right))

  forgotten-same : (rs : List Resource) → filter_map (candidate_in w before) (map forgotten rs) ≡ filter_map (candidate_of w before) rs
  forgotten-same [] = refl
  forgotten-same (r ∷ rs) = ap (cons_option (candidate_of w before r)) (forgotten-same rs)

  pub remembered-weighed : (free : Bool) (rs : List Resource) → (free ≡ true → All IsRight rs)
      → filter_map (candidate_in w before) (remembered free rs) ≡ weighed w before rs
  unfolding weighed
  remembered-weighed true rs right = known-same rs (right refl)
  remembered-weighed false rs right = forgotten-same rs

  -- ---- what that takes

  evaluations-least : (r : Resource) → evaluations_in before r ≤ evaluations_of before r
  evaluations-least r = by (is_among before r.place) (is_unknown r.kept)
    where
      by : (among unknown : Bool) → (if among then 0 else if unknown then 3 else 0) ≤ (if among then 0 else 3)
      by true unknown = omega arith
      by false true = omega arith
      by false false = omega arith

  pub remembered-evaluations : (free : Bool) (rs : List Resource) → sum_by (evaluations_in before) (remembered free rs) ≤ sum_by (evaluations_of before) rs
  remembered-evaluations true rs = sum_by-le-sum_by (evaluations_in before) (evaluations_of before) rs evaluations-least
  remembered-evaluations false rs =
      subst (λ n. n ≤ sum_by (evaluations_of before) rs) (sym (sum_by-map (evaluations_in before) forgotten rs))
      (sum_by-le-sum_by (λ (r : Resource). evaluations_in before (forgotten r)) (evaluations_of before) rs (λ r. evaluations-least (forgotten r)))

  pub remembered-attributes : (free : Bool) (rs : List Resource) → sum_by (attributes_of w before) (remembered free rs) ≡ sum_by (attributes_of w before) rs
  remembered-attributes true rs = refl
  remembered-attributes false rs = sum_by-map (attributes_of w before) forgotten rs

  -- what is weighed isn't ahead any more
  ahead-less : (r : Resource) → evaluations_in before r + evaluations_ahead (weighed_in w before r) ≡ evaluations_ahead r
  ahead-less r = by (is_among before r.place)
    where
      once : (kept : Kept)
          → (if is_unknown kept then 3 else 0) + (if is_unknown (kept_in w (ad_frames r.ad.now) kept) then 3 else 0) ≡ (if is_unknown kept then 3 else 0)
      once Kept.Unknown = refl
      once (Kept.Weighed rank) = refl

      by : (among : Bool)
          → (if among then 0 else if is_unknown r.kept then 3 else 0)
          + evaluations_ahead (if among then r else record { place = r.place; ad = r.ad; sides = r.sides; kept = kept_in w (ad_frames r.ad.now) r.kept })
          ≡ evaluations_ahead r
      by true = omega arith
      by false = once r.kept

  pub weighed-ahead : (rs : List Resource)
      → sum_by (evaluations_in before) rs + sum_by evaluations_ahead (map (weighed_in w before) rs) ≡ sum_by evaluations_ahead rs
  weighed-ahead [] = refl
  weighed-ahead (r ∷ rs) =
      omega (
        arith,
        ahead-less r,
        weighed-ahead rs,
        sum_by-cons (evaluations_in before) r rs,
        sum_by-cons evaluations_ahead (weighed_in w before r) (map (weighed_in w before) rs),
        sum_by-cons evaluations_ahead r rs,
      )

  -- ---- what is kept

  -- what holds of a resource whatever is kept of it
  module _ (P : Resource → Type 0) (whatever : (r : Resource) (kept : Kept) → P r
      → P (record { place = r.place; ad = r.ad; sides = r.sides; kept = kept })) where
    weighed-holds : (r : Resource) → P r → P (weighed_in w before r)
    weighed-holds r h = by (is_among before r.place)
      where
        by : (among : Bool) → P (if among then r else record { place = r.place; ad = r.ad; sides = r.sides; kept = kept_in w (ad_frames r.ad.now) r.kept })
        by true = h
        by false = whatever r (kept_in w (ad_frames r.ad.now) r.kept) h

    pub remembered-hold : (free : Bool) (rs : List Resource) → All P rs → All P (remembered free rs)
    remembered-hold true rs h = h
    remembered-hold false rs h = All-map P forgotten rs (λ k d within. whatever _ Kept.Unknown (h k d within))

    pub weighed-hold : (rs : List Resource) → All P rs → All P (map (weighed_in w before) rs)
    weighed-hold rs h = All-map P (weighed_in w before) rs (λ k d within. weighed-holds _ (h k d within))

    -- as the code has it: of resources once they are forgotten or not, of which there is another list
    pub asked-hold : (free : Bool) (rs now asked : List Resource) → now ≡ rs → asked ≡ remembered free now → All P rs → All P asked
    asked-hold free rs now asked same is h = subst (All P) (ap (remembered free) (sym same) ∙ sym is) (remembered-hold free rs h)

    -- once they are weighed
    pub kept-hold : (side new : Side) → new.resources.items ≡ map (weighed_in w before) (remembered side.is_free side.resources.items)
        → All P side.resources.items → All P new.resources.items
    kept-hold side new kept h =
        subst (All P) (sym kept) (weighed-hold (remembered side.is_free side.resources.items) (remembered-hold side.is_free side.resources.items h))

  place-same : (r : Resource) → (weighed_in w before r).place ≡ r.place
  place-same r = by (is_among before r.place)
    where
      by : (among : Bool)
          → (let q : Resource =
          if among then r else record { place = r.place; ad = r.ad; sides = r.sides; kept = kept_in w (ad_frames r.ad.now) r.kept } in q.place) ≡ r.place
      by true = refl
      by false = refl

  weighed-places : (rs : List Resource) → map (λ (r : Resource). r.place) (map (weighed_in w before) rs) ≡ map (λ (r : Resource). r.place) rs
  weighed-places [] = refl
  weighed-places (r ∷ rs) =
      ap (λ p. p ∷ map (λ (r : Resource). r.place) (map (weighed_in w before) rs)) (place-same r) ∙ ap (λ ps. r.place ∷ ps) (weighed-places rs)

  forgotten-places : (rs : List Resource) → map (λ (r : Resource). r.place) (map forgotten rs) ≡ map (λ (r : Resource). r.place) rs
  forgotten-places [] = refl
  forgotten-places (r ∷ rs) = ap (λ ps. r.place ∷ ps) (forgotten-places rs)

  pub remembered-places : (free : Bool) (rs : List Resource)
      → map (λ (r : Resource). r.place) (map (weighed_in w before) (remembered free rs)) ≡ map (λ (r : Resource). r.place) rs
  remembered-places true rs = weighed-places rs
  remembered-places false rs = weighed-places (map forgotten rs) ∙ forgotten-places rs
