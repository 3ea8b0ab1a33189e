-- Going through places: what is found, and how often it is evaluated.
use Rattle.std.proofs.Common.{◌≡◌, ◌+◌, ◌*◌, ℕ, suc, Bool, true, false, not, refl, List, [], ◌∷◌, Option, None, Some, option_map}
use Rattle.std.proofs.Common.{slice_get, sum_by, cond, if◌then◌else◌, All, ap, sym, ◌∙◌, subst, arith, add-zero, zero-add, ℤ}
use Rattle.std.proofs.Math.Nat.{zero-mul}
use Rattle.std.specs.List.{cons_option, filter_map}
use Rattle.std.specs.List.Sorted.{IsPermutation, IsSorted}
use Rattle.std.specs.Option.{option_and_then, option_map_or}
use Rattle.std.proofs.lemmas.List.Elements.{All-cons, All-nil, All-tail}
use Rattle.std.proofs.lemmas.List.Sorted.{sum_by-IsPermutation}
use Rattle.std.proofs.lemmas.List.Sums.{sum_by-cons}
use Rattle.ad_tree.specs.Frames.{Frame}
use Rattle.ad_store.specs.Stock.{Advert}
use Rattle.eval_scope.specs.World.{attribute_count}
use Rattle.ad_candidates.specs.Candidates.{AreCandidates, places_where}
use Rattle.dock_match.specs.Docks.{docks, is_undecided, pair_world, rank_of_dock, ranked}
use Rattle.dock_match.proofs.DecidedLemmas.{not-docked}
use Rattle.bilateral_match.specs.declared.hit.Match.{Match}
use Rattle.bilateral_match.specs.Answers.{answers, match_order, match_with, matches_from}
use Rattle.bilateral_match.specs.Counts.{attributes_most, entered_most, evaluations_most, sum_from, undecided_count}
use Rattle.bilateral_match.specs.Scan.{attributes_at, evaluations_at, match_at}
use Rattle.bilateral_match.proofs.OrderLemmas.{arranged-in-order, arranged-permutation, in-order-from, one-order}

-- ---- a decided dock is not among the matches

pub decided-docks : (moment : ℕ) (request ad : List Frame) → is_undecided request ad ≡ false → docks moment request ad ≡ false
decided-docks moment request ad decided = not-docked (pair_world moment request ad) (omega arith) (not-false _ decided)
  where
    not-false : (b : Bool) → not b ≡ false → b ≡ true
    not-false true e = refl
    not-false false e = absurd (cc)

no-match : (moment : ℕ) (request : List Frame) (k : ℕ) (advert : Advert) → is_undecided request advert.ad ≡ false
    → match_with moment request k advert ≡ None
no-match moment request k advert decided =
    ap (λ (b : Bool). option_map (λ rank. record { place = k; rank = rank }) (if b then Some (rank_of_dock moment request advert.ad) else None))
    (decided-docks moment request advert.ad decided)

-- ---- sums

module _ {X Y : Type 0} (f : Y → ℕ) (h : X → Option Y) where
  pub sum-filter_map : (xs : List X) → sum_by f (filter_map h xs) ≡ sum_by (λ x. option_map_or f (h x) 0) xs
  sum-filter_map [] = refl
  sum-filter_map (x ∷ xs) = by (sum-filter_map xs) (h x) ∙ sym (sum_by-cons (λ x. option_map_or f (h x) 0) x xs)
    where
      by : sum_by f (filter_map h xs) ≡ sum_by (λ x. option_map_or f (h x) 0) xs → (o : Option Y)
          → sum_by f (cons_option o (filter_map h xs)) ≡ option_map_or f o 0 + sum_by (λ x. option_map_or f (h x) 0) xs
      by behind None = behind ∙ sym (zero-add (sum_by (λ x. option_map_or f (h x) 0) xs))
      by behind (Some y) = sum_by-cons f y (filter_map h xs) ∙ ap (λ n. f y + n) behind

module _ (passes : Advert → Bool) (h : ℕ → Advert → ℕ) (none : (k : ℕ) (a : Advert) → passes a ≡ false → h k a ≡ 0) (G : ℕ → ℕ) where
  -- the places of the ads that pass give the sum over all ads, where no other ad gives anything
  places-total : (k : ℕ) (ads : List Advert) → ((i : ℕ) (a : Advert) → slice_get ads i ≡ Some a → G (k + i) ≡ h (k + i) a)
      → sum_by G (places_where passes k ads) ≡ sum_from h k ads
  places-total k [] at = refl
  places-total k (a ∷ ads) at =
      by (places-total (suc k) ads (λ i b is. let same : k + suc i ≡ suc k + i =
      omega arith in let P : ℕ → Type 0 = λ n. G n ≡ h n b in subst P same (at (suc i) b is))) (passes a) refl
    where
      here : G k ≡ h k a
      here = let P : ℕ → Type 0 = λ n. G n ≡ h n a in subst P (add-zero k) (at 0 a refl)

      by : sum_by G (places_where passes (suc k) ads) ≡ sum_from h (suc k) ads → (b : Bool) → passes a ≡ b
          → sum_by G (if b then k ∷ places_where passes (suc k) ads else places_where passes (suc k) ads) ≡ h k a + sum_from h (suc k) ads
      by rest true e = let head = sum_by-cons G k (places_where passes (suc k) ads) in omega (arith, head, here, rest)
      by rest false e = let nothing = none k a e in omega (arith, nothing, rest)

matches-total : (moment : ℕ) (request : List Frame) (f : Match → ℕ) (k : ℕ) (ads : List Advert)
    → sum_by f (matches_from moment request k ads) ≡ sum_from (λ k a. option_map_or f (match_with moment request k a) 0) k ads
matches-total moment request f k [] = refl
matches-total moment request f k (a ∷ ads) = by (matches-total moment request f (suc k) ads) (match_with moment request k a)
  where
    by : sum_by f (matches_from moment request (suc k) ads) ≡ sum_from (λ k a. option_map_or f (match_with moment request k a) 0) (suc k) ads
        → (o : Option Match)
        → sum_by f (cons_option o (matches_from moment request (suc k) ads))
        ≡ option_map_or f o 0 + sum_from (λ k a. option_map_or f (match_with moment request k a) 0) (suc k) ads
    by behind None = behind ∙ sym (zero-add (sum_from (λ k a. option_map_or f (match_with moment request k a) 0) (suc k) ads))
    by behind (Some m) = sum_by-cons f m (matches_from moment request (suc k) ads) ∙ ap (λ n. f m + n) behind

evaluations-total : (request : List Frame) (k : ℕ) (ads : List Advert)
    → sum_from (λ k a. evaluations_most request a.ad) k ads ≡ 3 * undecided_count request ads
evaluations-total request k [] = refl
evaluations-total request k (a ∷ ads) =
    let rest = evaluations-total request (suc k) ads in
    let head = sum_by-cons (λ (advert : Advert). cond (is_undecided request advert.ad) 1 0) a ads in
    let one = three (is_undecided request a.ad) in
    omega (arith, rest, head, one)
  where
    three : (b : Bool) → (if b then 3 else 0) ≡ 3 * cond b 1 0
    three true = refl
    three false = refl

attributes-total : (moment : ℕ) (request : List Frame) (k : ℕ) (ads : List Advert)
    → sum_from (λ k a. attributes_most moment request a.ad) k ads ≡ entered_most moment request ads
attributes-total moment request k [] = refl
attributes-total moment request k (a ∷ ads) =
    ap (λ n. attributes_most moment request a.ad + n) (attributes-total moment request (suc k) ads)
    ∙ sym (sum_by-cons (λ (advert : Advert). attributes_most moment request advert.ad) a ads)

-- ---- candidates

module _ (moment : ℕ) (request : List Frame) (ads : List Advert) (places : List ℕ) (some : AreCandidates request ads places) where
  -- sums over the candidates are sums over all ads, where ads with decided docks give nothing
  pub all-total : (h : ℕ → Advert → ℕ) (G : ℕ → ℕ) → ((k : ℕ) (a : Advert) → is_undecided request a.ad ≡ false → h k a ≡ 0)
      → ((i : ℕ) (a : Advert) → slice_get ads i ≡ Some a → G i ≡ h i a) → sum_by G places ≡ sum_from h 0 ads
  all-total h G none at =
      sum_by-IsPermutation G (places_where some.passes 0 ads) places some.all
      ∙ places-total some.passes h (λ k a e. none k a (some.others a e)) G 0 ads (λ i a is. rw (zero-add i) (at i a is))

  found-sum : (f : Match → ℕ) → sum_by f (filter_map (match_at moment request ads) places) ≡ sum_by f (matches_from moment request 0 ads)
  found-sum f =
      sum-filter_map f (match_at moment request ads) places
      ∙ all-total (λ k a. option_map_or f (match_with moment request k a) 0) (λ place. option_map_or f (match_at moment request ads place) 0)
      (λ k a e. ap (λ o. option_map_or f o 0) (no-match moment request k a e))
      (λ i a is. ap (λ o. option_map_or f (option_and_then (match_with moment request i) o) 0) is)
      ∙ sym (matches-total moment request f 0 ads)

  pub evaluations-sum : sum_by (evaluations_at request ads) places ≡ 3 * undecided_count request ads
  evaluations-sum =
      all-total (λ k a. evaluations_most request a.ad) (evaluations_at request ads)
      (λ k a e. ap (λ (b : Bool). if b then 3 else 0) e)
      (λ i a is. ap (λ o. option_map_or (λ (advert : Advert). evaluations_most request advert.ad) o 0) is)
      ∙ evaluations-total request 0 ads

  pub attributes-sum : sum_by (attributes_at moment request ads) places ≡ entered_most moment request ads
  attributes-sum =
      all-total (λ k a. attributes_most moment request a.ad) (attributes_at moment request ads)
      (λ k a e. none-entered a e)
      (λ i a is. ap (λ o. option_map_or (λ (advert : Advert). attributes_most moment request advert.ad) o 0) is)
      ∙ attributes-total moment request 0 ads
    where
      none-entered : (a : Advert) → is_undecided request a.ad ≡ false → attributes_most moment request a.ad ≡ 0
      none-entered a e =
          ap (λ (b : Bool). (if b then 3 else 0) * attribute_count (pair_world moment request a.ad)) e
          ∙ zero-mul (attribute_count (pair_world moment request a.ad))

  -- what is found, once it is in order, is the answer
  pub sorted-answers : (found sorted : List Match) → found ≡ filter_map (match_at moment request ads) places → IsPermutation found sorted
      → IsSorted match_order sorted → sorted ≡ answers moment request ads
  sorted-answers found sorted is moved ordered =
      one-order sorted (answers moment request ads) (in-order-from sorted ordered) (arranged-in-order (matches_from moment request 0 ads))
      (λ f. sum_by-IsPermutation f found sorted moved ∙ ap (sum_by f) is ∙ found-sum f
      ∙ sym (sum_by-IsPermutation f (matches_from moment request 0 ads) (answers moment request ads)
      (arranged-permutation (matches_from moment request 0 ads))))

-- each match that is found is at one of the places
pub found-at : (moment : ℕ) (request : List Frame) (ads : List Advert) (P : ℕ → Type 0) (places : List ℕ) → All P places
    → All (λ (m : Match). P m.place) (filter_map (match_at moment request ads) places)
found-at moment request ads P [] h = All-nil (λ (m : Match). P m.place)
found-at moment request ads P (place ∷ places) h = by (found-at moment request ads P places (All-tail P place places h)) (slice_get ads place)
  where
    by_rank : All (λ (m : Match). P m.place) (filter_map (match_at moment request ads) places) → (o : Option ℤ)
        → All (λ (m : Match). P m.place) (cons_option (option_map (λ rank. record { place = place; rank = rank }) o)
        (filter_map (match_at moment request ads) places))
    by_rank rest None = rest
    by_rank rest (Some rank) =
        All-cons (λ (m : Match). P m.place) (record { place = place; rank = rank }) (filter_map (match_at moment request ads) places) (h 0 place (omega arith))
        rest

    by : All (λ (m : Match). P m.place) (filter_map (match_at moment request ads) places) → (o : Option Advert)
        → All (λ (m : Match). P m.place) (cons_option (option_and_then (match_with moment request place) o)
        (filter_map (match_at moment request ads) places))
    by rest None = rest
    by rest (Some a) = by_rank rest (ranked moment request a.ad)
