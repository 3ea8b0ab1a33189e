-- What a query answers: all ads that dock with it, by rank and then by place.
use Rattle.std.specs.Prelude.{◌≡◌, ℕ, List, [], ◌∷◌, suc, map, Option, option_map, slice_index, if◌then◌else◌}
use Rattle.std.specs.Ordering.{int_cmp, is_lt, nat_cmp, ordering_then}
use Rattle.std.specs.declared.cmp.Ordering.{Ordering}
use Rattle.std.specs.List.{cons_option}
use Rattle.std.specs.List.Sorted.{IsPermutation, IsSorted}
use Rattle.ad_tree.specs.Frames.{Frame}
use Rattle.ad_store.specs.Stock.{Advert}
use Rattle.dock_match.specs.Docks.{ranked}
use Rattle.bilateral_match.specs.declared.hit.Hit.{Hit}
use Rattle.bilateral_match.specs.declared.hit.Match.{Match}

-- ---- all ads that dock

-- the match with the ad at a place, if it docks
abbrev pub match_with : ℕ → List Frame → ℕ → Advert → Option Match
match_with moment request place advert = option_map (λ rank. record { place = place; rank = rank }) (ranked moment request advert.ad)

-- the matches with the ads, which stand from place k on
abbrev pub matches_from : ℕ → List Frame → ℕ → List Advert → List Match
matches_from moment request k [] = []
matches_from moment request k (advert ∷ ads) = cons_option (match_with moment request k advert) (matches_from moment request (suc k) ads)

-- ---- their order

-- by rank falling, and at equal ranks by place rising
abbrev pub match_order : Match → Match → Ordering
match_order a b = ordering_then (int_cmp b.rank a.rank) (nat_cmp a.place b.place)

-- these are all matches, and in order
pub record AreAnswers (moment : ℕ) (request : List Frame) (ads : List Advert) (answers : List Match) : Type 0 where
  pub all : IsPermutation (matches_from moment request 0 ads) answers
  pub ordered : IsSorted match_order answers

-- ---- the one list that is so

-- a match among others that are in order: before the first that it comes before
abbrev pub entered : Match → List Match → List Match
entered m [] = m ∷ []
entered m (other ∷ others) = if is_lt (match_order m other) then m ∷ other ∷ others else other ∷ entered m others

-- matches in order
abbrev pub arranged : List Match → List Match
arranged [] = []
arranged (m ∷ ms) = entered m (arranged ms)

-- the answers to a query
abbrev pub answers : ℕ → List Frame → List Advert → List Match
answers moment request ads = arranged (matches_from moment request 0 ads)

-- an answer with the slot of its ad in the place of the ad's place
abbrev pub hit_of : List ℕ → Match → Hit
hit_of slots m = record { slot = slice_index slots m.place; rank = m.rank }

-- the hits of these matches in order, with the slots of their ads
abbrev pub AreHits : List ℕ → List Match → List Hit → Type 0
AreHits slots found hits = (sorted : List Match) × IsPermutation found sorted × IsSorted match_order sorted × (hits ≡ map (hit_of slots) sorted)
