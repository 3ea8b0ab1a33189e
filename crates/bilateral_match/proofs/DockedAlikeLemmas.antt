-- Requests that ads dock with alike have the same answers, and the same best member.
use Rattle.std.proofs.Common.{◌≡◌, ℕ, ℤ, suc, Bool, not, ◌&&◌, List, [], ◌∷◌, Option, None, Some, option_map, if◌then◌else◌, refl, ap}
use Rattle.std.proofs.Common.{◌∙◌}
use Rattle.std.specs.List.{cons_option}
use Rattle.std.proofs.lemmas.List.Elements.{All-head, All-tail}
use Rattle.ad_tree.specs.Frames.{Frame}
use Rattle.ad_store.specs.Stock.{Advert, is_live}
use Rattle.dock_match.specs.Docks.{docks, rank_of_dock}
use Rattle.dock_match.specs.Preemption.{is_yielded, preemption_of}
use Rattle.dock_match.specs.Pool.{Pool}
use Rattle.bilateral_match.specs.declared.hit.Match.{Match}
use Rattle.bilateral_match.specs.declared.member.Member.{Member}
use Rattle.bilateral_match.specs.Answers.{answers, arranged, match_with, matches_from}
use Rattle.bilateral_match.specs.DockedAlike.{AllDockAlike, AreDockedAlike}
use Rattle.bilateral_match.specs.Members.{best, first_of, member_with, members_from, regard}

-- ---- answers

-- the match with an ad that docks or doesn't, and that is ranked so
abbrev match_by : ℕ → Bool → ℤ → Option Match
match_by k docked rank = option_map (λ r. record { place = k; rank = r }) (if docked then Some rank else None)

module _ (moment : ℕ) (a b : List Frame) where
  match-same : (k : ℕ) (advert : Advert) → AreDockedAlike moment a b advert.ad → match_with moment a k advert ≡ match_with moment b k advert
  match-same k advert h = ap (λ d. match_by k d (rank_of_dock moment a advert.ad)) h.dock ∙ ap (match_by k (docks moment b advert.ad)) h.rank

  matches-same : (k : ℕ) (ads : List Advert) → AllDockAlike moment a b ads → matches_from moment a k ads ≡ matches_from moment b k ads
  matches-same k [] h = refl
  matches-same k (advert ∷ ads) h =
      ap (λ m. cons_option m (matches_from moment a (suc k) ads))
      (match-same k advert (All-head (λ (x : Advert). AreDockedAlike moment a b x.ad) advert ads h))
      ∙ ap (cons_option (match_with moment b k advert)) (matches-same (suc k) ads (All-tail (λ (x : Advert). AreDockedAlike moment a b x.ad) advert ads h))

  pub answers-same : (ads : List Advert) → AllDockAlike moment a b ads → answers moment a ads ≡ answers moment b ads
  answers-same ads h = ap arranged (matches-same 0 ads h)

-- ---- members

module _ (pool : Pool) (number : ℕ) (a b : List Frame) where
  -- the member of an ad that docks or doesn't, with its ranks
  abbrev member_by : ℕ → Advert → Bool → ℤ → ℤ → Option Member
  member_by k advert docked rank given =
      if is_live pool.moment advert && (not (pool.is_offered k) && (docked && is_yielded number given (pool.held_in k)))
      then Some (record { rank = rank; preemption = preemption_of given (pool.held_in k); regard = given; place = k })
      else None

  member-same : (k : ℕ) (advert : Advert) → AreDockedAlike pool.moment a b advert.ad
      → member_with pool a number k advert ≡ member_with pool b number k advert
  member-same k advert h =
      ap (λ d. member_by k advert d (rank_of_dock pool.moment a advert.ad) (regard pool.moment a advert.ad)) h.dock
      ∙ ap (λ r. member_by k advert (docks pool.moment b advert.ad) r (regard pool.moment a advert.ad)) h.rank
      ∙ ap (member_by k advert (docks pool.moment b advert.ad) (rank_of_dock pool.moment b advert.ad)) h.regard

  members-same : (k : ℕ) (ads : List Advert) → AllDockAlike pool.moment a b ads → members_from pool a number k ads ≡ members_from pool b number k ads
  members-same k [] h = refl
  members-same k (advert ∷ ads) h =
      ap (λ m. cons_option m (members_from pool a number (suc k) ads))
      (member-same k advert (All-head (λ (x : Advert). AreDockedAlike pool.moment a b x.ad) advert ads h))
      ∙ ap (cons_option (member_with pool b number k advert))
      (members-same (suc k) ads (All-tail (λ (x : Advert). AreDockedAlike pool.moment a b x.ad) advert ads h))

  pub best-same : AllDockAlike pool.moment a b pool.ads → best pool a number ≡ best pool b number
  best-same h = ap first_of (members-same 0 pool.ads h)
