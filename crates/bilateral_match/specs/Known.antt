-- Ranks that hang on literals of a resource alone: they are the same for all requests with the same rank expression.
use Rattle.std.specs.Prelude.{◌≡◌, ℕ, ℤ, Bool, false, true, not, ◌&&◌, List, Option, None, Some, codes, is_some, slice_get, All}
use Rattle.std.specs.Option.{option_and_then, option_map_or}
use Rattle.ad_tree.specs.declared.tree.Scope.{Scope}
use Rattle.ad_tree.specs.Ad.{ad_frames}
use Rattle.ad_tree.specs.Enclosing.{expr_named}
use Rattle.ad_tree.specs.Frames.{Frame}
use Rattle.ad_tree.specs.Tree.{Label, Tree, Trees, all, any, binary, choice, frame, literal, more, name, node, none, unary}
use Rattle.ad_store.specs.Stock.{Advert}
use Rattle.conjunct_plan.specs.Decided.{counted}
use Rattle.ad_candidates.specs.KnownTests.{AreTestsKnown}
use Rattle.dock_match.specs.Docks.{rank_of_dock}
use Rattle.bilateral_match.specs.declared.known.Known.{Known}
use Rattle.bilateral_match.specs.Scan.{reaches}

-- the expression of a request's rank, if it has one
abbrev pub rank_expr : List Frame → Option Tree
rank_expr request = expr_named request 0 (codes "Rank")

-- a literal, an operator, or an attribute of the other side that is a literal there, or absent
abbrev pub is_settled_label : List Frame → Label → Bool
is_settled_label ad (literal lit) = true
is_settled_label ad (name Scope.Target x) = is_some (counted (expr_named ad 0 x))
is_settled_label ad (unary op) = true
is_settled_label ad (binary op) = true
is_settled_label ad all = true
is_settled_label ad any = true
is_settled_label ad choice = true
is_settled_label ad label = false

-- an expression is settled by an ad where it is made of nothing else
abbrev mutual
  pub is_settled : List Frame → Tree → Bool
  is_settled ad (node label ts) = is_settled_label ad label && are_settled ad ts
  is_settled ad (frame f) = false

  pub are_settled : List Frame → Trees → Bool
  are_settled ad none = true
  are_settled ad (more t ts) = is_settled ad t && are_settled ad ts

-- there is a rank expression, and the ad settles it
abbrev pub is_rank_settled : List Frame → Option Tree → Bool
is_rank_settled ad None = false
is_rank_settled ad (Some expr) = is_settled ad expr

-- these ranks, by places, are those that any request with this rank expression gives the ads there
abbrev pub AreRanks : ℕ → List Advert → Option Tree → List (Option ℤ) → Type 0
AreRanks moment ads expr ranks =
    (place : ℕ) (rank : ℤ) (advert : Advert) → slice_get ranks place ≡ Some (Some rank) → slice_get ads place ≡ Some advert
    → (request : List Frame) → rank_expr request ≡ expr → rank_of_dock moment request advert.ad ≡ rank

-- all ranks that are kept are those by their expression, and what is known of tests is so
pub record AreKnown (moment : ℕ) (ads : List Advert) (known : Known) : Type 0 where
  pub ranks : All (λ kept. AreRanks moment ads (rank_expr (ad_frames kept.ad)) kept.ranking.ranks.items) known.kept.items
  pub tests : AreTestsKnown ads known.tests

-- the rank at a place, if it is known
abbrev pub known_at : List (Option ℤ) → ℕ → Option ℤ
known_at ranks place = option_and_then (λ rank. rank) (slice_get ranks place)

-- a rank is known, and doesn't reach the bar
abbrev pub is_known_below : Option ℤ → Option ℤ → Bool
is_known_below bar rank = option_map_or (λ n. not (reaches bar n)) rank false
