-- Requests that ads dock with alike.
use Rattle.std.specs.Prelude.{◌≡◌, ℕ, List, All}
use Rattle.ad_tree.specs.Frames.{Frame}
use Rattle.ad_store.specs.Stock.{Advert}
use Rattle.dock_match.specs.Docks.{docks, rank_of_dock}
use Rattle.bilateral_match.specs.Members.{regard}

-- an ad docks with both requests or with neither, both give it the same rank, and it gives both the same
pub record AreDockedAlike (moment : ℕ) (a b ad : List Frame) : Type 0 where
  pub dock : docks moment a ad ≡ docks moment b ad
  pub rank : rank_of_dock moment a ad ≡ rank_of_dock moment b ad
  pub regard : regard moment a ad ≡ regard moment b ad

-- each of these ads does so
abbrev pub AllDockAlike : ℕ → List Frame → List Frame → List Advert → Type 0
AllDockAlike moment a b ads = All (λ advert. AreDockedAlike moment a b advert.ad) ads
