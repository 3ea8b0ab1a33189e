-- Ads stay as small as those that are read.
use Rattle.std.proofs.Common.{◌≡◌, ℕ, List, [], sym, subst}
use Rattle.std.proofs.lemmas.List.Elements.{All-cons, All-nil, All-push}
use Rattle.ad_tree.specs.Frames.{Frame}
use Rattle.ad_tree.specs.Small.{IsSmall}
use Rattle.ad_tree.specs.declared.request.Port.{Port}
use Rattle.eval_scope.specs.World.{PlainWorld, ads, with_docked}
use Rattle.ad_eval.specs.Small.{AreSmall}

-- ---- worlds

-- a world with nothing docked
pub small-alone : (moment : ℕ) (request : List Frame) (ports : List Port) (w : PlainWorld)
    → w ≡ record { moment = moment; request = request; ports = ports; docked = [] } → IsSmall request → AreSmall w
small-alone moment request ports w is small = subst AreSmall (sym is) (All-cons IsSmall request [] small (All-nil IsSmall))

-- a world with one more small ad docked
pub small-docked : (w later : PlainWorld) (ad : List Frame) → later ≡ with_docked w ad → AreSmall w → IsSmall ad → AreSmall later
small-docked w later ad is all small = subst AreSmall (sym is) (All-push IsSmall (ads w) ad all small)
