-- What one dock is worth, and what it takes.
use Rattle.std.proofs.Common.{◌≡◌, ◌≤◌, ◌+◌, ◌*◌, ℕ, Bool, true, false, not, List, [], ◌∷◌, None, Some}
use Rattle.std.proofs.Common.{if◌then◌else◌, ap, sym, ◌∙◌}
use Rattle.ad_tree.specs.declared.request.Port.{Port}
use Rattle.ad_tree.specs.Frames.{Frame}
use Rattle.eval_scope.specs.World.{PlainWorld, attribute_count, with_docked}
use Rattle.conjunct_plan.specs.Decided.{is_dock_decided}
use Rattle.dock_match.specs.Docks.{pair_world, rank_of_dock, ranked}
use Rattle.bilateral_match.specs.Counts.{attributes_most, evaluations_most}
use Rattle.bilateral_match.proofs.ScanLemmas.{decided-docks}

module _ (moment : ℕ) (request ad : List Frame) where
  -- the world of the code, whose request has no ports
  pub world-is : (ports : List Port) (w v : PlainWorld) → w ≡ record { moment = moment; request = request; ports = ports; docked = [] }
      → v ≡ with_docked w ad → ports ≡ [] → v ≡ pair_world moment request ad
  world-is ports w v new docked single =
      docked
      ∙ ap (λ (u : PlainWorld). with_docked u ad) new
      ∙ ap (λ (ps : List Port). record { moment = moment; request = request; ports = ps; docked = ad ∷ [] }) single

  pub ranked-decided : is_dock_decided request 0 [] ad ≡ true → ranked moment request ad ≡ None
  ranked-decided decided = ap (λ (b : Bool). if b then Some (rank_of_dock moment request ad) else None) (decided-docks moment request ad (ap not decided))

  pub three-evaluations : is_dock_decided request 0 [] ad ≡ false → evaluations_most request ad ≡ 3
  three-evaluations undecided = ap (λ (b : Bool). if not b then 3 else 0) undecided

  pub three-worlds : (w : PlainWorld) → w ≡ pair_world moment request ad → is_dock_decided request 0 [] ad ≡ false
      → attributes_most moment request ad ≡ 3 * attribute_count w
  three-worlds w same undecided =
      ap (λ n. n * attribute_count (pair_world moment request ad)) (three-evaluations undecided)
      ∙ ap (λ (u : PlainWorld). 3 * attribute_count u) (sym same)

-- ---- what is counted

-- what is counted where a dock isn't decided
pub most-left : (decided : Bool) (n before after : ℕ) → decided ≡ false → after ≤ before + n → after ≤ before + (if not decided then n else 0)
most-left true n before after e most = absurd (cc)
most-left false n before after e most = most
