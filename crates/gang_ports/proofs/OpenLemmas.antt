-- What tests leave open of the docks of ports with their resources.
use Rattle.std.proofs.Common.{◌≡◌, ◌<◌, ℕ, suc, Bool, true, List, length, get_or, None, Some, All, if◌then◌else◌, ap, sym, ◌∙◌, subst, arith}
use Rattle.ad_tree.specs.Ad.{ad_frames}
use Rattle.ad_tree.specs.Frames.{Frame}
use Rattle.ad_tree.specs.declared.request.Port.{Port}
use Rattle.conjunct_plan.specs.declared.test.Test.{Test}
use Rattle.conjunct_plan.specs.Tests.{labels_of}
use Rattle.ad_eval.specs.Dock.{rank_by}
use Rattle.eval_scope.specs.World.{PlainWorld, port_frame, request_side, with_docked}
use Rattle.dock_match.specs.Docks.{last_ad, last_open}
use Rattle.dock_match.specs.Late.{is_ruled_out, late_tests}
use Rattle.dock_match.specs.Sides.{open_sides}
use Rattle.dock_match.proofs.DockingLemmas.{last-docked}
use Rattle.dock_match.proofs.LateLemmas.{ruled-undocked}
use Rattle.gang_ports.specs.declared.weighing.Resource.{Resource}
use Rattle.gang_ports.specs.declared.weighing.Side.{Side}
use Rattle.gang_ports.specs.Search.{HasSides, HasSidesIn, HaveSides, worth}
use Rattle.gang_ports.proofs.ListLemmas.{length-more}
use Rattle.gang_ports.proofs.SearchLemmas.{first-cut, first-whole}
use Rattle.gang_ports.proofs.TurnLemmas.{Begun, Weighed, first, others, whole}
use Rattle.gang_ports.proofs.WeighLemmas.{kept-hold}

-- ---- one more resource is docked

module _ (w deeper : PlainWorld) where
  module _ (ad : List Frame) (docked : deeper ≡ with_docked w ad) where
    longer : length deeper.docked ≡ suc (length w.docked)
    longer = ap (λ (u : PlainWorld). length u.docked) docked ∙ length-more w.docked ad

    pub some-docked : 0 < length deeper.docked
    some-docked = omega (arith, longer)

    -- the ports that are left there are those behind the next one
    pub deeper-have : (sides : List Side) → HaveSides w.request w.ports (suc (length w.docked)) sides
        → HaveSides deeper.request deeper.ports (length deeper.docked) sides
    deeper-have sides have =
        subst (λ (u : PlainWorld). HaveSides u.request u.ports (length u.docked) sides) (sym docked)
        (subst (λ (n : ℕ). HaveSides w.request w.ports n sides) (sym (length-more w.docked ad)) have)

    pub behind-have : (sides : List Side) → HaveSides deeper.request deeper.ports (length deeper.docked) sides
        → HaveSides w.request w.ports (suc (length w.docked)) sides
    behind-have sides have =
        subst (λ (n : ℕ). HaveSides w.request w.ports n sides) (length-more w.docked ad)
        (subst (λ (u : PlainWorld). HaveSides u.request u.ports (length u.docked) sides) docked have)

  -- the sides that are open are those of the last dock
  pub docked-open : (r : Resource) → deeper ≡ with_docked w (ad_frames r.ad.now) → HasSidesIn w r → last_open deeper ≡ Some r.sides
  docked-open r docked has =
      ap last_open docked
      ∙ ap (λ (n : ℕ). open_sides w.request (port_frame w.ports n) (labels_of w.ports) (last_ad (with_docked w (ad_frames r.ad.now))))
      (length-more w.docked (ad_frames r.ad.now))
      ∙ ap (open_sides w.request (port_frame w.ports (suc (length w.docked))) (labels_of w.ports)) (last-docked w (ad_frames r.ad.now))
      ∙ has

-- a resource that tests by what is docked rule out is worth nothing
pub ruled-worthless : (w : PlainWorld) (late : List Test) (ad : List Frame) → late ≡ late_tests w → is_ruled_out late ad ≡ true
    → worth (with_docked w ad) ≡ None
ruled-worthless w late ad are ruled =
    ap (λ (b : Bool). if b then Some (rank_by (with_docked w ad) (request_side (with_docked w ad))) else None)
    (ruled-undocked w ad (ap (λ (tests : List Test). is_ruled_out tests ad) (sym are) ∙ ruled))

-- ---- the sides of a search

pub first-has : (request : List Frame) (ports : List Port) (i : ℕ) (sides : List Side) (new : Side) → 0 < length sides → HaveSides request ports i sides
    → All (HasSides request ports (port_frame ports (suc i))) (get_or sides 0 new).resources.items
first-has request ports i sides new some have = (subst (HaveSides request ports i) (first-cut sides new new some) have).0

module _ (x : Begun) (have : HaveSides x.w.request x.w.ports (length x.w.docked) x.sides) where
  pub rest-have : HaveSides x.w.request x.w.ports (suc (length x.w.docked)) (others x)
  rest-have = (subst (HaveSides x.w.request x.w.ports (length x.w.docked)) (first-cut x.sides x.new x.spare x.some) have).1

  -- all of them, once there are others behind the first one
  pub whole-have : Weighed x → (left : List Side) → length left ≡ length (others x) → HaveSides x.w.request x.w.ports (suc (length x.w.docked)) left
      → HaveSides x.w.request x.w.ports (length x.w.docked) (whole x left)
  whole-have y left long rest =
      let own : All (HasSidesIn x.w) (first x).resources.items = first-has x.w.request x.w.ports (length x.w.docked) x.sides x.spare x.some have in
      subst (HaveSides x.w.request x.w.ports (length x.w.docked)) (sym (first-whole x.sides x.new left x.some long))
      (kept-hold x.w x.listed (HasSidesIn x.w) (λ r kept h. h) (first x) x.new y.kept own, rest)
