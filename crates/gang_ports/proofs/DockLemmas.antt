-- The worlds of prefixes, and which docks in them can be true.
use Rattle.std.proofs.Common.{◌≡◌, ℕ, suc, Bool, true, false, not, ◌&&◌, refl, List, [], ◌∷◌, ◌++◌, length, map, filter, Option, Some}
use Rattle.std.proofs.Common.{slice_get, unwrap_or, ap, sym, ◌∙◌, arith}
use Rattle.ad_tree.specs.Frames.{Frame}
use Rattle.ad_tree.specs.declared.request.Port.{Port}
use Rattle.ad_eval.specs.Dock.{is_docked}
use Rattle.conjunct_plan.specs.Decided.{is_dock_decided}
use Rattle.conjunct_plan.specs.Tests.{labels_of}
use Rattle.eval_scope.specs.World.{PlainWorld, port_frame, with_docked}
use Rattle.dock_match.specs.Docks.{is_last_decided, last_ad}
use Rattle.dock_match.specs.Pool.{Pool}
use Rattle.dock_match.proofs.DecidedLemmas.{not-docked}
use Rattle.gang_ports.specs.Choice.{fits, is_among, next}
use Rattle.gang_ports.specs.Gangs.{ad_at, choice_of, free_places, gang_world, is_open, open_places}
use Rattle.gang_ports.proofs.ListLemmas.{filter-narrow, length-mapped, length-more, map-more}

-- ---- the ad docked last

pub get-last : {X : Type 0} (xs : List X) (x : X) → slice_get (xs ++ x ∷ []) (length xs) ≡ Some x
get-last [] x = refl
get-last (y ∷ xs) x = get-last xs x

module _ (pool : Pool) (request : List Frame) (ports : List Port) (before : List ℕ) (place : ℕ) where
  -- one more resource docked
  pub gang-with : with_docked (gang_world pool request ports before) (ad_at pool place) ≡ gang_world pool request ports (before ++ place ∷ [])
  gang-with =
      ap (λ (docked : List (List Frame)). let w : PlainWorld = record { moment = pool.moment; request = request; ports = ports; docked = docked } in w)
      (sym (map-more (ad_at pool) before place))

  abbrev world : PlainWorld
  world = gang_world pool request ports (before ++ place ∷ [])

  many-docked : length world.docked ≡ suc (length before)
  many-docked =
      ap length (map-more (ad_at pool) before place) ∙ length-more (map (ad_at pool) before) (ad_at pool place) ∙ ap suc (length-mapped (ad_at pool) before)

  last-is : last_ad world ≡ ad_at pool place
  last-is =
      let docked = map (ad_at pool) before in
      ap (λ (ads : List (List Frame)). unwrap_or (slice_get (request ∷ ads) (length ads)) []) (map-more (ad_at pool) before place)
      ∙ ap (λ (n : ℕ). unwrap_or (slice_get (request ∷ (docked ++ ad_at pool place ∷ [])) n) []) (length-more docked (ad_at pool place))
      ∙ ap (λ (o : Option (List Frame)). unwrap_or o []) (get-last docked (ad_at pool place))

  decided-is : is_last_decided world ≡ is_dock_decided request (port_frame ports (suc (length before))) (labels_of ports) (ad_at pool place)
  decided-is =
      ap (λ (n : ℕ). is_dock_decided request (port_frame ports n) (labels_of ports) (last_ad world)) many-docked
      ∙ ap (is_dock_decided request (port_frame ports (suc (length before))) (labels_of ports)) last-is

  -- a dock that is true is undecided
  pub docks-open : is_docked world ≡ true → is_open pool request ports (port_frame ports (suc (length before))) place ≡ true
  docks-open docks = by (is_dock_decided request (port_frame ports (suc (length before))) (labels_of ports) (ad_at pool place)) refl
    where
      by : (b : Bool) → is_dock_decided request (port_frame ports (suc (length before))) (labels_of ports) (ad_at pool place) ≡ b → not b ≡ true
      by true e =
          let wrong : is_docked world ≡ false = not-docked world (omega (arith, many-docked)) (decided-is ∙ e) in
          absurd (cc)
      by false e = refl

-- the next places are among the open ones
module _ (pool : Pool) (request : List Frame) (ports : List Port) (before : List ℕ) where
  fits-open : (place : ℕ) → fits (choice_of pool request ports) before place ≡ true
      → is_open pool request ports (port_frame ports (suc (length before))) place ≡ true
  unfolding fits
  fits-open place e =
      docks-open pool request ports before place (second (not (is_among before place)) (is_docked (gang_world pool request ports (before ++ place ∷ []))) e)
    where
      second : (a b : Bool) → (a && b) ≡ true → b ≡ true
      second true b e = e
      second false b e = absurd (cc)

  pub next-open : filter (fits (choice_of pool request ports) before) (open_places pool request ports (port_frame ports (suc (length before))))
      ≡ next (choice_of pool request ports) before
  unfolding next open_places
  next-open =
      filter-narrow (fits (choice_of pool request ports) before) (is_open pool request ports (port_frame ports (suc (length before)))) fits-open
      (free_places pool)
