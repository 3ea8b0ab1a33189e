-- Docks with resources that are given by their slots.
use Rattle.std.proofs.Common.{◌≡◌, ◌<◌, ◌≤◌, ◌+◌, ◌-◌, ℕ, zero, suc, Bool, true, false, not, cond, refl, List, [], ◌∷◌}
use Rattle.std.proofs.Common.{◌++◌, take, get_or, length, max, slice_get, Option, None, Some, option_map, unwrap_or, Contains, All, if◌then◌else◌, ap}
use Rattle.std.proofs.Common.{sym, ◌∙◌, subst, arith}
use Rattle.std.specs.List.{position_or_len}
use Rattle.std.specs.Option.{option_map_or}
use Rattle.std.proofs.lemmas.Bool.{eq-eqb, eqb-true}
use Rattle.std.proofs.lemmas.List.Elements.{All-tail}
use Rattle.std.proofs.lemmas.List.{length-map, length-take-le, map_more, take_all}
use Rattle.std.proofs.Math.Dec.{eqb}
use Rattle.pool_text.specs.declared.language.AdPlace.{AdPlace}
use Rattle.ad_tree.specs.Ad.{ad_frames}
use Rattle.ad_tree.specs.Frames.{Frame}
use Rattle.ad_tree.specs.declared.request.Request.{Request}
use Rattle.ad_store.specs.Stock.{Advert, Stock}
use Rattle.ad_tree.specs.Requests.{ArePorts}
use Rattle.ad_tree.specs.declared.request.Port.{Port}
use Rattle.eval_scope.specs.World.{PlainWorld, port_frame, request_side, with_docked}
use Rattle.ad_eval.specs.Dock.{is_docked}
use Rattle.conjunct_plan.specs.Decided.{is_dock_decided}
use Rattle.conjunct_plan.specs.Tests.{labels_of}
use Rattle.dock_match.specs.Docks.{is_last_decided, last_ad, last_open}
use Rattle.dock_match.specs.Pool.{ad_in, slots_world}
use Rattle.dock_match.specs.Sides.{open_sides}
use Rattle.dock_match.proofs.DecidedLemmas.{not-docked}

-- a number stands at its first place
position-stands : (xs : List ℕ) (x k : ℕ) → k < length xs → get_or xs k x ≡ x → slice_get xs (position_or_len (λ y. eqb y x) xs) ≡ Some x
position-stands [] x k within is = absurd (omega (arith, within))
position-stands (y ∷ ys) x k within is = by (eqb y x) refl k within is (λ i l e. position-stands ys x i l e)
  where
    by : (b : Bool) → eqb y x ≡ b → (k : ℕ) → k < length (y ∷ ys) → get_or (y ∷ ys) k x ≡ x
        → ((i : ℕ) → i < length ys → get_or ys i x ≡ x → slice_get ys (position_or_len (λ z. eqb z x) ys) ≡ Some x)
        → slice_get (y ∷ ys) (cond (not b) (1 + position_or_len (λ z. eqb z x) ys) 0) ≡ Some x
    by true e k within is later = ap (λ n. Some n) (eqb-true y x e)
    by false e zero within is later = let same : eqb y x ≡ true = eq-eqb y x is in absurd (cc)
    by false e (suc k) within is later =
        let next : 1 + position_or_len (λ z. eqb z x) ys ≡ suc (position_or_len (λ z. eqb z x) ys) = omega arith in
        ap (slice_get (y ∷ ys)) next ∙ later k (omega (arith, within)) is

-- the frames that a look finds are those of the ad in the slot
pub ad-looked : (stock : Stock) (slot : ℕ) (fs : List Frame) → Contains stock.slots slot
    → ((i : ℕ) → slice_get stock.slots i ≡ Some slot → option_map (λ a. a.ad) (slice_get stock.ads i) ≡ Some fs) → fs ≡ ad_in stock slot
ad-looked stock slot fs here looked =
    let place = position_or_len (λ s. eqb s slot) stock.slots in
    sym (by (slice_get stock.ads place) (looked place (position-stands stock.slots slot here.0 here.1 here.2)))
  where
    by : (o : Option Advert) → option_map (λ a. a.ad) o ≡ Some fs → option_map_or (λ (a : Advert). a.ad) o [] ≡ fs
    by None e = absurd (cc)
    by (Some a) e = cc

module _ (moment : ℕ) (stock : Stock) (request : Request) where
  -- the world with the resource in the next slot docked
  pub dock-next : (slots : List ℕ) (i d : ℕ) (w v : PlainWorld) (fs : List Frame) → i < length slots
      → w ≡ slots_world moment stock request (take i slots)
      → fs ≡ ad_in stock (get_or slots i d) → v ≡ with_docked w fs → v ≡ slots_world moment stock request (take (i + 1) slots)
  dock-next slots i d w v fs within so_far ad docked =
      docked
      ∙ ap (λ (u : PlainWorld). with_docked u fs) so_far
      ∙ ap (λ (a : List Frame). with_docked (slots_world moment stock request (take i slots)) a) ad
      ∙ ap (λ (ads : List (List Frame)). record { moment = moment; request = ad_frames request.ad; ports = request.ports; docked = ads })
      (sym (map_more (ad_in stock) slots i d within))

  -- so many are docked
  pub docked-few : (slots : List ℕ) (i : ℕ) (w : PlainWorld) → w ≡ slots_world moment stock request (take i slots) → i < length slots
      → length slots ≤ 8 → length w.docked < 8
  docked-few slots i w so_far within few =
      let long : length w.docked ≡ i =
      ap (λ (u : PlainWorld). length u.docked) so_far ∙ length-map (take i slots) (ad_in stock) ∙ length-take-le i slots (omega (arith, within)) in
      omega (arith, long, within, few)

  -- one more may be docked to those that stand before the last
  pub room-for-last : (slots : List ℕ) (w : PlainWorld) → length slots ≤ 8 → 0 < length slots
      → w ≡ slots_world moment stock request (take (length slots - 1) slots) → length w.docked < 8
  room-for-last slots w few some so_far = docked-few slots (length slots - 1) w so_far (omega (arith, some)) few

  pub dock-all : (slots : List ℕ) (i : ℕ) (w : PlainWorld) → length slots ≤ i → w ≡ slots_world moment stock request (take i slots)
      → w ≡ slots_world moment stock request slots
  dock-all slots i w past so_far = so_far ∙ ap (slots_world moment stock request) (take_all i slots past)

-- ---- the last dock

push-at : (xs : List (List Frame)) (x : List Frame) → slice_get (xs ++ x ∷ []) (length xs) ≡ Some x
push-at [] x = refl
push-at (y ∷ ys) x = push-at ys x

-- the ad that was docked last
pub last-docked : (w : PlainWorld) (fs : List Frame) → last_ad (with_docked w fs) ≡ fs
last-docked w fs =
    let long : length (w.docked ++ fs ∷ []) ≡ suc (length w.docked) = by w.docked in
    ap (λ k. unwrap_or (slice_get (w.request ∷ w.docked ++ fs ∷ []) k) []) long
    ∙ ap (λ o. unwrap_or o []) (push-at w.docked fs)
  where
    by : (xs : List (List Frame)) → length (xs ++ fs ∷ []) ≡ suc (length xs)
    by [] = refl
    by (x ∷ xs) = ap suc (by xs)

module _ (moment : ℕ) (stock : Stock) (request : Request) (slots : List ℕ) (some : 0 < length slots) (last : ℕ) (is : last ≡ length slots - 1)
    (w v : PlainWorld) (fs : List Frame) (before : w ≡ slots_world moment stock request (take last slots)) (ad : fs ≡ ad_in stock (get_or slots last 0))
    (docked : v ≡ with_docked w fs) where
  pub pair-world : v ≡ slots_world moment stock request slots
  pair-world =
      dock-next moment stock request slots last 0 w v fs (omega (arith, some, is)) before ad docked
      ∙ ap (slots_world moment stock request) (take_all (last + 1) slots (omega (arith, some, is)))

  -- what depends on the sides of the dock is the same in that world
  pair-seen : {A : Type 0} (seen : List Frame → ℕ → List (List ℕ) → List Frame → A) (at : AdPlace) → at ≡ request_side v
      → seen (ad_frames request.ad) at.frame (labels_of request.ports) fs
      ≡ seen (ad_frames request.ad) (request_side (slots_world moment stock request slots)).frame (labels_of request.ports)
      (last_ad (slots_world moment stock request slots))
  pair-seen seen at side =
      let world = pair-world in
      ap (λ (p : AdPlace). seen (ad_frames request.ad) p.frame (labels_of request.ports) fs) side
      ∙ ap (λ (u : PlainWorld). seen (ad_frames request.ad) (request_side u).frame (labels_of request.ports) fs) world
      ∙ ap (seen (ad_frames request.ad) (request_side (slots_world moment stock request slots)).frame (labels_of request.ports))
      (sym (sym (ap last_ad world) ∙ ap last_ad docked ∙ last-docked w fs))

  -- the dock is decided as the contract of the tests says it, and the same sides are open
  pub pair-decided : (at : AdPlace) → at ≡ request_side v
      → is_dock_decided (ad_frames request.ad) at.frame (labels_of request.ports) fs ≡ is_last_decided (slots_world moment stock request slots)
  pair-decided = pair-seen is_dock_decided

  pub pair-open : (at : AdPlace) → at ≡ request_side v → open_sides (ad_frames request.ad) at.frame (labels_of request.ports) fs ≡ last_open v
  pair-open at side = pair-seen open_sides at side ∙ ap last_open (sym pair-world)

-- a decided dock of resources that are given by their slots isn't true
pub none-docked : (moment : ℕ) (stock : Stock) (request : Request) (slots : List ℕ) → 0 < length slots
    → is_last_decided (slots_world moment stock request slots) ≡ true → is_docked (slots_world moment stock request slots) ≡ false
none-docked moment stock request slots some decided =
    let long = length-map slots (ad_in stock) in
    not-docked (slots_world moment stock request slots) (omega (arith, some, long)) decided

-- what is counted where a dock isn't decided
pub most-undecided : (decided : Bool) (n before after : ℕ) → decided ≡ false → after ≤ before + n → after ≤ before + (if decided then 0 else n)
most-undecided true n before after e most = absurd (cc)
most-undecided false n before after e most = most

-- no more are docked than a gang has ports at most
pub few-slots : (fs : List Frame) (ports : List Port) (n : ℕ) → ArePorts fs ports → n ≤ max 1 (length ports) → n ≤ 8
few-slots fs ports n are fit = let few = are.few in omega (arith, few, fit)

-- what holds of all holds of each
All-read : (P : Port → Type 0) (ports : List Port) (i : ℕ) (port : Port) → All P ports → slice_get ports i ≡ Some port → P port
All-read P [] i port all e = absurd (cc)
All-read P (first ∷ ports) zero port all e = let same : first ≡ port = cc in subst P same (all 0 first (omega arith))
All-read P (first ∷ ports) (suc i) port all e = All-read P ports i port (All-tail P first ports all) e

-- a request's frame at which a dock is, is one of its frames
pub frame-there : (fs : List Frame) (ports : List Port) (k : ℕ) → ArePorts fs ports → 0 < length fs → port_frame ports k < length fs
frame-there fs ports k are some = by (slice_get ports (k - 1)) refl
  where
    by : (o : Option Port) → slice_get ports (k - 1) ≡ o → unwrap_or (option_map (λ port. port.frame) o) 0 < length fs
    by None e = some
    by (Some port) e = All-read (λ (p : Port). p.frame < length fs) ports (k - 1) port are.within e
