-- Whether one resource of an offer passes, and what it takes to tell.
use Rattle.std.proofs.Common.{◌≡◌, ◌<◌, ◌+◌, ◌*◌, ℕ, All, Contains, Bool, true, false, ◌&&◌, if◌then◌else◌, ℤ, List, length}
use Rattle.std.proofs.Common.{Option, None, Some, refl, sym, ◌∙◌, ap, subst}
use Rattle.std.specs.Prelude.{IfOk, Result, is_some, option_map}
use Rattle.std.specs.Option.{option_map_or}
use Rattle.std.proofs.lemmas.Bool.{true≢false}
use Rattle.std.proofs.lemmas.List.Elements.{All-nil, All-weaker}
use Rattle.pool_text.specs.declared.language.AdPlace.{AdPlace}
use Rattle.ad_tree.specs.Ad.{ad_frames}
use Rattle.ad_tree.specs.Frames.{Frame}
use Rattle.ad_tree.specs.declared.request.Request.{Request}
use Rattle.ad_store.specs.Stock.{Stock}
use Rattle.ad_store.specs.declared.holdings.Held.{Held}
use Rattle.ad_store.specs.Holdings.{holding_of}
use Rattle.eval_scope.specs.World.{PlainWorld, attribute_count, port_frame, request_side}
use Rattle.ad_eval.specs.Dock.{is_docked}
use Rattle.conjunct_plan.specs.Decided.{is_dock_decided}
use Rattle.conjunct_plan.specs.Tests.{labels_of}
use Rattle.dock_match.specs.Docks.{is_last_decided, last_ad, last_open}
use Rattle.dock_match.specs.declared.preemption.Preemption.{Preemption}
use Rattle.dock_match.specs.Preemption.{is_yielded, preemption_of, won_from}
use Rattle.dock_match.specs.Pool.{AreStored, hold_of, holder_world, regard_in}
use Rattle.dock_match.specs.Sides.{open_sides}
use Rattle.dock_match.proofs.DecidedLemmas.{not-docked}
use Rattle.dock_match.proofs.DockingLemmas.{frame-there}
use Rattle.claim_table.specs.declared.job.Job.{Job}
use Rattle.claim_table.specs.declared.job.Stage.{Stage}
use Rattle.claim_table.specs.Claims.{entered_in, is_won, passes}
use Rattle.claim_table.specs.Holders.{holder_of}
use Rattle.claim_table.specs.Jobs.{claim_of, slots_of}
use Rattle.claim_table.specs.Priorities.{Setting}
use Rattle.claim_table.proofs.HolderLemmas.{holder-found}

-- ---- the test of literal attributes

module _ (w : PlainWorld) (request : Request) (fs : List Frame) (at : AdPlace) (side : at ≡ request_side w) (asked : w.request ≡ ad_frames request.ad)
    (ports : w.ports ≡ request.ports) (last : last_ad w ≡ fs) where
  -- what depends on the sides of the last dock is the same in that world
  seen-here : {A : Type 0} (seen : List Frame → ℕ → List (List ℕ) → List Frame → A)
      → seen (ad_frames request.ad) at.frame (labels_of request.ports) fs ≡ seen w.request (request_side w).frame (labels_of w.ports) (last_ad w)
  seen-here seen =
      ap (λ (p : AdPlace). seen (ad_frames request.ad) p.frame (labels_of request.ports) fs) side
      ∙ ap (λ (r : List Frame). seen r (request_side w).frame (labels_of request.ports) fs) (sym asked)
      ∙ ap (λ ps. seen w.request (request_side w).frame (labels_of ps) fs) (sym ports)
      ∙ ap (seen w.request (request_side w).frame (labels_of w.ports)) (sym last)

  -- it is decided as the contract of the tests says it, and the same sides are open
  pub decided-here : is_dock_decided (ad_frames request.ad) at.frame (labels_of request.ports) fs ≡ is_last_decided w
  decided-here = seen-here is_dock_decided

  pub open-here : open_sides (ad_frames request.ad) at.frame (labels_of request.ports) fs ≡ last_open w
  open-here = seen-here open_sides

-- a resource whose dock a test decides doesn't pass
pub decided-fails : (moment : ℕ) (stock : Stock) (settings : List Setting) (jobs : List Job) (number slot : ℕ) (w : PlainWorld) → 0 < length w.docked
    → is_last_decided w ≡ true → false ≡ passes moment stock settings jobs number slot w
decided-fails moment stock settings jobs number slot w some decided =
    sym (ap (λ b. b && is_won moment stock settings jobs number slot w) (not-docked w some decided))

-- a resource whose dock isn't true doesn't pass
pub undocked-fails : (moment : ℕ) (stock : Stock) (settings : List Setting) (jobs : List Job) (number slot : ℕ) (w : PlainWorld) → is_docked w ≡ false
    → false ≡ passes moment stock settings jobs number slot w
undocked-fails moment stock settings jobs number slot w undocked = sym (ap (λ b. b && is_won moment stock settings jobs number slot w) undocked)

-- one whose dock is true passes where the job wins it
pub docked-wins : {E : Type 0} (r : Result Bool E) (moment : ℕ) (stock : Stock) (settings : List Setting) (jobs : List Job) (number slot : ℕ)
    (w : PlainWorld) → is_docked w ≡ true
    → IfOk r (λ b. b ≡ is_won moment stock settings jobs number slot w) → IfOk r (λ b. b ≡ passes moment stock settings jobs number slot w)
docked-wins r moment stock settings jobs number slot w docked won =
    subst (λ d. IfOk r (λ b. b ≡ (d && is_won moment stock settings jobs number slot w))) (sym docked) won

-- the request's frame at which the last dock is, is one of its frames
pub frame-here : (w : PlainWorld) (request : Request) (at : AdPlace) → at ≡ request_side w → w.ports ≡ request.ports
    → at.frame < length (ad_frames request.ad)
frame-here w request at side ports =
    let here : at.frame ≡ port_frame request.ports (length w.docked) =
    ap (λ (p : AdPlace). p.frame) side ∙ ap (λ ps. port_frame ps (length w.docked)) ports in
    subst (λ n. n < length (ad_frames request.ad)) (sym here)
    (frame-there (ad_frames request.ad) request.ports (length w.docked) request.are_ports request.ad.is_ad.root)

-- what an undecided dock may enter
pub entered-open : (moment : ℕ) (stock : Stock) (settings : List Setting) (jobs : List Job) (slot : ℕ) (w : PlainWorld) → is_last_decided w ≡ false
    → entered_in moment stock settings jobs slot w ≡ 3 * attribute_count w + option_map_or (λ holding. attribute_count
    (holder_world moment stock holding)) (holder_of settings jobs slot) 0
entered-open moment stock settings jobs slot w undecided =
    ap (λ (b : Bool). if b then 0 else 3 * attribute_count w
    + option_map_or (λ holding. attribute_count (holder_world moment stock holding)) (holder_of settings jobs slot) 0) undecided

-- ---- the holder

-- a resource that nobody has claimed is won
pub unclaimed-won : (moment : ℕ) (stock : Stock) (settings : List Setting) (jobs : List Job) (number slot : ℕ) (w : PlainWorld) (holder : Option Held)
    → is_some holder ≡ false → option_map holding_of holder ≡ holder_of settings jobs slot
    → true ≡ is_won moment stock settings jobs number slot w
unclaimed-won moment stock settings jobs number slot w None none who =
    ap (λ holders. is_yielded number (regard_in w) (option_map (hold_of moment stock) holders)) who
unclaimed-won moment stock settings jobs number slot w (Some h) none who = absurd (true≢false none)

-- one that is claimed is won where the look at its holder tells how
pub won-is : (moment : ℕ) (stock : Stock) (settings : List Setting) (jobs : List Job) (number slot : ℕ) (w : PlainWorld) (holder : Option Held)
    (regard : ℤ) (won : Option Preemption)
    → option_map holding_of holder ≡ holder_of settings jobs slot → regard ≡ regard_in w
    → won ≡ won_from number regard (option_map (hold_of moment stock) (option_map holding_of holder))
    → is_some won ≡ is_won moment stock settings jobs number slot w
won-is moment stock settings jobs number slot w holder regard won who given is =
    let held = option_map (hold_of moment stock) (option_map holding_of holder) in
    ap is_some is
    ∙ where-some (is_yielded number regard held) (preemption_of regard held)
    ∙ ap (λ (k : ℤ). is_yielded number k held) given
    ∙ ap (λ holders. is_yielded number (regard_in w) (option_map (hold_of moment stock) holders)) who
  where
    where-some : (b : Bool) (preemption : Preemption) → is_some (if b then Some preemption else None) ≡ b
    where-some true preemption = refl
    where-some false preemption = refl

-- what is claimed is listed
claim-listed : (P : ℕ → Type 0) (standing : Stage) → All P (slots_of standing) → All P (claim_of standing)
claim-listed P Stage.Idle all = all
claim-listed P (Stage.Matched slots) all = All-nil P
claim-listed P (Stage.Claimed slots) all = all

-- what jobs hold is in the store where all that they list is
pub holders-stored : (stock : Stock) (settings : List Setting) (jobs : List Job) → All (λ job. All (Contains stock.slots) (slots_of job.standing)) jobs
    → AreStored stock (holder_of settings jobs)
holders-stored stock settings jobs all slot h =
    holder-found (λ x. All (Contains stock.slots) x.slots) settings jobs slot h
    (All-weaker (λ job. All (Contains stock.slots) (slots_of job.standing)) (λ job. All (Contains stock.slots) (claim_of job.standing))
    (λ job. claim-listed (Contains stock.slots) job.standing) jobs all)
