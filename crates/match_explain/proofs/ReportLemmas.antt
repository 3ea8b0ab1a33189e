-- Verdicts ad by ad, and rows conjunct by conjunct.
use Rattle.std.proofs.Common.{◌≡◌, ◌∙◌, ap, sym, refl, ℕ, zero, suc, ◌+◌, ◌<◌, ◌≤◌, add-one, All, List, [], ◌∷◌, ◌++◌}
use Rattle.std.proofs.Common.{drop, length, map, take, get_or, Option, None, Some, option_map, slice_get, subst, arith}
use Rattle.std.proofs.lemmas.List.{append-nil, drop_all, map-append, take_all, take_more}
use Rattle.std.proofs.lemmas.List.Elements.{All-tail}
use Rattle.std.proofs.lemmas.List.Sums.{sum_by_more, sum_by_more_le}
use Rattle.std.proofs.lemmas.Option.{get_or_from_slice_get, slice_get_within}
use Rattle.ad_tree.specs.Frames.{Frame}
use Rattle.ad_tree.specs.Inline.{spelled_tree}
use Rattle.ad_tree.specs.Small.{IsSmall}
use Rattle.ad_tree.specs.Tree.{Tree}
use Rattle.ad_tree.specs.declared.request.Port.{Port}
use Rattle.ad_store.specs.Stock.{Advert}
use Rattle.ad_printer.specs.Printed.{printed}
use Rattle.eval_scope.specs.World.{PlainWorld, with_docked}
use Rattle.match_explain.specs.declared.report.Conjunct.{Conjunct}
use Rattle.match_explain.specs.declared.report.Verdict.{Verdict}
use Rattle.match_explain.specs.Counted.{counted, evaluations_for, evaluations_most, rows_of}
use Rattle.match_explain.specs.Why.{docked_to, holding, holds_for, verdict, verdicts}
use Rattle.match_explain.proofs.CountLemmas.{counts-next}

-- ---- worlds

module _ (moment : ℕ) (request ad : List Frame) where
  -- the world in which the ad is docked
  pub docked-world : (ports : List Port) (w v : PlainWorld) → w ≡ record { moment = moment; request = request; ports = ports; docked = [] }
      → v ≡ with_docked w ad → ports ≡ [] → v ≡ docked_to moment request ad
  docked-world ports w v new docked single =
      docked
      ∙ ap (λ (u : PlainWorld). with_docked u ad) new
      ∙ ap (λ (ps : List Port). record { moment = moment; request = request; ports = ps; docked = ad ∷ [] }) single

-- ---- ads

pub found-small : (ads : List Advert) (i : ℕ) (fs : List Frame) → All (λ advert. IsSmall advert.ad) ads
    → option_map (λ (a : Advert). a.ad) (slice_get ads i) ≡ Some fs → IsSmall fs
found-small [] i fs small is = absurd (cc)
found-small (a ∷ ads) zero fs small is = let same : a.ad ≡ fs = cc in subst IsSmall same (small 0 a (omega arith))
found-small (a ∷ ads) (suc i) fs small is = found-small ads i fs (All-tail (λ (advert : Advert). IsSmall advert.ad) a ads small) is

-- an ad that stands at a place
pub record Standing (ads : List Advert) (i : ℕ) (fs : List Frame) : Type 0 where
  pub advert : Advert
  pub here : slice_get ads i ≡ Some advert
  pub frames : advert.ad ≡ fs

pub standing : (ads : List Advert) (i : ℕ) (fs : List Frame) → option_map (λ (a : Advert). a.ad) (slice_get ads i) ≡ Some fs → Standing ads i fs
standing ads i fs is = by (slice_get ads i) refl is
  where
    by : (o : Option Advert) → slice_get ads i ≡ o → option_map (λ (a : Advert). a.ad) o ≡ Some fs → Standing ads i fs
    by None there is = absurd (cc)
    by (Some a) there is = record { advert = a; here = there; frames = cc }

module _ (moment : ℕ) (request : List Frame) (ads : List Advert) (i : ℕ) (fs : List Frame)
    (is : option_map (λ (a : Advert). a.ad) (slice_get ads i) ≡ Some fs) where
  it : Standing ads i fs
  it = standing ads i fs is

  within : i < length ads
  within = slice_get_within ads i it.advert it.here

  same : get_or ads i it.advert ≡ it.advert
  same = get_or_from_slice_get ads i it.advert it.advert it.here

  -- one verdict more
  pub verdicts-next : (old new : List Verdict) (v : Verdict) → old ≡ verdicts moment request (take i ads) → v ≡ verdict (docked_to moment request fs)
      → new ≡ old ++ v ∷ [] → new ≡ verdicts moment request (take (i + 1) ads)
  verdicts-next old new v so_far next added =
      let told : Advert → Verdict = λ a. verdict (docked_to moment request a.ad) in
      added
      ∙ (λ k. so_far k ++ ((next ∙ ap (λ (f : List Frame). verdict (docked_to moment request f)) (sym it.frames)) k) ∷ [])
      ∙ ap (λ (a : Advert). verdicts moment request (take i ads) ++ told a ∷ []) (sym same)
      ∙ sym (map-append told (take i ads) (get_or ads i it.advert ∷ []))
      ∙ ap (map told) (sym (take_more ads i it.advert within))

  pub counts-now : (ts : List Tree) (old new : List ℕ) → old ≡ map (holding moment request (take i ads)) ts
      → new ≡ counted (map (holds_for moment request fs) ts) old → new ≡ map (holding moment request (take (i + 1) ads)) ts
  counts-now ts old new so_far next =
      next
      ∙ (λ k. counted (map (holds_for moment request ((sym it.frames) k)) ts) (so_far k))
      ∙ counts-next moment request ads i it.advert it.here ts

  abbrev one-ad : Advert → ℕ
  one-ad a = evaluations_for request a.ad

  here-is : one-ad (get_or ads i it.advert) ≡ evaluations_for request fs
  here-is = ap one-ad same ∙ ap (evaluations_for request) it.frames

  pub evaluations-next : (before now after : ℕ) → now ≤ before + evaluations_most request (take i ads) → after ≤ now + evaluations_for request fs
      → after ≤ before + evaluations_most request (take (i + 1) ads)
  evaluations-next before now after so_far step = omega (arith, so_far, step, here-is, sum_by_more one-ad ads i it.advert within)

  pub evaluations-stay : (before now after : ℕ) → now ≤ before + evaluations_most request (take i ads) → after ≤ now + evaluations_for request fs
      → after ≤ before + evaluations_most request ads
  evaluations-stay before now after so_far step = omega (arith, so_far, step, here-is, sum_by_more_le one-ad ads i it.advert within)

-- ---- rows

-- as many rows as conjuncts, where each has a count
rows-suc : (fs : List Frame) (ts : List Tree) (ns : List ℕ) (i : ℕ) (t : Tree) (n : ℕ) → slice_get ts i ≡ Some t → slice_get ns i ≡ Some n
    → rows_of fs (take i ts) ns ++ (record { text = printed (spelled_tree fs t); holds = n }) ∷ [] ≡ rows_of fs (take (suc i) ts) ns
rows-suc fs [] ns i t n there beside = absurd (cc)
rows-suc fs (u ∷ ts) [] i t n there beside = absurd (cc)
rows-suc fs (u ∷ ts) (m ∷ ns) zero t n there beside =
    let same : u ≡ t = cc in
    let equal : m ≡ n = cc in
    (λ k. (record { text = printed (spelled_tree fs ((sym same) k)); holds = (sym equal) k }) ∷ [])
rows-suc fs (u ∷ ts) (m ∷ ns) (suc i) t n there beside =
    ap (λ rest. (record { text = printed (spelled_tree fs u); holds = m }) ∷ rest) (rows-suc fs ts ns i t n there beside)

pub rows-next : (fs : List Frame) (ts : List Tree) (ns : List ℕ) (i : ℕ) (t : Tree) (n : ℕ) (text : List ℕ) (old new : List Conjunct)
    → slice_get ts i ≡ Some t → slice_get ns i ≡ Some n
    → old ≡ rows_of fs (take i ts) ns → text ≡ printed (spelled_tree fs t) → new ≡ old ++ (record { text = text; holds = n }) ∷ []
    → new ≡ rows_of fs (take (i + 1) ts) ns
rows-next fs ts ns i t n text old new there beside so_far told added =
    rw (add-one i) (added ∙ (λ k. so_far k ++ (record { text = told k; holds = n }) ∷ []) ∙ rows-suc fs ts ns i t n there beside)

-- the rows of conjuncts with their own counts
pub rows-all : (fs : List Frame) (f : Tree → ℕ) (ts : List Tree)
    → rows_of fs ts (map f ts) ≡ map (λ t. record { text = printed (spelled_tree fs t); holds = f t }) ts
rows-all fs f [] = refl
rows-all fs f (t ∷ ts) = ap (λ rest. (record { text = printed (spelled_tree fs t); holds = f t }) ∷ rest) (rows-all fs f ts)

-- a list of the same length that is written over another
pub written-over : {X : Type 0} (old new : List X) (len : ℕ) → length new ≡ length old → len ≡ length old
    → take len (new ++ drop (length new) old) ≡ new
written-over old new len same whole =
    ap (λ rest. take len (new ++ rest)) (drop_all (length new) old (omega (arith, same))) ∙ ap (take len) (append-nil new)
    ∙ take_all len new (omega (arith, same, whole))
