-- Counts of the ads for which conjuncts hold.
use Rattle.std.proofs.Common.{◌≡◌, ◌∙◌, ap, sym, refl, ℕ, zero, suc, ◌+◌, ◌<◌, ◌≤◌, add-one, Bool, true, false, if◌then◌else◌}
use Rattle.std.proofs.Common.{List, [], ◌∷◌, count_by, get_or, length, map, set, take, arith, Some, slice_get}
use Rattle.std.proofs.lemmas.List.Sums.{count_by-le-length, count_by_more_no, count_by_more_yes}
use Rattle.std.proofs.lemmas.Option.{get_or_from_slice_get, slice_get_within}
use Rattle.ad_tree.specs.Frames.{Frame}
use Rattle.ad_tree.specs.Tree.{Tree}
use Rattle.ad_store.specs.Stock.{Advert}
use Rattle.match_explain.specs.Counted.{counted}
use Rattle.match_explain.specs.Why.{holding, holds_for}

-- a count that isn't reached yet is as it was
untouched-suc : (bs : List Bool) (ns : List ℕ) (i : ℕ) → get_or (counted (take i bs) ns) i 0 ≡ get_or ns i 0
untouched-suc [] [] zero = refl
untouched-suc [] [] (suc i) = refl
untouched-suc [] (n ∷ ns) zero = refl
untouched-suc [] (n ∷ ns) (suc i) = refl
untouched-suc (b ∷ bs) [] zero = refl
untouched-suc (b ∷ bs) [] (suc i) = refl
untouched-suc (b ∷ bs) (n ∷ ns) zero = refl
untouched-suc (b ∷ bs) (n ∷ ns) (suc i) = untouched-suc bs ns i

counted-none : (ns : List ℕ) → counted [] ns ≡ ns
counted-none [] = refl
counted-none (n ∷ ns) = refl

-- a count with one more where the truth is
abbrev pub one_more : Bool → ℕ → ℕ
one_more b n = if b then n + 1 else n

next-suc : (bs : List Bool) (ns : List ℕ) (i : ℕ) → i < length bs → length ns ≡ length bs
    → set (counted (take i bs) ns) i (one_more (get_or bs i false) (get_or (counted (take i bs) ns) i 0)) ≡ counted (take (suc i) bs) ns
next-suc [] ns i within beside = absurd (omega (arith, within))
next-suc (b ∷ bs) [] i within beside = absurd (omega (arith, beside))
next-suc (b ∷ bs) (n ∷ ns) zero within beside = ap (λ rest. one_more b n ∷ rest) (sym (counted-none ns))
next-suc (b ∷ bs) (n ∷ ns) (suc i) within beside = ap (λ rest. one_more b n ∷ rest) (next-suc bs ns i (omega (arith, within)) (omega (arith, beside)))

-- the next count
counted-next : (bs : List Bool) (ns : List ℕ) (i : ℕ) → i < length bs → length ns ≡ length bs
    → set (counted (take i bs) ns) i (one_more (get_or bs i false) (get_or (counted (take i bs) ns) i 0)) ≡ counted (take (i + 1) bs) ns
counted-next bs ns i within beside = rw (add-one i) (next-suc bs ns i within beside)

-- written to its place
pub counted-now : (bs : List Bool) (ns now : List ℕ) (i n : ℕ) → i < length bs → length ns ≡ length bs → now ≡ counted (take i bs) ns
    → n ≡ one_more (get_or bs i false) (get_or now i 0) → set now i n ≡ counted (take (i + 1) bs) ns
counted-now bs ns now i n within beside so_far next =
    ap (set now i) next
    ∙ ap (λ (ms : List ℕ). set ms i (one_more (get_or bs i false) (get_or ms i 0))) so_far
    ∙ counted-next bs ns i within beside

-- a count that isn't reached yet is as it was
pub untouched : (bs : List Bool) (ns : List ℕ) (i : ℕ) → get_or (counted (take i bs) ns) i 0 ≡ get_or ns i 0
untouched bs ns i = untouched-suc bs ns i

-- a count of 0 for each
pub zeros-of : {X : Type 0} (f : X → Tree) (es : List X) → map {B = ℕ} (λ (e : X). 0) es ≡ map {B = ℕ} (λ (t : Tree). 0) (map f es)
zeros-of f [] = refl
zeros-of f (e ∷ es) = ap (λ (rest : List ℕ). 0 ∷ rest) (zeros-of f es)

-- ---- counts over ads

module _ (moment : ℕ) (request : List Frame) where
  -- no conjunct holds for more ads than there are
  pub holds-few : (ads : List Advert) (ts : List Tree) (k : ℕ) → get_or (map (holding moment request ads) ts) k 0 ≤ length ads
  holds-few ads [] k = omega arith
  holds-few ads (t ∷ ts) zero = count_by-le-length (λ (advert : Advert). holds_for moment request advert.ad t) ads
  holds-few ads (t ∷ ts) (suc k) = holds-few ads ts k

  module _ (ads : List Advert) (i : ℕ) (advert : Advert) (here : slice_get ads i ≡ Some advert) where
    within : i < length ads
    within = slice_get_within ads i advert here

    same : get_or ads i advert ≡ advert
    same = get_or_from_slice_get ads i advert advert here

    -- one ad more
    holding-next : (t : Tree)
        → one_more (holds_for moment request advert.ad t) (holding moment request (take i ads) t) ≡ holding moment request (take (i + 1) ads) t
    holding-next t = by (holds_for moment request advert.ad t) refl
      where
        passes : Advert → Bool
        passes a = holds_for moment request a.ad t

        by : (b : Bool) → passes advert ≡ b → one_more b (count_by passes (take i ads)) ≡ count_by passes (take (i + 1) ads)
        by true is = sym (count_by_more_yes passes ads i advert within (ap passes same ∙ is))
        by false is = sym (count_by_more_no passes ads i advert within (ap passes same ∙ is))

    pub counts-next : (ts : List Tree)
        → counted (map (holds_for moment request advert.ad) ts) (map (holding moment request (take i ads)) ts)
        ≡ map (holding moment request (take (i + 1) ads)) ts
    counts-next [] = refl
    counts-next (t ∷ ts) = (λ k. (holding-next t) k ∷ (counts-next ts) k)
