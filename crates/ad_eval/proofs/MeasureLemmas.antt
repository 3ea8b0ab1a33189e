-- That evaluations end: with each reference less are left, and an expression of the world is no larger than the world.
use Rattle.std.proofs.Common.{◌≡◌, ◌≢◌, ◌≤◌, ◌<◌, ◌+◌, ◌-◌, ◌*◌, ℕ, zero, suc}
use Rattle.std.proofs.Common.{sub-one, List, [], ◌∷◌, Some, option_map, slice_get, unwrap_or, refl, ap, arith}
use Rattle.ad_tree.specs.Tree.{Tree, size}
use Rattle.ad_tree.specs.Frames.{Frame, expr_at}
use Rattle.eval_scope.specs.World.{PlainWorld, ads, expr_of}
use Rattle.pool_text.specs.declared.language.Pos.{Pos}

-- how large the expressions of attributes, frames and ads are together
abbrev pub attributes_size : List (List ℕ × Tree) → ℕ
attributes_size [] = 0
attributes_size (a ∷ rest) = size a.1 + attributes_size rest

abbrev pub frames_size : List Frame → ℕ
frames_size [] = 0
frames_size (f ∷ fs) = attributes_size f.attributes + frames_size fs

abbrev pub ads_size : List (List Frame) → ℕ
ads_size [] = 0
ads_size (ad ∷ rest) = frames_size ad + ads_size rest

size-attribute : (attributes : List (List ℕ × Tree)) (k : ℕ) (t : Tree) → option_map (λ a. a.1) (slice_get attributes k) ≡ Some t
    → size t ≤ attributes_size attributes
size-attribute [] k t e = absurd (cc)
size-attribute (a ∷ rest) zero t e = let same : a.1 ≡ t = cc in omega (arith, ap size same)
size-attribute (a ∷ rest) (suc k) t e = omega (arith, size-attribute rest k t e)

size-frame : (fs : List Frame) (f k : ℕ) (t : Tree) → expr_at fs f k ≡ Some t → size t ≤ frames_size fs
size-frame [] f k t e = absurd (cc)
size-frame (g ∷ fs) zero k t e = omega (arith, size-attribute g.attributes k t e)
size-frame (g ∷ fs) (suc f) k t e = omega (arith, size-frame fs f k t e)

size-ad : (all : List (List Frame)) (ad f k : ℕ) (t : Tree) → expr_at (unwrap_or (slice_get all ad) []) f k ≡ Some t → size t ≤ ads_size all
size-ad [] ad f k t e = absurd (cc)
size-ad (fs ∷ all) zero f k t e = omega (arith, size-frame fs f k t e)
size-ad (fs ∷ all) (suc ad) f k t e = omega (arith, size-ad all ad f k t e)

-- one more than what all expressions of a world take
pub turn : PlainWorld → ℕ
turn w = suc (ads_size (ads w))

pub size-turn : (w : PlainWorld) (s : Pos) (t : Tree) → expr_of w s ≡ Some t → size t < turn w
unfolding turn
size-turn w s t e = omega (arith, size-ad (ads w) s.ad s.frame s.attr t e)

-- a reference less pays for the expression that is entered
pub turn-less : (w : PlainWorld) (left inside : ℕ) → left ≢ 0 → inside < turn w → (left - 1) * turn w + inside < left * turn w
turn-less w zero inside some less = absurd (some refl)
turn-less w (suc left) inside some less = rw (sub-one (suc left)) (grind arith)
