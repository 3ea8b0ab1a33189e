-- A name is looked for frame by frame, from the inside out.
use Rattle.std.proofs.Common.{refl, arith, ◌≡◌, ◌<◌, ap, ℕ, zero, suc, List, ◌∷◌, Option, None, Some}
use Rattle.std.specs.Option.{option_or}
use Rattle.ad_tree.specs.Tree.{Tree}
use Rattle.ad_tree.specs.Frames.{Frame, parent_of}
use Rattle.ad_tree.specs.Enclosing.{upward, first_expr, enclosed_expr, expr_named}

-- what a name has in a frame that may be missing, and in those that enclose it
abbrev pub enclosed_any : List Frame → List ℕ → Option ℕ → Option Tree
enclosed_any fs name None = None
enclosed_any fs name (Some f) = enclosed_expr fs f name

-- with no frame to begin with, there are none
no-frames : (n m : ℕ) (fs : List Frame) → upward n fs None ≡ upward m fs None
no-frames zero zero fs = refl
no-frames zero (suc m) fs = refl
no-frames (suc n) zero fs = refl
no-frames (suc n) (suc m) fs = refl

module _ (fs : List Frame) (lower : (f parent : ℕ) → parent_of fs f ≡ Some parent → parent < f) where
  -- there are no more frames than numbers below the first, so more turns find no more
  upward-more : (n m f : ℕ) → f < n → f < m → upward n fs (Some f) ≡ upward m fs (Some f)
  upward-more zero m f below within = absurd (omega (arith, below))
  upward-more (suc n) zero f below within = absurd (omega (arith, within))
  upward-more (suc n) (suc m) f below within =
      ap (λ rest. f ∷ rest) (by (λ p less. upward-more n m p (omega (arith, less, below)) (omega (arith, less, within))) (parent_of fs f) refl)
    where
      by : ((p : ℕ) → p < f → upward n fs (Some p) ≡ upward m fs (Some p)) → (parent : Option ℕ) → parent_of fs f ≡ parent
          → upward n fs parent ≡ upward m fs parent
      by more None is = no-frames n m fs
      by more (Some p) is = more p (lower f p is)

  -- the frame itself first, then its parent with those that enclose it
  pub enclosed-step : (f : ℕ) (name : List ℕ) → enclosed_expr fs f name ≡ option_or (expr_named fs f name) (enclosed_any fs name (parent_of fs f))
  enclosed-step f name = ap (option_or (expr_named fs f name)) (by (parent_of fs f) refl)
    where
      none-above : (n : ℕ) → first_expr fs name (upward n fs None) ≡ None
      none-above zero = refl
      none-above (suc n) = refl

      by : (parent : Option ℕ) → parent_of fs f ≡ parent → first_expr fs name (upward f fs parent) ≡ enclosed_any fs name parent
      by None is = none-above f
      by (Some p) is = ap (first_expr fs name) (upward-more f (suc p) p (lower f p is) (omega arith))
