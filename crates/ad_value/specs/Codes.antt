-- Values as lists of marks, by which a proof tells them apart: a stack of values is built from the marks in turn.
use Rattle.std.specs.Prelude.{ℕ, Bool, true, false, ℤ, List, [], ◌∷◌, ◌⊎◌, ◌≡◌, refl}
use Rattle.std.specs.Coded.{Coded, code_by, coded_ℕ, coded_ℤ, coded_bool, coded_list, coded×, coded⊎}
use Rattle.std.proofs.Common.{inl, inr, ◌∙◌, ap}
use Rattle.ad_value.specs.Shapes.{Plain, undefined, error, boolean, integer, decimal, text, list, ad_at, Plains, no_plains, plain_then}

-- Undefined or Error; a Boolean; an Integer; a Decimal; a String; the empty list, or that a value goes before a list; an Ad
abbrev pub Mark : Type 0
Mark = Bool ⊎ (Bool ⊎ (ℤ ⊎ (ℤ ⊎ (List ℕ ⊎ (Bool ⊎ (ℕ × ℕ))))))

-- how a mark is stored
abbrev pub mark_code : Coded Mark
mark_code = coded⊎ coded_bool (coded⊎ coded_bool (coded⊎ coded_ℤ (coded⊎ coded_ℤ (coded⊎ (coded_list coded_ℕ) (coded⊎ coded_bool (coded× coded_ℕ coded_ℕ))))))

-- the marks of a value, before others
abbrev mutual
  pub marks : Plain → List Mark → List Mark
  marks undefined ms = inl false ∷ ms
  marks error ms = inl true ∷ ms
  marks (boolean b) ms = inr (inl b) ∷ ms
  marks (integer n) ms = inr (inr (inl n)) ∷ ms
  marks (decimal m) ms = inr (inr (inr (inl m))) ∷ ms
  marks (text bytes) ms = inr (inr (inr (inr (inl bytes)))) ∷ ms
  marks (list ps) ms = marks_of ps ms
  marks (ad_at place) ms = inr (inr (inr (inr (inr (inr (place.ad, place.frame)))))) ∷ ms

  pub marks_of : Plains → List Mark → List Mark
  marks_of no_plains ms = inr (inr (inr (inr (inr (inl false))))) ∷ ms
  marks_of (plain_then p ps) ms = marks_of ps (marks p (inr (inr (inr (inr (inr (inl true))))) ∷ ms))

-- the value on the top goes before the list below it
abbrev pub put_before : List Plain → List Plain
put_before (p ∷ list ps ∷ more) = list (plain_then p ps) ∷ more
put_before stack = stack

-- a stack with what a mark says
abbrev pub marked : Mark → List Plain → List Plain
marked (inl false) stack = undefined ∷ stack
marked (inl true) stack = error ∷ stack
marked (inr (inl b)) stack = boolean b ∷ stack
marked (inr (inr (inl n))) stack = integer n ∷ stack
marked (inr (inr (inr (inl m)))) stack = decimal m ∷ stack
marked (inr (inr (inr (inr (inl bytes))))) stack = text bytes ∷ stack
marked (inr (inr (inr (inr (inr (inl false)))))) stack = list no_plains ∷ stack
marked (inr (inr (inr (inr (inr (inl true)))))) stack = put_before stack
marked (inr (inr (inr (inr (inr (inr place)))))) stack = ad_at (record { ad = place.0; frame = place.1 }) ∷ stack

-- a stack with what marks say, one behind the other
abbrev pub all_marked : List Mark → List Plain → List Plain
all_marked [] stack = stack
all_marked (m ∷ ms) stack = all_marked ms (marked m stack)

-- the value on the top of a stack
abbrev pub top : List Plain → Plain
top [] = undefined
top (p ∷ stack) = p

-- the marks of a value put it onto the stack
mutual
  pub marks-back : (p : Plain) (ms : List Mark) (stack : List Plain) → all_marked (marks p ms) stack ≡ all_marked ms (p ∷ stack)
  marks-back undefined ms stack = refl
  marks-back error ms stack = refl
  marks-back (boolean b) ms stack = refl
  marks-back (integer n) ms stack = refl
  marks-back (decimal m) ms stack = refl
  marks-back (text bytes) ms stack = refl
  marks-back (list ps) ms stack = marks_of-back ps ms stack
  marks-back (ad_at place) ms stack = refl

  pub marks_of-back : (ps : Plains) (ms : List Mark) (stack : List Plain) → all_marked (marks_of ps ms) stack ≡ all_marked ms (list ps ∷ stack)
  marks_of-back no_plains ms stack = refl
  marks_of-back (plain_then p ps) ms stack =
      marks_of-back ps (marks p (inr (inr (inr (inr (inr (inl true))))) ∷ ms)) stack
      ∙ marks-back p (inr (inr (inr (inr (inr (inl true))))) ∷ ms) (list ps ∷ stack)

-- a value is stored as its marks
abbrev pub plain_code : Coded Plain
plain_code = code_by (List Mark) (coded_list mark_code) (λ p. marks p []) (λ ms. top (all_marked ms [])) (λ p. ap top (marks-back p [] []))
