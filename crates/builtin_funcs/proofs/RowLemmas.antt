-- The row of a function is that of its number of arguments, but for `strcat`.
use Rattle.std.proofs.Common.{◌≡◌, ℕ, List, [], ◌∷◌, length, slice_get, Option, Some, Result, Ok, Err, IfOk, refl, sym, ◌∙◌, ap, arith}
use Rattle.ad_value.specs.Plain.{Plain, error}
use Rattle.builtin_funcs.specs.declared.function.Function.{Function}
use Rattle.builtin_funcs.specs.Rows.{row_of, row_of_none, row_of_one, row_of_two, row_of_three}

-- the row by the number of arguments
abbrev by_count : Function → List Plain → ℕ → Plain
by_count f [] moment = row_of_none f moment
by_count f (x ∷ []) moment = row_of_one f x
by_count f (x ∷ y ∷ []) moment = row_of_two f x y
by_count f (x ∷ y ∷ z ∷ []) moment = row_of_three f x y z
by_count f (x ∷ y ∷ z ∷ w ∷ args) moment = error

by_count-row : (f : Function) (args : List Plain) (moment : ℕ) → (f ≡ Function.Strcat → ⊥) → by_count f args moment ≡ row_of f args moment
by_count-row Function.Strcat args moment other = absurd (other refl)
by_count-row f [] moment other = refl
by_count-row f (x ∷ []) moment other = refl
by_count-row f (x ∷ y ∷ []) moment other = refl
by_count-row f (x ∷ y ∷ z ∷ []) moment other = refl
by_count-row f (x ∷ y ∷ z ∷ w ∷ args) moment other = refl

there : {x y : Plain} → Option.Some x ≡ Option.Some y → x ≡ y
there is = cc

pub none-row : (f : Function) (args : List Plain) (moment : ℕ) → (f ≡ Function.Strcat → ⊥) → length args ≡ 0 → row_of_none f moment ≡ row_of f args moment
none-row f [] moment other count = by_count-row f [] moment other
none-row f (x ∷ args) moment other count = absurd (omega (arith, count))

pub one-row : (f : Function) (args : List Plain) (moment : ℕ) (x : Plain) → (f ≡ Function.Strcat → ⊥) → length args ≡ 1 → slice_get args 0 ≡ Some x
    → row_of_one f x ≡ row_of f args moment
one-row f (a ∷ []) moment x other count first = ap (row_of_one f) (sym (there first)) ∙ by_count-row f (a ∷ []) moment other
one-row f [] moment x other count first = absurd (omega (arith, count))
one-row f (a ∷ b ∷ args) moment x other count first = absurd (omega (arith, count))

pub two-row : (f : Function) (args : List Plain) (moment : ℕ) (x y : Plain) → (f ≡ Function.Strcat → ⊥) → length args ≡ 2 → slice_get args 0 ≡ Some x
    → slice_get args 1 ≡ Some y
    → row_of_two f x y ≡ row_of f args moment
two-row f (a ∷ b ∷ []) moment x y other count first second =
    ap (λ v. row_of_two f v y) (sym (there first)) ∙ ap (row_of_two f a) (sym (there second)) ∙ by_count-row f (a ∷ b ∷ []) moment other
two-row f [] moment x y other count first second = absurd (omega (arith, count))
two-row f (a ∷ []) moment x y other count first second = absurd (omega (arith, count))
two-row f (a ∷ b ∷ c ∷ args) moment x y other count first second = absurd (omega (arith, count))

pub three-row : (f : Function) (args : List Plain) (moment : ℕ) (x y z : Plain) → (f ≡ Function.Strcat → ⊥) → length args ≡ 3
    → slice_get args 0 ≡ Some x → slice_get args 1 ≡ Some y → slice_get args 2 ≡ Some z
    → row_of_three f x y z ≡ row_of f args moment
three-row f (a ∷ b ∷ c ∷ []) moment x y z other count first second third =
    ap (λ v. row_of_three f v y z) (sym (there first))
    ∙ ap (λ v. row_of_three f a v z) (sym (there second))
    ∙ ap (row_of_three f a b) (sym (there third))
    ∙ by_count-row f (a ∷ b ∷ c ∷ []) moment other
three-row f [] moment x y z other count first second third = absurd (omega (arith, count))
three-row f (a ∷ []) moment x y z other count first second third = absurd (omega (arith, count))
three-row f (a ∷ b ∷ []) moment x y z other count first second third = absurd (omega (arith, count))
three-row f (a ∷ b ∷ c ∷ d ∷ args) moment x y z other count first second third = absurd (omega (arith, count))

-- what an Ok tells, told on
pub if_ok : {A E : Type 0} (r : Result A E) {P Q : A → Type 0} → ((a : A) → P a → Q a) → IfOk r P → IfOk r Q
if_ok (Ok a) f h = f a h
if_ok (Err e) f h = h
