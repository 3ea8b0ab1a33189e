-- Names are looked for among those of their length alone.
use Rattle.std.proofs.Common.{◌≡◌, ℕ, Bool, true, false, cond, List, [], ◌∷◌, length, filter, eqb, Option, refl, sym, ◌∙◌, ap, arith}
use Rattle.std.specs.Char.{to_ascii_lowercase}
use Rattle.std.proofs.lemmas.List.{length-map}
use Rattle.std.specs.Str.{bytes_eq}
use Rattle.std.proofs.lemmas.Bool.Decides.{nat_tests}
use Rattle.std.proofs.lemmas.Slice.Eq.{bytes_eq-Decides}
use Rattle.pool_text.specs.Folding.{folded}
use Rattle.builtin_funcs.specs.declared.function.Function.{Function}
use Rattle.builtin_funcs.specs.Functions.{function_in, function_named, function_names}

not_true : (r : Bool) → (r ≡ true → ⊥) → r ≡ false
not_true false never = refl
not_true true never = absurd (never refl)

-- names of different lengths are different
lengths_apart : (a b : List ℕ) → eqb (length a) (length b) ≡ false → bytes_eq (folded a) (folded b) ≡ false
lengths_apart a b apart =
    not_true _ (λ yes.
    let same : folded a ≡ folded b = (bytes_eq-Decides (folded a) (folded b)).0 yes in
    let lengths : length a ≡ length b = sym (length-map a to_ascii_lowercase) ∙ ap length same ∙ length-map b to_ascii_lowercase in
    grind (arith, nat_tests))

passed_over : (same : Bool) (f : Function) (o : Option Function) → same ≡ false → cond same (Option.Some f) o ≡ o
passed_over false f o is = refl
passed_over true f o is = absurd (cc)

kept : (here : Bool) (entry : List ℕ × Function) (table : List (List ℕ × Function)) (name : List ℕ) → eqb (length entry.0) (length name) ≡ here
    → function_in (filter (λ e. eqb (length e.0) (length name)) table) name ≡ function_in table name
    → function_in (cond here (entry ∷ filter (λ e. eqb (length e.0) (length name)) table) (filter (λ e. eqb (length e.0) (length name)) table)) name
    ≡ function_in (entry ∷ table) name
kept true entry table name is left = ap (λ o. cond (bytes_eq (folded entry.0) (folded name)) (Option.Some entry.1) o) left
kept false entry table name is left = left ∙ sym (passed_over _ entry.1 _ (lengths_apart entry.0 name is))

pub function_in-of_length : (table : List (List ℕ × Function)) (name : List ℕ)
    → function_in (filter (λ e. eqb (length e.0) (length name)) table) name ≡ function_in table name
function_in-of_length [] name = refl
function_in-of_length (entry ∷ table) name = kept _ entry table name refl (function_in-of_length table name)

-- a name of n bytes is looked for among the names of n bytes
pub function_named-of_length : (n : ℕ) (name : List ℕ) → length name ≡ n
    → function_in (filter (λ e. eqb (length e.0) n) function_names) name ≡ function_named name
unfolding function_named
function_named-of_length n name count =
    ap (λ m. function_in (filter (λ e. eqb (length e.0) m) function_names) name) (sym count) ∙ function_in-of_length function_names name
