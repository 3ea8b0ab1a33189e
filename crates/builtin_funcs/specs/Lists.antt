-- The rows that look through a list.
use Rattle.std.specs.Prelude.{ℕ, Bool, List, [], ◌∷◌, Option, None, Some, codes, if◌then◌else◌}
use Rattle.std.specs.List.{list_all, list_any}
use Rattle.std.specs.Str.{bytes_eq}
use Rattle.std.specs.Option.{option_map_or}
use Rattle.pool_text.specs.declared.language.BinOp.{BinOp}
use Rattle.ad_value.specs.Logic.{is_true}
use Rattle.ad_value.specs.Plain.{Plain, error, boolean, text, list, elements}
use Rattle.ad_value.specs.Operators.{binary_value, is_same}
use Rattle.builtin_funcs.specs.Kinds.{is_scalar}

-- `a op b` is true
abbrev pub compares : BinOp → Plain → Plain → Bool
compares op a b = is_true (binary_value op a b)

-- whether `x == e` is true for some element e
abbrev pub member_value : Plain → Plain → Plain
member_value x (list items) = if is_scalar x then boolean (list_any (compares BinOp.Equal x) (elements items)) else error
member_value x other = error

-- whether `x is e` is true for some element e
abbrev pub identical_member_value : Plain → Plain → Plain
identical_member_value x (list items) = boolean (list_any (is_same x) (elements items))
identical_member_value x other = error

-- the operator that a table has for a spelling
abbrev pub comparison_in : List (List ℕ × BinOp) → List ℕ → Option BinOp
comparison_in [] spelling = None
comparison_in (entry ∷ table) spelling = if bytes_eq entry.0 spelling then Some entry.1 else comparison_in table spelling

-- the operators that `anyCompare` and `allCompare` know, as they are spelled
abbrev pub comparisons : List (List ℕ × BinOp)
comparisons =
    (codes "<", BinOp.Less) ∷ (codes "<=", BinOp.AtMost) ∷ (codes "==", BinOp.Equal) ∷ (codes "!=", BinOp.Unequal)
    ∷ (codes ">=", BinOp.AtLeast) ∷ (codes ">", BinOp.Greater) ∷ (codes "is", BinOp.Same) ∷ (codes "isnt", BinOp.NotSame)
    ∷ (codes "=?=", BinOp.Same) ∷ (codes "=!=", BinOp.NotSame) ∷ []

-- the operator of a spelling
abbrev pub comparison_named : List ℕ → Option BinOp
comparison_named spelling = comparison_in comparisons spelling

-- whether `e op x` is true for some element e
abbrev pub any_compare_value : Plain → Plain → Plain → Plain
any_compare_value (text spelling) (list items) x =
    option_map_or (λ op. boolean (list_any (λ e. compares op e x) (elements items))) (comparison_named spelling) error
any_compare_value op items x = error

-- whether `e op x` is true for every element e
abbrev pub all_compare_value : Plain → Plain → Plain → Plain
all_compare_value (text spelling) (list items) x =
    option_map_or (λ op. boolean (list_all (λ e. compares op e x) (elements items))) (comparison_named spelling) error
all_compare_value op items x = error
