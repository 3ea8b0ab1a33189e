-- The rows for lists of numbers. A Boolean counts as 1 or 0.
use Rattle.std.specs.Prelude.{Bool, true, false, not, ℤ, pos, ◌+ℤ◌, List, [], ◌∷◌, Option, None, Some, option_map, if◌then◌else◌}
use Rattle.std.specs.Int.{int_max, int_min}
use Rattle.std.specs.List.{filter_map, fold, list_all, list_any}
use Rattle.std.specs.Option.{option_map_or}
use Rattle.ad_value.specs.Plain.{Plain, undefined, error, boolean, integer, decimal, list, elements}
use Rattle.ad_value.specs.Numbers.{decimal_or_error, in_millionths, integer_or_error, number_of, whole_part}
use Rattle.builtin_funcs.specs.Kinds.{is_decimal, is_undefined}

-- a number, or Undefined
abbrev pub may_be_number : Plain → Bool
may_be_number undefined = true
may_be_number (integer n) = true
may_be_number (decimal m) = true
may_be_number (boolean b) = true
may_be_number other = false

-- the number of a value: in millionths where there are Decimals, and else whole
abbrev pub amount_of : Bool → Plain → Option ℤ
amount_of true value = option_map in_millionths (number_of value)
amount_of false value = option_map whole_part (number_of value)

-- such a number as a value, Error where it is out of 64 bits
abbrev pub value_in : Bool → ℤ → Plain
value_in true m = decimal_or_error m
value_in false n = integer_or_error n

-- a row of the numbers of a list, given how to make a value of a number
abbrev pub row_in : ((ℤ → Plain) → List ℤ → Plain) → Bool → List Plain → Plain
row_in row decimals items = row (value_in decimals) (filter_map (amount_of decimals) items)

-- Error where an element is Error or no number, else Undefined where one is Undefined, else the row of the numbers, as a Decimal where one is a Decimal
abbrev pub aggregate : ((ℤ → Plain) → List ℤ → Plain) → List Plain → Plain
aggregate row items =
    if not (list_all may_be_number items) then error else if list_any is_undefined items then undefined else row_in row (list_any is_decimal items) items

-- the whole sum, which alone must be in 64 bits
abbrev pub total : (ℤ → Plain) → List ℤ → Plain
total value numbers = value (fold ◌+ℤ◌ (pos 0) numbers)

-- the number that is chosen among all, none where there is none
abbrev pub chosen_of : (ℤ → ℤ → ℤ) → List ℤ → Option ℤ
chosen_of choose [] = None
chosen_of choose (n ∷ ns) = Some (fold choose n ns)

-- the least number, Undefined where there is none
abbrev pub least : (ℤ → Plain) → List ℤ → Plain
least value numbers = option_map_or value (chosen_of int_min numbers) undefined

-- the greatest number, Undefined where there is none
abbrev pub greatest : (ℤ → Plain) → List ℤ → Plain
greatest value numbers = option_map_or value (chosen_of int_max numbers) undefined

-- a number so far and one more, where each may be absent
abbrev pub with_number : (ℤ → ℤ → ℤ) → Option ℤ → Option ℤ → Option ℤ
with_number choose (Some m) (Some n) = Some (choose m n)
with_number choose None number = number
with_number choose so_far None = so_far

-- a row for a list alone
abbrev pub on_list : (List Plain → Plain) → Plain → Plain
on_list row (list items) = row (elements items)
on_list row other = error
