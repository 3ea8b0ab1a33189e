-- The rows for texts.
use Rattle.std.specs.Prelude.{ℕ, ◌+◌, ◌-◌, min, Bool, true, false, not, ◌&&◌, ◌==◌, nat_lt, ℤ, pos, negsuc, List, [], length, filter, codes, slice_range}
use Rattle.std.specs.Prelude.{if◌then◌else◌}
use Rattle.std.specs.declared.cmp.Ordering.{Ordering}
use Rattle.std.specs.Ordering.{int_eq, nat_cmp}
use Rattle.std.specs.Cmp.Lexicographic.{slice_cmp}
use Rattle.std.specs.Fmt.{signed_decimal}
use Rattle.std.specs.List.{flat_map, list_all, list_any, slice_split}
use Rattle.std.specs.Str.{all_ascii_digits, bytes_eq}
use Rattle.std.specs.Str.Parse.{signed_digits_value, without_leading_sign}
use Rattle.pool_text.specs.Folding.{folded, text_order}
use Rattle.pool_text.specs.Number.{decimal_text}
use Rattle.ad_value.specs.Plain.{Plain, error, boolean, integer, decimal, text}
use Rattle.ad_value.specs.Numbers.{integer_or_error, number_of, whole_part}
use Rattle.ad_value.specs.Operators.{on_number}
use Rattle.builtin_funcs.specs.Kinds.{is_scalar}

-- ---- from one kind to another

-- a value as text: a String is itself
abbrev pub written : Plain → List ℕ
written (text bytes) = bytes
written (integer n) = signed_decimal n
written (decimal m) = decimal_text m
written (boolean true) = codes "true"
written (boolean false) = codes "false"
written other = []

-- a Boolean, an Integer, a Decimal or a String as a String
abbrev pub string_value : Plain → Plain
string_value x = if is_scalar x then text (written x) else error

-- the Integer that an optional sign and one or more decimal digits write, where it is in 64 bits
abbrev pub integer_in : List ℕ → Plain
integer_in bytes =
    if nat_lt 0 (length (without_leading_sign bytes)) && all_ascii_digits (without_leading_sign bytes) then integer_or_error (signed_digits_value 10
    bytes) else error

-- a number cut towards zero, or the Integer that a String writes
abbrev pub int_value : Plain → Plain
int_value (text bytes) = integer_in bytes
int_value x = on_number (λ n. integer (whole_part n)) (number_of x)

-- the Boolean that `true` or `false` names, in capital or small letters
abbrev pub boolean_in : List ℕ → Plain
boolean_in bytes =
    if bytes_eq (folded bytes) (codes "true") then boolean true else if bytes_eq (folded bytes) (codes "false") then boolean false else error

-- a Boolean, whether an Integer or a Decimal isn't 0, or the Boolean that a String names
abbrev pub bool_value : Plain → Plain
bool_value (boolean b) = boolean b
bool_value (integer n) = boolean (not (int_eq n (pos 0)))
bool_value (decimal m) = boolean (not (int_eq m (pos 0)))
bool_value (text bytes) = boolean_in bytes
bool_value other = error

-- ---- texts

-- the arguments as text, one behind the other
abbrev pub strcat_value : List Plain → Plain
strcat_value args = if list_all is_scalar args then text (flat_map written args) else error

-- the place that an offset names in n bytes: from the end where it is below 0, and always from 0 to n
abbrev pub start_of : ℕ → ℤ → ℕ
start_of n (pos offset) = min offset n
start_of n (negsuc before) = n - (before + 1)

-- the place behind the last byte of so many from a start, or so many less than n where the number is below 0
abbrev pub end_of : ℕ → ℕ → ℤ → ℕ
end_of n start (pos len) = min (start + len) n
end_of n start (negsuc less) = n - (less + 1)

-- the bytes from an offset to the end
abbrev pub tail_value : Plain → Plain → Plain
tail_value (text bytes) (integer offset) = text (slice_range bytes (start_of (length bytes) offset) (length bytes))
tail_value s offset = error

-- the bytes from an offset up to an end
abbrev pub part_value : Plain → Plain → Plain → Plain
part_value (text bytes) (integer offset) (integer len) =
    let start = start_of (length bytes) offset in text (slice_range bytes start (end_of (length bytes) start len))
part_value s offset len = error

-- -1, 0 or 1
abbrev pub order_number : Ordering → ℤ
order_number Ordering.Less = negsuc 0
order_number Ordering.Equal = pos 0
order_number Ordering.Greater = pos 1

-- how two Strings compare by bytes
abbrev pub strcmp_value : Plain → Plain → Plain
strcmp_value (text a) (text b) = integer (order_number (slice_cmp nat_cmp a b))
strcmp_value a b = error

-- how two Strings compare after folding
abbrev pub stricmp_value : Plain → Plain → Plain
stricmp_value (text a) (text b) = integer (order_number (text_order a b))
stricmp_value a b = error

-- a row for a String alone
abbrev pub on_text : (List ℕ → Plain) → Plain → Plain
on_text row (text bytes) = row bytes
on_text row other = error

-- ---- string lists

-- the bytes that divide the items of a string list where none are given: `, `
abbrev pub usual_delimiters : Plain
usual_delimiters = text (codes ", ")

-- the longest runs of bytes that are no delimiters
abbrev pub items_of : List ℕ → List ℕ → List (List ℕ)
items_of delimiters bytes = filter (λ part. nat_lt 0 (length part)) (slice_split (λ byte. list_any (λ d. d == byte) delimiters) bytes)

-- some bytes, of which none is a delimiter
abbrev pub is_item : List ℕ → List ℕ → Bool
is_item delimiters bytes = nat_lt 0 (length bytes) && not (list_any (λ byte. list_any (λ d. d == byte) delimiters) bytes)

-- whether the text is one of the items
abbrev pub string_list_member_value : Plain → Plain → Plain → Plain
string_list_member_value (text x) (text bytes) (text delimiters) = boolean (list_any (bytes_eq x) (items_of delimiters bytes))
string_list_member_value x s d = error

-- how many items there are
abbrev pub string_list_size_value : Plain → Plain → Plain
string_list_size_value (text bytes) (text delimiters) = integer (pos (length (items_of delimiters bytes)))
string_list_size_value s d = error
