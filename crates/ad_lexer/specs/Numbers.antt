-- Integers in three bases, and decimals.
use Rattle.std.specs.Prelude.{ℕ, ◌+◌, ◌*◌, ◌^◌, Bool, not, ◌&&◌, ◌||◌, ◌==◌, nat_lt, List, [], ◌∷◌, length, take, drop, slice_index, slice_index_or}
use Rattle.std.specs.Prelude.{if◌then◌else◌}
use Rattle.std.specs.Char.{is_ascii_digit, is_ascii_hexdigit, is_digit}
use Rattle.std.specs.List.{list_all, prefix_len}
use Rattle.std.specs.Str.Parse.{digits_value}

-- `0x` or `0X` stands first
abbrev pub is_hexadecimal : List ℕ → Bool
is_hexadecimal bytes = slice_index bytes 0 == 48 && (slice_index bytes 1 == 120 || slice_index bytes 1 == 88)

-- 16 behind `0x`, 8 where a 0 stands before more digits, and else 10
abbrev pub base : List ℕ → ℕ
base bytes =
    if is_hexadecimal bytes then 16
    else (if slice_index bytes 0 == 48 && nat_lt 1 (length bytes) then 8 else 10)

-- the digits, without the `0x` before them
abbrev pub digits : List ℕ → List ℕ
digits bytes = if is_hexadecimal bytes then drop 2 bytes else bytes

-- the value that an integer's bytes spell
abbrev pub value : List ℕ → ℕ
value bytes = digits_value (base bytes) (digits bytes)

-- one or more digits of the base, whose value is at most 9223372036854775807
abbrev pub is_integer : List ℕ → Bool
is_integer bytes =
    (nat_lt 0 (length (digits bytes)) && list_all (λ c. is_digit c (base bytes)) (digits bytes))
    && nat_lt (value bytes) (2 ^ 63)

-- how many decimal digits stand first
abbrev pub digits_len : List ℕ → ℕ
digits_len bytes = prefix_len is_ascii_digit bytes

-- the digits of a decimal before its dot
abbrev pub whole_digits : List ℕ → List ℕ
whole_digits bytes = take (digits_len bytes) bytes

-- and those behind it
abbrev pub fraction_digits : List ℕ → List ℕ
fraction_digits bytes = drop (digits_len bytes + 1) bytes

-- the first six digits, filled up with zeros
abbrev pub first_six : List ℕ → List ℕ
first_six ds =
    slice_index_or ds 0 48 ∷ slice_index_or ds 1 48 ∷ slice_index_or ds 2 48
    ∷ slice_index_or ds 3 48 ∷ slice_index_or ds 4 48 ∷ slice_index_or ds 5 48 ∷ []

-- how many millionths a decimal's bytes spell; what stands behind the sixth digit is cut
abbrev pub millionths : List ℕ → ℕ
millionths bytes = digits_value 10 (whole_digits bytes) * 1000000 + digits_value 10 (first_six (fraction_digits bytes))

-- one or more digits, a dot, and one or more digits
abbrev pub is_dotted : List ℕ → Bool
is_dotted bytes =
    (nat_lt 0 (digits_len bytes) && slice_index bytes (digits_len bytes) == 46)
    && (nat_lt 0 (length (fraction_digits bytes)) && list_all is_ascii_digit (fraction_digits bytes))

-- the same, of at most 9223372036854775807 millionths
abbrev pub is_decimal_number : List ℕ → Bool
is_decimal_number bytes = is_dotted bytes && nat_lt (millionths bytes) (2 ^ 63)

-- the number that stands first is a decimal: a dot and a digit follow its digits
abbrev pub has_fraction : List ℕ → Bool
has_fraction text =
    not (is_hexadecimal text) && (slice_index text (digits_len text) == 46 && is_ascii_digit (slice_index text (digits_len text + 1)))

-- a decimal or an integer
abbrev pub is_number : Bool → List ℕ → Bool
is_number decimal bytes = if decimal then is_decimal_number bytes else is_integer bytes

-- the length of the number that stands first: a maximal run of decimal digits, with the dot and the maximal run behind it
-- where it is a decimal; or `0x` and a maximal run of hexadecimal digits, which may be empty
abbrev pub number_len : List ℕ → ℕ
number_len text =
    if is_hexadecimal text then 2 + prefix_len is_ascii_hexdigit (drop 2 text)
    else (if has_fraction text then digits_len text + 1 + digits_len (drop (digits_len text + 1) text)
    else digits_len text)
