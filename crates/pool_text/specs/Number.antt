-- Whole numbers and decimals as text.
use Rattle.std.specs.Prelude.{ℕ, suc, ◌+◌, ◌^◌, ◌/◌, ◌%◌, Bool, not, ◌&&◌, ◌==◌, nat_lt, ℤ, pos, negsuc, decimal, List, [], ◌∷◌, ◌++◌, length, take}
use Rattle.std.specs.Prelude.{slice_index, Option, None, Some, if◌then◌else◌}
use Rattle.std.specs.Str.{all_ascii_digits}
use Rattle.std.specs.Str.Parse.{digits_value}

-- one or more digits, of which the first is 0 only where it stands alone
abbrev pub is_numeral : List ℕ → Bool
is_numeral bytes = all_ascii_digits bytes && (if slice_index bytes 0 == 48 then length bytes == 1 else nat_lt 0 (length bytes))

-- the number of 64 bits that a numeral writes
abbrev pub number_of : List ℕ → Option ℕ
number_of bytes = if is_numeral bytes && nat_lt (digits_value 10 bytes) (2 ^ 64) then Some (digits_value 10 bytes) else None

-- the six digits of a number below a million
abbrev pub six_digits : ℕ → List ℕ
six_digits n =
    (48 + n / 100000 % 10) ∷ (48 + n / 10000 % 10) ∷ (48 + n / 1000 % 10) ∷ (48 + n / 100 % 10) ∷ (48 + n / 10 % 10) ∷ (48 + n % 10) ∷ []

-- how many of them are printed: those up to the last that isn't 0, and the first at least
unfoldable pub printed_digits : ℕ → ℕ
printed_digits n =
    if not (n % 10 == 0) then 6 else (if not (n % 100 == 0) then 5 else (if not (n % 1000 == 0) then 4
    else (if not (n % 10000 == 0) then 3 else (if not (n % 100000 == 0) then 2 else 1))))

-- what is printed behind the dot, for so many millionths
abbrev pub fraction_text : ℕ → List ℕ
fraction_text n = take (printed_digits n) (six_digits n)

-- so many millionths: the whole part, a dot and what is printed behind it
abbrev pub size_text : ℕ → List ℕ
size_text n = decimal (n / 1000000) ++ 46 ∷ fraction_text (n % 1000000)

-- the same, without the dot and what follows where the number is whole
abbrev pub shortest_size : ℕ → List ℕ
shortest_size n = if n % 1000000 == 0 then decimal (n / 1000000) else size_text n

-- a decimal, given in millionths, with `-` before one below 0; `negsuc n` is -(n + 1)
abbrev pub decimal_text : ℤ → List ℕ
decimal_text (pos n) = size_text n
decimal_text (negsuc n) = 45 ∷ size_text (suc n)

-- the same, without the dot and what follows where the number is whole
abbrev pub shortest_text : ℤ → List ℕ
shortest_text (pos n) = shortest_size n
shortest_text (negsuc n) = 45 ∷ shortest_size (suc n)
