-- Laws of the functions of texts: `string` with `int`, `toLower`, `strcat`, and string lists.
use Rattle.std.proofs.Common.{◌≡◌, ℕ, suc, ◌^◌, ◌<◌, ◌≤◌, Bool, true, false, ◌&&◌, ◌||◌, not, cond, ltb, eqb, codes, decimal, List, [], ◌∷◌, ◌++◌, length}
use Rattle.std.proofs.Common.{get_or, drop, filter, map, ℤ, pos, negsuc, neg_ℤ, refl, sym, ◌∙◌, ap, arith}
use Rattle.std.specs.Prelude.{FitsSigned}
use Rattle.std.specs.Int.{w64, IsInRange}
use Rattle.std.specs.Fmt.{signed_decimal}
use Rattle.std.specs.List.{All, concat, flat_map, join_with_byte, list_all, list_any, onto_first, slice_split}
use Rattle.std.specs.Str.Parse.{digits_value, signed_digits_value, starts_with_minus, without_leading_plus, without_leading_sign}
use Rattle.std.proofs.lemmas.Bool.Decides.{nat_tests}
use Rattle.std.proofs.lemmas.Fmt.{decimal_is_IsNumeral, length-decimal-le}
use Rattle.std.proofs.lemmas.List.Elements.{All-cons, All-nil}
use Rattle.std.proofs.lemmas.List.Splits.{slice_split_at, slice_split_none}
use Rattle.std.proofs.lemmas.Str.Parse.{digit_at, without_leading_plus_none}
use Rattle.pool_text.specs.Folding.{folded}
use Rattle.ad_value.specs.Plain.{Plain, error, integer, text, undefined}
use Rattle.ad_value.specs.Limits.{bounded}
use Rattle.ad_value.specs.Operators.{weight_of}
use Rattle.builtin_funcs.specs.Calls.{call_value, function_value}
use Rattle.builtin_funcs.specs.Functions.{function_named}
use Rattle.builtin_funcs.specs.Kinds.{is_error, is_scalar, is_undefined}
use Rattle.builtin_funcs.specs.Texts.{integer_in, is_item, items_of, strcat_value, written}
use Rattle.builtin_funcs.proofs.NumberLemmas.{integer_in-parsed}

light : (v : Plain) → weight_of v ≤ 65536 → bounded v ≡ v
light v small = let tested : ltb 65536 (weight_of v) ≡ false = grind (arith, nat_tests) in ap (λ b. cond b error v) tested

-- ---- `string` and `int`

begins_with_digit : (n : ℕ) → n < 2 ^ 63 → IsInRange 48 57 (get_or (decimal n) 0 0)
begins_with_digit n small = let numeral = (decimal_is_IsNumeral n (omega arith)).0 in digit_at (decimal n) 0 numeral.1 numeral.0

not_minus : (n : ℕ) → n < 2 ^ 63 → starts_with_minus (decimal n) ≡ false
not_minus n small = let digit = begins_with_digit n small in grind (arith, nat_tests)

no_sign : (n : ℕ) → n < 2 ^ 63 → without_leading_sign (decimal n) ≡ decimal n
no_sign n small =
    let digit = begins_with_digit n small in
    ap (λ b. cond b (drop 1 (decimal n)) (without_leading_plus (decimal n))) (not_minus n small) ∙ without_leading_plus_none (decimal n) (omega arith)

read_positive : (n : ℕ) → n < 2 ^ 63 → signed_digits_value 10 (decimal n) ≡ pos n
read_positive n small =
    ap (λ b. cond b (neg_ℤ (pos (digits_value 10 (without_leading_sign (decimal n))))) (pos (digits_value 10 (without_leading_sign (decimal n)))))
    (not_minus n small)
    ∙ ap (λ ds. pos (digits_value 10 ds)) (no_sign n small)
    ∙ ap pos (decimal_is_IsNumeral n (omega arith)).1

fits_as : (z v : ℤ) → v ≡ z → FitsSigned w64 z → FitsSigned w64 v
fits_as z v same fits = rw same fits

read_back : (z : ℤ) → FitsSigned w64 z → integer_in (signed_decimal z) ≡ integer z
read_back (pos n) fits =
    let small : n < 2 ^ 63 = fits.sfits in
    let value = read_positive n small in
    sym (integer_in-parsed (decimal n) (pos n) (rw (no_sign n small) (decimal_is_IsNumeral n (omega arith)).0) (fits_as (pos n) _ value fits) (sym value))
read_back (negsuc n) fits =
    let small : n < 2 ^ 63 = fits.sfits in
    let numeral = decimal_is_IsNumeral (suc n) (omega arith) in
    let value : signed_digits_value 10 (45 ∷ decimal (suc n)) ≡ negsuc n = ap (λ m. neg_ℤ (pos m)) numeral.1 in
    sym (integer_in-parsed (45 ∷ decimal (suc n)) (negsuc n) numeral.0 (fits_as (negsuc n) _ value fits) (sym value))

short : (z : ℤ) → FitsSigned w64 z → length (signed_decimal z) ≤ 20
short (pos n) fits = let small : n < 2 ^ 63 = fits.sfits in omega (arith, length-decimal-le 20 n (omega arith) (omega arith) (omega arith))
short (negsuc n) fits = let small : n < 2 ^ 63 = fits.sfits in omega (arith, length-decimal-le 19 (suc n) (omega arith) (omega arith) (omega arith))

string_of : (z : ℤ) (moment : ℕ) → call_value (codes "string") (integer z ∷ []) moment ≡ bounded (text (signed_decimal z))
unfolding function_named function_value
string_of z moment = refl

int_of : (bytes : List ℕ) (moment : ℕ) → call_value (codes "int") (text bytes ∷ []) moment ≡ bounded (integer_in bytes)
unfolding function_named function_value
int_of bytes moment = refl

pub int_reads_string : (z : ℤ) (moment : ℕ) → FitsSigned w64 z
    → call_value (codes "int") (call_value (codes "string") (integer z ∷ []) moment ∷ []) moment ≡ integer z
int_reads_string z moment fits =
    let written_text : call_value (codes "string") (integer z ∷ []) moment ≡ text (signed_decimal z) =
    string_of z moment ∙ light (text (signed_decimal z)) (omega (arith, short z fits)) in
    ap (λ v. call_value (codes "int") (v ∷ []) moment) written_text ∙ int_of (signed_decimal z) moment ∙ ap bounded (read_back z fits)

-- ---- `toLower`

pub to_lower_folds : (bytes : List ℕ) (moment : ℕ) → call_value (codes "toLower") (text bytes ∷ []) moment ≡ bounded (text (folded bytes))
unfolding function_named function_value
to_lower_folds bytes moment = refl

-- ---- `strcat`

strcat_of : (ps : List Plain) (moment : ℕ) → list_any is_error ps ≡ false → list_any is_undefined ps ≡ false
    → call_value (codes "strcat") ps moment ≡ bounded (strcat_value ps)
unfolding function_named function_value
strcat_of ps moment fine defined =
    ap (λ b. bounded (cond b error (cond (list_any is_undefined ps) undefined (strcat_value ps)))) fine
    ∙ ap (λ b. bounded (cond b undefined (strcat_value ps))) defined

no_errors : (texts : List (List ℕ)) → list_any is_error (map text texts) ≡ false
no_errors [] = refl
no_errors (t ∷ ts) = no_errors ts

none_undefined : (texts : List (List ℕ)) → list_any is_undefined (map text texts) ≡ false
none_undefined [] = refl
none_undefined (t ∷ ts) = none_undefined ts

all_scalar : (texts : List (List ℕ)) → list_all is_scalar (map text texts) ≡ true
all_scalar [] = refl
all_scalar (t ∷ ts) = all_scalar ts

written_texts : (texts : List (List ℕ)) → flat_map written (map text texts) ≡ concat texts
written_texts [] = refl
written_texts (t ∷ ts) = ap (λ rest. t ++ rest) (written_texts ts)

pub strcat_joins : (texts : List (List ℕ)) (moment : ℕ) → call_value (codes "strcat") (map text texts) moment ≡ bounded (text (concat texts))
strcat_joins texts moment =
    strcat_of (map text texts) moment (no_errors texts) (none_undefined texts)
    ∙ ap bounded (ap (λ b. cond b (text (flat_map written (map text texts))) error) (all_scalar texts) ∙ ap text (written_texts texts))

-- ---- string lists

abbrev divides : List ℕ → ℕ → Bool
divides delimiters byte = list_any (λ d. eqb d byte) delimiters

passes : (a b : Bool) → (a && not b) ≡ true → (a ≡ true) × (b ≡ false)
passes true false is = (refl, refl)
passes true true is = absurd (cc)
passes false b is = absurd (cc)

both : (a b : Bool) → (a && b) ≡ true → (a ≡ true) × (b ≡ true)
both true b is = (refl, is)
both false b is = absurd (cc)

neither : (a b : Bool) → (a || b) ≡ false → (a ≡ false) × (b ≡ false)
neither false b is = (refl, is)
neither true b is = absurd (cc)

none_divides : (p : ℕ → Bool) (xs : List ℕ) → list_any p xs ≡ false → All (λ x. p x ≡ false) xs
none_divides p [] none = All-nil (λ x. p x ≡ false)
none_divides p (x ∷ xs) none = let parts = neither (p x) (list_any p xs) none in All-cons (λ y. p y ≡ false) x xs parts.0 (none_divides p xs parts.1)

kept_first : (part : List ℕ) (parts : List (List ℕ)) → ltb 0 (length part) ≡ true
    → filter (λ q. ltb 0 (length q)) (part ∷ parts) ≡ part ∷ filter (λ q. ltb 0 (length q)) parts
kept_first part parts some = ap (λ b. cond b (part ∷ filter (λ q. ltb 0 (length q)) parts) (filter (λ q. ltb 0 (length q)) parts)) some

pub items_of-joined : (delimiters : List ℕ) (delimiter : ℕ) (texts : List (List ℕ)) → divides delimiters delimiter ≡ true
    → list_all (is_item delimiters) texts ≡ true → items_of delimiters (join_with_byte delimiter texts) ≡ texts
items_of-joined delimiters delimiter [] one all = refl
items_of-joined delimiters delimiter (x ∷ []) one all =
    let item = passes _ _ (both _ _ all).0 in
    ap (filter (λ q. ltb 0 (length q))) (slice_split_none (divides delimiters) x (none_divides _ x item.1)) ∙ kept_first x [] item.0
items_of-joined delimiters delimiter (x ∷ y ∷ rest) one all =
    let item = passes _ _ (both _ _ all).0 in
    ap (filter (λ q. ltb 0 (length q))) (slice_split_at (divides delimiters) x delimiter (join_with_byte delimiter (y ∷ rest)) (none_divides _ x item.1) one)
    ∙ kept_first x (slice_split (divides delimiters) (join_with_byte delimiter (y ∷ rest))) item.0
    ∙ ap (λ l. x ∷ l) (items_of-joined delimiters delimiter (y ∷ rest) one (both _ _ all).1)

abbrev whole : (ℕ → Bool) → List (List ℕ) → Bool
whole p parts = list_all (λ part. not (list_any p part)) parts

whole-onto_first : (p : ℕ → Bool) (x : ℕ) (parts : List (List ℕ)) → p x ≡ false → whole p parts ≡ true → whole p (onto_first x parts) ≡ true
whole-onto_first p x [] out all = ap (λ b. not (b || false) && true) out
whole-onto_first p x (part ∷ parts) out all = ap (λ b. not (b || list_any p part) && whole p parts) out ∙ all

whole-split : (p : ℕ → Bool) (xs : List ℕ) → whole p (slice_split p xs) ≡ true
whole-split p [] = refl
whole-split p (x ∷ xs) = by_first (p x) refl (whole-split p xs)
  where
    by_first : (b : Bool) → p x ≡ b → whole p (slice_split p xs) ≡ true → whole p (cond b ([] ∷ slice_split p xs) (onto_first x (slice_split p xs))) ≡ true
    by_first true is rest = rest
    by_first false is rest = whole-onto_first p x (slice_split p xs) is rest

kept_whole : (delimiters : List ℕ) (parts : List (List ℕ)) → whole (divides delimiters) parts ≡ true
    → list_all (is_item delimiters) (filter (λ q. ltb 0 (length q)) parts) ≡ true
kept_whole delimiters [] all = refl
kept_whole delimiters (part ∷ parts) all = by_first (ltb 0 (length part)) refl (both _ _ all).0 (kept_whole delimiters parts (both _ _ all).1)
  where
    by_first : (b : Bool) → ltb 0 (length part) ≡ b → not (list_any (divides delimiters) part) ≡ true
        → list_all (is_item delimiters) (filter (λ q. ltb 0 (length q)) parts) ≡ true
        → list_all (is_item delimiters) (cond b (part ∷ filter (λ q. ltb 0 (length q)) parts) (filter (λ q. ltb 0 (length q)) parts)) ≡ true
    by_first true some undivided rest =
        ap (λ b. (b && not (list_any (divides delimiters) part)) && list_all (is_item delimiters) (filter (λ q. ltb 0 (length q)) parts)) some
        ∙ ap (λ b. b && list_all (is_item delimiters) (filter (λ q. ltb 0 (length q)) parts)) undivided
        ∙ rest
    by_first false none undivided rest = rest

pub items_are_items : (delimiters bytes : List ℕ) → list_all (is_item delimiters) (items_of delimiters bytes) ≡ true
items_are_items delimiters bytes = kept_whole delimiters (slice_split (divides delimiters) bytes) (whole-split (divides delimiters) bytes)
