-- Values that name no ad but the request and the ad that was docked last: operators and functions give no others.
use Rattle.std.proofs.Common.{◌≡◌, ◌⊎◌, ℕ, zero, suc, Bool, true, false, List, [], ◌∷◌, length, Option, None, Some, IfSome, option_map}
use Rattle.std.proofs.Common.{if◌then◌else◌, ℤ, pos, negsuc, neg_ℤ, ltb, ◌^◌, refl, subst}
use Rattle.std.specs.Prelude.{◌+ℤ◌, ◌-ℤ◌, ◌*ℤ◌, int_div, int_rem, nat_lt, ◌&&◌, not, codes}
use Rattle.std.specs.Int.{int_max, int_min}
use Rattle.std.specs.List.{filter_map, flat_map, fold, list_all, list_any}
use Rattle.std.specs.Ordering.{int_eq}
use Rattle.std.specs.Str.{all_ascii_digits, bytes_eq}
use Rattle.std.specs.Str.Parse.{signed_digits_value, without_leading_sign}
use Rattle.pool_text.specs.Folding.{folded}
use Rattle.std.specs.Option.{option_map_or}
use Rattle.pool_text.specs.declared.language.BinOp.{BinOp}
use Rattle.pool_text.specs.declared.language.Lit.{Lit}
use Rattle.pool_text.specs.declared.language.UnOp.{UnOp}
use Rattle.ad_value.specs.Plain.{Plain, undefined, error, boolean, integer, decimal, text, list, ad_at, Plains, no_plains, plain_then, plain_of_lit, plains_of}
use Rattle.ad_value.specs.Plain.{elements}
use Rattle.ad_value.specs.Demands.{all_demanded, chosen, conjunction, disjunction, element, list_value}
use Rattle.ad_value.specs.Limits.{bounded}
use Rattle.ad_value.specs.Logic.{and_is_decided, and_value, or_is_decided, or_value}
use Rattle.ad_value.specs.declared.number.Number.{Number}
use Rattle.ad_value.specs.Numbers.{decimal_or_error, in_millionths, integer_or_error, million, number_of, number_value, whole_part}
use Rattle.ad_value.specs.Operators.{binary_value, complement, decimal_row, unary_value, integer_row, negated_value, negation, number_row, on_number}
use Rattle.ad_value.specs.Operators.{on_numbers, shifted, strict, strict_row, text_row, unary_row, weight_of}
use Rattle.builtin_funcs.specs.Aggregates.{aggregate, amount_of, chosen_of, greatest, least, may_be_number, on_list, row_in, total, value_in}
use Rattle.builtin_funcs.specs.Calls.{call_value, function_value, is_known, strict_arguments, strict_in}
use Rattle.builtin_funcs.specs.Functions.{function_named, function_names}
use Rattle.builtin_funcs.specs.Kinds.{is_decimal, is_error, is_scalar, is_undefined}
use Rattle.builtin_funcs.specs.Lists.{all_compare_value, any_compare_value, comparison_named, compares, identical_member_value, member_value}
use Rattle.builtin_funcs.specs.Rows.{chosen as chosen_value}
use Rattle.builtin_funcs.specs.Rows.{row_of, size_value}
use Rattle.builtin_funcs.specs.Texts.{bool_value, int_value, on_text, part_value, strcat_value, strcmp_value, stricmp_value, string_list_member_value}
use Rattle.builtin_funcs.specs.Texts.{string_list_size_value, tail_value, written}

-- the request, or the ad that was docked last of n
abbrev pub IsNear : ℕ → ℕ → Type 0
IsNear n k = (k ≡ 0) ⊎ (k ≡ n)

-- each Ad in a value is of these
abbrev mutual
  pub NearValue : ℕ → Plain → Type 0
  NearValue n (ad_at place) = IsNear n place.ad
  NearValue n (list items) = NearValues n items
  NearValue n other = Unit {0}

  pub NearValues : ℕ → Plains → Type 0
  NearValues n no_plains = Unit {0}
  NearValues n (plain_then p ps) = NearValue n p × NearValues n ps

abbrev pub NearOption : ℕ → Option Plain → Type 0
NearOption n None = Unit {0}
NearOption n (Some v) = NearValue n v

abbrev pub AllNear : ℕ → List Plain → Type 0
AllNear n [] = Unit {0}
AllNear n (v ∷ vs) = NearValue n v × AllNear n vs

abbrev pub AllNearOption : ℕ → List (Option Plain) → Type 0
AllNearOption n [] = Unit {0}
AllNearOption n (r ∷ rs) = NearOption n r × AllNearOption n rs

module _ (n : ℕ) where
  if-near : (b : Bool) (v u : Plain) → NearValue n v → NearValue n u → NearValue n (if b then v else u)
  if-near true v u h k = h
  if-near false v u h k = k

  bounded-near : (v : Plain) → NearValue n v → NearValue n (bounded v)
  bounded-near v h = if-near (ltb 65536 (weight_of v)) error v tt h

  -- ---- lists

  plains-near : (vs : List Plain) → AllNear n vs → NearValues n (plains_of vs)
  plains-near [] h = tt
  plains-near (v ∷ vs) h = (h.0, plains-near vs h.1)

  pub list-near : (vs : List Plain) → AllNear n vs → NearValue n (list_value vs)
  list-near vs h = bounded-near (list (plains_of vs)) (plains-near vs h)

  pub element-near : (items : Plains) (z : ℤ) → NearValues n items → NearValue n (element items z)
  element-near items (negsuc k) h = tt
  element-near no_plains (pos k) h = tt
  element-near (plain_then p ps) (pos zero) h = h.0
  element-near (plain_then p ps) (pos (suc k)) h = element-near ps (pos k) h.1

  -- ---- numbers and texts

  number-near : (z : ℤ) → NearValue n (integer_or_error z)
  number-near (pos k) = if-near (ltb k (2 ^ 63)) (integer (pos k)) error tt tt
  number-near (negsuc k) = if-near (ltb k (2 ^ 63)) (integer (negsuc k)) error tt tt

  millionths-near : (z : ℤ) → NearValue n (decimal_or_error z)
  millionths-near (pos k) = if-near (ltb k (2 ^ 63)) (decimal (pos k)) error tt tt
  millionths-near (negsuc k) = if-near (ltb k (2 ^ 63)) (decimal (negsuc k)) error tt tt

  shifted-near : (shift : ℕ → ℤ) (z : ℤ) → NearValue n (shifted shift z)
  shifted-near shift (pos k) = if-near (ltb k 64) (integer (shift k)) error tt tt
  shifted-near shift (negsuc k) = tt

  integer_row-near : (op : BinOp) (x y : ℤ) → NearValue n (integer_row op x y)
  integer_row-near BinOp.ShiftLeft x y = shifted-near _ y
  integer_row-near BinOp.ShiftRight x y = shifted-near _ y
  integer_row-near BinOp.ShiftZero x y = shifted-near _ y
  integer_row-near BinOp.Add x y = number-near (x +ℤ y)
  integer_row-near BinOp.Sub x y = number-near (x -ℤ y)
  integer_row-near BinOp.Mul x y = number-near (x *ℤ y)
  integer_row-near BinOp.Div x y = if-near (int_eq y (pos 0)) error (integer_or_error (int_div x y)) tt (number-near (int_div x y))
  integer_row-near BinOp.Rem x y = if-near (int_eq y (pos 0)) error (integer (int_rem x y)) tt tt
  integer_row-near op x y = tt

  decimal_row-near : (op : BinOp) (x y : ℤ) → NearValue n (decimal_row op x y)
  decimal_row-near BinOp.Add x y = millionths-near (x +ℤ y)
  decimal_row-near BinOp.Sub x y = millionths-near (x -ℤ y)
  decimal_row-near BinOp.Mul x y = millionths-near (int_div (x *ℤ y) million)
  decimal_row-near BinOp.Div x y =
      if-near (int_eq y (pos 0)) error (decimal_or_error (int_div (x *ℤ million) y)) tt (millionths-near (int_div (x *ℤ million) y))
  decimal_row-near BinOp.Rem x y = if-near (int_eq y (pos 0)) error (decimal (int_rem x y)) tt tt
  decimal_row-near op x y = tt

  row-near : (op : BinOp) (x y : Number) → NearValue n (number_row op x y)
  row-near op (Number.Whole x) (Number.Whole y) = integer_row-near op x y
  row-near op x y = decimal_row-near op (in_millionths x) (in_millionths y)

  text-near : (op : BinOp) (a b : List ℕ) → NearValue n (text_row op a b)
  text-near BinOp.Equal a b = tt
  text-near op a b = tt

  numbers-near : (op : BinOp) (a b : Option Number) → NearValue n (on_numbers (number_row op) a b)
  numbers-near op (Some x) (Some y) = row-near op x y
  numbers-near op None b = tt
  numbers-near op (Some x) None = tt

  strict-near : (op : BinOp) (a b : Plain) → NearValue n (strict_row op a b)
  strict-near op (text a) (text b) = text-near op a b
  strict-near op a b = numbers-near op (number_of a) (number_of b)

  pub binary-near : (op : BinOp) (a b : Plain) → NearValue n (binary_value op a b)
  binary-near BinOp.Same a b = tt
  binary-near BinOp.NotSame a b = tt
  binary-near op a b = operands a b
    where
      operands : (a b : Plain) → NearValue n (strict (strict_row op) a b)
      operands error b = tt
      operands a error = tt
      operands undefined b = tt
      operands a undefined = tt
      operands a b = strict-near op a b

  number_row-near : (row : Number → Plain) → ((z : Number) → NearValue n (row z)) → (o : Option Number) → NearValue n (on_number row o)
  number_row-near row h (Some z) = h z
  number_row-near row h None = tt

  value-near : (x : Number) → NearValue n (number_value x)
  value-near (Number.Whole z) = tt
  value-near (Number.Millionths z) = tt

  negation-near : (x : Number) → NearValue n (negation x)
  negation-near (Number.Whole z) = number-near (neg_ℤ z)
  negation-near (Number.Millionths z) = millionths-near (neg_ℤ z)

  complement-near : (x : Number) → NearValue n (complement x)
  complement-near (Number.Whole z) = tt
  complement-near (Number.Millionths z) = tt

  pub unary-near : (op : UnOp) (a : Plain) → NearValue n (unary_value op a)
  unary-near op error = tt
  unary-near op undefined = tt
  unary-near op a = by op
    where
      by : (op : UnOp) → NearValue n (unary_row op a)
      by UnOp.Plus = number_row-near number_value value-near (number_of a)
      by UnOp.Minus = number_row-near negation negation-near (number_of a)
      by UnOp.Not = negated a
        where
          negated : (b : Plain) → NearValue n (negated_value b)
          negated (boolean b) = tt
          negated b = tt
      by UnOp.Complement = number_row-near complement complement-near (number_of a)

  -- ---- chains

  and-near : (a b : Plain) → NearValue n (and_value a b)
  and-near (boolean false) b = tt
  and-near (boolean true) (boolean b) = tt
  and-near (boolean true) undefined = tt
  and-near undefined (boolean false) = tt
  and-near undefined (boolean true) = tt
  and-near undefined undefined = tt
  and-near a b = tt

  or-near : (a b : Plain) → NearValue n (or_value a b)
  or-near (boolean true) b = tt
  or-near (boolean false) (boolean b) = tt
  or-near (boolean false) undefined = tt
  or-near undefined (boolean true) = tt
  or-near undefined (boolean false) = tt
  or-near undefined undefined = tt
  or-near a b = tt

  option-near : (b : Bool) (o p : Option Plain) → NearOption n o → NearOption n p → NearOption n (if b then o else p)
  option-near true o p h k = h
  option-near false o p h k = k

  pub conjunction-near : (left : Plain) (rs : List (Option Plain)) → NearValue n left → NearOption n (conjunction left rs)
  conjunction-near left [] h = h
  conjunction-near left (None ∷ rs) h = option-near (and_is_decided left) (Some left) None h tt
  conjunction-near left (Some p ∷ rs) h =
      option-near (and_is_decided left) (Some left) (conjunction (and_value left p) rs) h (conjunction-near (and_value left p) rs (and-near left p))

  pub disjunction-near : (left : Plain) (rs : List (Option Plain)) → NearValue n left → NearOption n (disjunction left rs)
  disjunction-near left [] h = h
  disjunction-near left (None ∷ rs) h = option-near (or_is_decided left) (Some left) None h tt
  disjunction-near left (Some p ∷ rs) h =
      option-near (or_is_decided left) (Some left) (disjunction (or_value left p) rs) h (disjunction-near (or_value left p) rs (or-near left p))

  pub chosen-near : (a b : Option Plain) (v : Plain) → NearOption n a → NearOption n b → NearOption n (chosen a b v)
  chosen-near a b (boolean true) h k = h
  chosen-near a b (boolean false) h k = k
  chosen-near a b undefined h k = tt
  chosen-near a b v h k = tt

  pub literal-near : (l : Lit) → NearValue n (plain_of_lit l)
  literal-near (Lit.Boolean b) = tt
  literal-near l = tt

  -- ---- results that are demanded

  pub demanded-near : (rs : List (Option Plain)) → AllNearOption n rs → (vs : List Plain) → all_demanded rs ≡ Some vs → AllNear n vs
  demanded-near [] h vs e = let same : [] ≡ vs = cc in subst (AllNear n) same tt
  demanded-near (None ∷ rs) h vs e = absurd (cc)
  demanded-near (Some p ∷ rs) h vs e = by (all_demanded rs) (demanded-near rs h.1) e
    where
      by : (o : Option (List Plain)) → ((us : List Plain) → o ≡ Some us → AllNear n us) → option_map (λ us. p ∷ us) o ≡ Some vs → AllNear n vs
      by None near e = absurd (cc)
      by (Some us) near e = let same : (p ∷ us) ≡ vs = cc in subst (AllNear n) same (h.0, near us refl)

  -- ---- the rows of functions

  on_list-near : (row : List Plain → Plain) → ((vs : List Plain) → NearValue n (row vs)) → (v : Plain) → NearValue n (on_list row v)
  on_list-near row h (list items) = h (elements items)
  on_list-near row h v = tt

  -- a row that is near where it makes its values near
  abbrev IsNearRow : ((ℤ → Plain) → List ℤ → Plain) → Type 0
  IsNearRow row = (value : ℤ → Plain) → ((z : ℤ) → NearValue n (value z)) → (zs : List ℤ) → NearValue n (row value zs)

  value_in-near : (decimals : Bool) (z : ℤ) → NearValue n (value_in decimals z)
  value_in-near true z = millionths-near z
  value_in-near false z = number-near z

  aggregate-near : (row : (ℤ → Plain) → List ℤ → Plain) → IsNearRow row → (v : Plain) → NearValue n (on_list (aggregate row) v)
  aggregate-near row h v = on_list-near (aggregate row) (λ vs.
      let decimals = list_any is_decimal vs in
      if-near (not (list_all may_be_number vs)) error (if list_any is_undefined vs then undefined else row_in row decimals vs) tt
      (if-near (list_any is_undefined vs) undefined (row_in row decimals vs) tt
      (h (value_in decimals) (value_in-near decimals) (filter_map (amount_of decimals) vs)))) v

  found-near : (value : ℤ → Plain) → ((z : ℤ) → NearValue n (value z)) → (o : Option ℤ) → NearValue n (option_map_or value o undefined)
  found-near value h None = tt
  found-near value h (Some z) = h z

  total-near : IsNearRow total
  total-near value h zs = h (fold ◌+ℤ◌ (pos 0) zs)

  least-near : IsNearRow least
  least-near value h zs = found-near value h (chosen_of int_min zs)

  greatest-near : IsNearRow greatest
  greatest-near value h zs = found-near value h (chosen_of int_max zs)

  on_text-near : (row : List ℕ → Plain) → ((bytes : List ℕ) → NearValue n (row bytes)) → (v : Plain) → NearValue n (on_text row v)
  on_text-near row h (text bytes) = h bytes
  on_text-near row h v = tt

  size-near : (v : Plain) → NearValue n (size_value v)
  size-near (text bytes) = tt
  size-near (list items) = number-near (pos (length (elements items)))
  size-near v = tt

  int-near : (v : Plain) → NearValue n (int_value v)
  int-near (text bytes) =
      if-near (nat_lt 0 (length (without_leading_sign bytes)) && all_ascii_digits (without_leading_sign bytes))
      (integer_or_error (signed_digits_value 10 bytes)) error (number-near (signed_digits_value 10 bytes)) tt
  int-near v = number_row-near (λ (x : Number). integer (whole_part x)) (λ x. tt) (number_of v)

  bool-near : (v : Plain) → NearValue n (bool_value v)
  bool-near (boolean b) = tt
  bool-near (integer z) = tt
  bool-near (decimal z) = tt
  bool-near (text bytes) =
      if-near (bytes_eq (folded bytes) (codes "true")) (boolean true) (if bytes_eq (folded bytes) (codes "false") then boolean false else error) tt
      (if-near (bytes_eq (folded bytes) (codes "false")) (boolean false) error tt tt)
  bool-near v = tt

  items-near : (s d : Plain) → NearValue n (string_list_size_value s d)
  items-near (text s) (text d) = tt
  items-near s d = tt

  item-near : (x s d : Plain) → NearValue n (string_list_member_value x s d)
  item-near (text x) (text s) (text d) = tt
  item-near x s d = tt

  member-near : (x l : Plain) → NearValue n (member_value x l)
  member-near x (list items) = if-near (is_scalar x) (boolean (list_any (compares BinOp.Equal x) (elements items))) error tt tt
  member-near x l = tt

  identical-near : (x l : Plain) → NearValue n (identical_member_value x l)
  identical-near x (list items) = tt
  identical-near x l = tt

  tail-near : (s o : Plain) → NearValue n (tail_value s o)
  tail-near (text s) (integer z) = tt
  tail-near s o = tt

  part-near : (s o l : Plain) → NearValue n (part_value s o l)
  part-near (text s) (integer z) (integer l) = tt
  part-near s o l = tt

  strcmp-near : (a b : Plain) → NearValue n (strcmp_value a b)
  strcmp-near (text a) (text b) = tt
  strcmp-near a b = tt

  stricmp-near : (a b : Plain) → NearValue n (stricmp_value a b)
  stricmp-near (text a) (text b) = tt
  stricmp-near a b = tt

  map_or-near : {X : Type 0} (f : X → Plain) → ((x : X) → NearValue n (f x)) → (o : Option X) → NearValue n (option_map_or f o error)
  map_or-near f h None = tt
  map_or-near f h (Some x) = h x

  any-near : (op l x : Plain) → NearValue n (any_compare_value op l x)
  any-near (text s) (list items) x = map_or-near _ (λ op. tt) (comparison_named s)
  any-near op l x = tt

  all-near : (op l x : Plain) → NearValue n (all_compare_value op l x)
  all-near (text s) (list items) x = map_or-near _ (λ op. tt) (comparison_named s)
  all-near op l x = tt

  picked-near : (c a b : Plain) → NearValue n a → NearValue n b → NearValue n (chosen_value c a b)
  picked-near (boolean true) a b h k = h
  picked-near (boolean false) a b h k = k
  picked-near undefined a b h k = tt
  picked-near c a b h k = tt

  -- a row by the number of its arguments
  record IsRow (row : List Plain → ℕ → Plain) : Type 0 where
    near : (args : List Plain) (moment : ℕ) → AllNear n args → NearValue n (row args moment)

  row-is : (row : List Plain → ℕ → Plain) → ((m : ℕ) → NearValue n (row [] m)) → ((x : Plain) (m : ℕ) → NearValue n (row (x ∷ []) m))
      → ((x y : Plain) (m : ℕ) → NearValue n (row (x ∷ y ∷ []) m))
      → ((x y z : Plain) (m : ℕ) → NearValue n y → NearValue n z → NearValue n (row (x ∷ y ∷ z ∷ []) m))
      → ((x y z u : Plain) (rest : List Plain) (m : ℕ) → NearValue n (row (x ∷ y ∷ z ∷ u ∷ rest) m)) → IsRow row
  row-is row none one two three more = record { near = by }
    where
      by : (args : List Plain) (m : ℕ) → AllNear n args → NearValue n (row args m)
      by [] m h = none m
      by (x ∷ []) m h = one x m
      by (x ∷ y ∷ []) m h = two x y m
      by (x ∷ y ∷ z ∷ []) m h = three x y z m h.1.0 h.1.1.0
      by (x ∷ y ∷ z ∷ u ∷ rest) m h = more x y z u rest m

  strcat-near : IsRow (λ args m. strcat_value args)
  strcat-near = record { near = λ args m h. if-near (list_all is_scalar args) (text (flat_map written args)) error tt tt }

  -- what a table names, whatever its functions are
  module _ {F : Type 0} (row : F → List Plain → ℕ → Plain) where
    abbrev AreRows : List (List ℕ × F) → Type 0
    AreRows [] = Unit {0}
    AreRows (entry ∷ table) = IsRow (row entry.1) × AreRows table

    abbrev found_in : List (List ℕ × F) → List ℕ → Option F
    found_in [] x = None
    found_in (entry ∷ table) x = if bytes_eq (folded entry.0) (folded x) then Some entry.1 else found_in table x

    IsFoundRow : Option F → Type 0
    IsFoundRow o = IfSome o (λ f. IsRow (row f))

    found-row : (x : List ℕ) (table : List (List ℕ × F)) → AreRows table → IsFoundRow (found_in table x)
    unfolding IsFoundRow
    found-row x [] h = tt
    found-row x (entry ∷ table) h = by (bytes_eq (folded entry.0) (folded x)) (found-row x table h.1)
      where
        by : (b : Bool) → IsFoundRow (found_in table x) → IsFoundRow (if b then Some entry.1 else found_in table x)
        by true k = h.0
        by false k = k

    looked-up : (value : F → Plain) → ((f : F) → IsRow (row f) → NearValue n (value f)) → (o : Option F) → IsFoundRow o
        → NearValue n (option_map_or value o error)
    unfolding IsFoundRow
    looked-up value h None k = tt
    looked-up value h (Some f) k = h f k

  rows-are : AreRows row_of function_names
  rows-are = (
    row-is _ (λ m. tt) (λ x m. aggregate-near total total-near x) (λ x y m. tt) (λ x y z m h k. tt) (λ x y z u rest m. tt),
    (
      row-is _ (λ m. tt) (λ x m. aggregate-near least least-near x) (λ x y m. tt) (λ x y z m h k. tt) (λ x y z u rest m. tt),
      (
        row-is _ (λ m. tt) (λ x m. aggregate-near greatest greatest-near x) (λ x y m. tt) (λ x y z m h k. tt) (λ x y z u rest m. tt),
        (
          row-is _ (λ m. tt) (λ x m. int-near x) (λ x y m. tt) (λ x y z m h k. tt) (λ x y z u rest m. tt),
          (
            row-is _ (λ m. tt) (λ x m. size-near x) (λ x y m. tt) (λ x y z m h k. tt) (λ x y z u rest m. tt),
            (
              row-is _ (λ m. tt) (λ x m. bool-near x) (λ x y m. tt) (λ x y z m h k. tt) (λ x y z u rest m. tt),
              (
                row-is _ (λ m. number-near (pos m)) (λ x m. tt) (λ x y m. tt) (λ x y z m h k. tt) (λ x y z u rest m. tt),
                (
                  row-is _ (λ m. tt) (λ x m. tt) (λ x y m. tt) (λ x y z m h k. tt) (λ x y z u rest m. tt),
                  (
                    row-is _ (λ m. tt) (λ x m. tt) (λ x y m. member-near x y) (λ x y z m h k. tt) (λ x y z u rest m. tt),
                    (
                      strcat-near,
                      (
                        row-is _ (λ m. tt) (λ x m. tt) (λ x y m. tail-near x y) (λ x y z m h k. part-near x y z) (λ x y z u rest m. tt),
                        (
                          row-is _ (λ m. tt) (λ x m. tt) (λ x y m. strcmp-near x y) (λ x y z m h k. tt) (λ x y z u rest m. tt),
                          (
                            row-is _ (λ m. tt) (λ x m. if-near (is_scalar x) (text (written x)) error tt tt) (λ x y m. tt) (λ x y z m h k. tt)
                                (λ x y z u rest m. tt),
                            (
                              row-is _ (λ m. tt) (λ x m. tt) (λ x y m. tt) (λ x y z m h k. tt) (λ x y z u rest m. tt),
                              (
                                row-is _ (λ m. tt) (λ x m. tt) (λ x y m. stricmp-near x y) (λ x y z m h k. tt) (λ x y z u rest m. tt),
                                (
                                  row-is _ (λ m. tt) (λ x m. on_text-near _ (λ bytes. tt) x) (λ x y m. tt) (λ x y z m h k. tt) (λ x y z u rest m. tt),
                                  (
                                    row-is _ (λ m. tt) (λ x m. on_text-near _ (λ bytes. tt) x) (λ x y m. tt) (λ x y z m h k. tt) (λ x y z u rest m. tt),
                                    (
                                      row-is _ (λ m. tt) (λ x m. tt) (λ x y m. tt) (λ x y z m h k. tt) (λ x y z u rest m. tt),
                                      (
                                        row-is _ (λ m. tt) (λ x m. tt) (λ x y m. tt) (λ x y z m h k. tt) (λ x y z u rest m. tt),
                                        (
                                          row-is _ (λ m. tt) (λ x m. tt) (λ x y m. tt) (λ x y z m h k. tt) (λ x y z u rest m. tt),
                                          (
                                            row-is _ (λ m. tt) (λ x m. tt) (λ x y m. tt) (λ x y z m h k. tt) (λ x y z u rest m. tt),
                                            (
                                              row-is _ (λ m. tt) (λ x m. tt) (λ x y m. tt) (λ x y z m h k. picked-near x y z h k) (λ x y z u rest m. tt),
                                              (
                                                row-is _ (λ m. tt) (λ x m. tt) (λ x y m. tt) (λ x y z m h k. any-near x y z) (λ x y z u rest m. tt),
                                                (
                                                  row-is _ (λ m. tt) (λ x m. tt) (λ x y m. tt) (λ x y z m h k. all-near x y z) (λ x y z u rest m. tt),
                                                  (
                                                    row-is _ (λ m. tt) (λ x m. tt) (λ x y m. tt) (λ x y z m h k. tt) (λ x y z u rest m. tt),
                                                    (
                                                      row-is _ (λ m. tt) (λ x m. items-near x _) (λ x y m. items-near x y) (λ x y z m h k. tt)
                                                          (λ x y z u rest m. tt),
                                                      (
                                                        row-is _ (λ m. tt) (λ x m. tt) (λ x y m. identical-near x y) (λ x y z m h k. tt)
                                                            (λ x y z u rest m. tt),
                                                        (
                                                          row-is _ (λ m. tt) (λ x m. tt) (λ x y m. item-near x y _) (λ x y z m h k. item-near x y z)
                                                              (λ x y z u rest m. tt),
                                                          tt,
                                                        ),
                                                      ),
                                                    ),
                                                  ),
                                                ),
                                              ),
                                            ),
                                          ),
                                        ),
                                      ),
                                    ),
                                  ),
                                ),
                              ),
                            ),
                          ),
                        ),
                      ),
                    ),
                  ),
                ),
              ),
            ),
          ),
        ),
      ),
    ),
  )

  strict_in-near : (args : List Plain) (v : Plain) → NearValue n v → NearValue n (strict_in args v)
  strict_in-near args v h =
      if-near (list_any is_error args) error (if list_any is_undefined args then undefined else v) tt (if-near (list_any is_undefined args) undefined v tt h)

  pub call-near : (x : List ℕ) (args : List Plain) (moment : ℕ) → AllNear n args → NearValue n (call_value x args moment)
  unfolding function_value function_named
  call-near x args moment h =
      if-near (is_known x (length args)) (option_map_or (λ f. function_value f args moment) (function_named x) error) error
      (looked-up row_of (λ f. function_value f args moment)
      (λ f k. bounded-near (strict_in (strict_arguments f args) (row_of f args moment))
      (strict_in-near (strict_arguments f args) (row_of f args moment) (k.near args moment h)))
      (function_named x) (found-row row_of x function_names rows-are)) tt
