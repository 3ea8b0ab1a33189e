-- What functions give of values that are the same up to the places of ads.
use Rattle.std.proofs.Common.{◌≡◌, ℕ, Bool, true, false, not, cond, ℤ, pos, List, ◌++◌, length, map, Option, None, Some, option_map, refl, ◌∙◌, ap}
use Rattle.std.specs.Prelude.{◌&&◌, ◌+ℤ◌, nat_lt}
use Rattle.std.specs.Char.{to_ascii_uppercase}
use Rattle.std.specs.Int.{int_max, int_min}
use Rattle.std.specs.List.{cons_option, filter_map, flat_map, fold, list_all, list_any}
use Rattle.std.specs.Option.{option_map_or}
use Rattle.std.specs.Str.{all_ascii_digits, bytes_eq}
use Rattle.std.specs.Str.Parse.{signed_digits_value, without_leading_sign}
use Rattle.pool_text.specs.Folding.{folded}
use Rattle.pool_text.specs.declared.language.AdPlace.{AdPlace}
use Rattle.pool_text.specs.declared.language.BinOp.{BinOp}
use Rattle.ad_value.specs.Logic.{is_true}
use Rattle.ad_value.specs.declared.number.Number.{Number}
use Rattle.ad_value.specs.Numbers.{decimal_or_error, in_millionths, integer_or_error, number_of, whole_part}
use Rattle.ad_value.specs.Operators.{is_same, on_number}
use Rattle.ad_value.specs.Plain.{Plain, undefined, error, boolean, integer, text, list, elements}
use Rattle.builtin_funcs.specs.declared.function.Function.{Function}
use Rattle.builtin_funcs.specs.Aggregates.{aggregate, amount_of, chosen_of, greatest, least, may_be_number, on_list, row_in, total, value_in}
use Rattle.builtin_funcs.specs.Calls.{call_value, function_value, is_known, strict_arguments, strict_in}
use Rattle.builtin_funcs.specs.Functions.{function_named}
use Rattle.builtin_funcs.specs.Kinds.{is_decimal, is_error, is_scalar, is_undefined}
use Rattle.builtin_funcs.specs.Lists.{all_compare_value, any_compare_value, comparison_named, compares, identical_member_value, member_value}
use Rattle.builtin_funcs.specs.Rows.{chosen, row_of, row_of_none, row_of_one, row_of_three, row_of_two, size_value}
use Rattle.builtin_funcs.specs.Texts.{bool_value, boolean_in, int_value, integer_in, on_text, part_value, strcat_value, strcmp_value, stricmp_value}
use Rattle.builtin_funcs.specs.Texts.{string_list_member_value, string_list_size_value, string_value, tail_value, usual_delimiters, written}
use Rattle.builtin_funcs.proofs.AlikeLemmas.{Each, no_items, more_items, Each-all, Each-any, Each-drop, Each-length, Each-take, Alike, undefineds, errors}
use Rattle.builtin_funcs.proofs.AlikeLemmas.{booleans, integers, texts, lists, places, IsOneToOne, is_flat, binary-same, bounded-alike, decimal_or_error-single}
use Rattle.builtin_funcs.proofs.AlikeLemmas.{either-holds, elements-alike, flat-alike, integer_or_error-single}
use Rattle.builtin_funcs.proofs.AlikeLemmas.{number-alike, on_number-single, same-alike, single-flat}

-- ---- rows hold no place

size-flat : (v : Plain) → is_flat (size_value v) ≡ true
size-flat (list items) = single-flat (integer_or_error (pos (length (elements items)))) (integer_or_error-single (pos (length (elements items))))
size-flat (text bytes) = refl
size-flat v = refl

value-flat : (decimals : Bool) (z : ℤ) → is_flat (value_in decimals z) ≡ true
value-flat true z = single-flat (decimal_or_error z) (decimal_or_error-single z)
value-flat false z = single-flat (integer_or_error z) (integer_or_error-single z)

chosen-flat : (value : ℤ → Plain) → ((z : ℤ) → is_flat (value z) ≡ true) → (o : Option ℤ) → is_flat (option_map_or value o undefined) ≡ true
chosen-flat value h None = refl
chosen-flat value h (Some z) = h z

least-flat : (value : ℤ → Plain) → ((z : ℤ) → is_flat (value z) ≡ true) → (ns : List ℤ) → is_flat (least value ns) ≡ true
least-flat value h ns = chosen-flat value h (chosen_of int_min ns)

greatest-flat : (value : ℤ → Plain) → ((z : ℤ) → is_flat (value z) ≡ true) → (ns : List ℤ) → is_flat (greatest value ns) ≡ true
greatest-flat value h ns = chosen-flat value h (chosen_of int_max ns)

total-flat : (value : ℤ → Plain) → ((z : ℤ) → is_flat (value z) ≡ true) → (ns : List ℤ) → is_flat (total value ns) ≡ true
total-flat value h ns = h (fold ◌+ℤ◌ (pos 0) ns)

aggregate-flat : (row : (ℤ → Plain) → List ℤ → Plain)
    → ((value : ℤ → Plain) → ((z : ℤ) → is_flat (value z) ≡ true) → (ns : List ℤ) → is_flat (row value ns) ≡ true)
    → (v : Plain) → is_flat (on_list (aggregate row) v) ≡ true
aggregate-flat row h (list items) =
    let decimals = list_any is_decimal (elements items) in
    either-holds is_flat (not (list_all may_be_number (elements items))) error _ refl
    (either-holds is_flat (list_any is_undefined (elements items)) undefined (row_in row decimals (elements items)) refl
    (h (value_in decimals) (value-flat decimals) (filter_map (amount_of decimals) (elements items))))
aggregate-flat row h v = refl

on_text-flat : (row : List ℕ → Plain) → ((bytes : List ℕ) → is_flat (row bytes) ≡ true) → (v : Plain) → is_flat (on_text row v) ≡ true
on_text-flat row h (text bytes) = h bytes
on_text-flat row h v = refl

integer_in-flat : (bytes : List ℕ) → is_flat (integer_in bytes) ≡ true
integer_in-flat bytes =
    either-holds is_flat (nat_lt 0 (length (without_leading_sign bytes)) && all_ascii_digits (without_leading_sign bytes))
    (integer_or_error (signed_digits_value 10 bytes)) error
    (single-flat (integer_or_error (signed_digits_value 10 bytes)) (integer_or_error-single (signed_digits_value 10 bytes))) refl

int-flat : (v : Plain) → is_flat (int_value v) ≡ true
int-flat (text bytes) = integer_in-flat bytes
int-flat v = single-flat (on_number (λ (n : Number). integer (whole_part n)) (number_of v))
    (on_number-single (λ (n : Number). integer (whole_part n)) (λ x. refl) (number_of v))

string-flat : (v : Plain) → is_flat (string_value v) ≡ true
string-flat v = either-holds is_flat (is_scalar v) (text (written v)) error refl refl

boolean_in-flat : (bytes : List ℕ) → is_flat (boolean_in bytes) ≡ true
boolean_in-flat bytes = by (bytes_eq (folded bytes) _) (bytes_eq (folded bytes) _)
  where
    by : (a b : Bool) → is_flat (cond a (boolean true) (cond b (boolean false) error)) ≡ true
    by true b = refl
    by false true = refl
    by false false = refl

bool-flat : (v : Plain) → is_flat (bool_value v) ≡ true
bool-flat (text bytes) = boolean_in-flat bytes
bool-flat v = refl

string_list_size-flat : (s d : Plain) → is_flat (string_list_size_value s d) ≡ true
string_list_size-flat (text bytes) (text delimiters) = refl
string_list_size-flat s d = refl

string_list_member-flat : (x s d : Plain) → is_flat (string_list_member_value x s d) ≡ true
string_list_member-flat (text x) (text bytes) (text delimiters) = refl
string_list_member-flat x s d = refl

none-flat : (f : Function) (moment : ℕ) → is_flat (row_of_none f moment) ≡ true
none-flat Function.Time moment = single-flat (integer_or_error (pos moment)) (integer_or_error-single (pos moment))
none-flat f moment = refl

one-flat : (f : Function) (v : Plain) → is_flat (row_of_one f v) ≡ true
one-flat Function.Size v = size-flat v
one-flat Function.Sum v = aggregate-flat total total-flat v
one-flat Function.Min v = aggregate-flat least least-flat v
one-flat Function.Max v = aggregate-flat greatest greatest-flat v
one-flat Function.ToUpper v = on_text-flat (λ bytes. text (map to_ascii_uppercase bytes)) (λ bytes. refl) v
one-flat Function.ToLower v = on_text-flat (λ bytes. text (folded bytes)) (λ bytes. refl) v
one-flat Function.Int v = int-flat v
one-flat Function.String v = string-flat v
one-flat Function.Bool v = bool-flat v
one-flat Function.StringListSize v = string_list_size-flat v usual_delimiters
one-flat f v = refl

member-flat : (x l : Plain) → is_flat (member_value x l) ≡ true
member-flat x (list items) = either-holds is_flat (is_scalar x) (boolean (list_any (compares BinOp.Equal x) (elements items))) error refl refl
member-flat x l = refl

identical_member-flat : (x l : Plain) → is_flat (identical_member_value x l) ≡ true
identical_member-flat x (list items) = refl
identical_member-flat x l = refl

tail-flat : (s offset : Plain) → is_flat (tail_value s offset) ≡ true
tail-flat (text bytes) (integer offset) = refl
tail-flat s offset = refl

part-flat : (s offset len : Plain) → is_flat (part_value s offset len) ≡ true
part-flat (text bytes) (integer offset) (integer len) = refl
part-flat s offset len = refl

strcmp-flat : (a b : Plain) → is_flat (strcmp_value a b) ≡ true
strcmp-flat (text a) (text b) = refl
strcmp-flat a b = refl

stricmp-flat : (a b : Plain) → is_flat (stricmp_value a b) ≡ true
stricmp-flat (text a) (text b) = refl
stricmp-flat a b = refl

two-flat : (f : Function) (v w : Plain) → is_flat (row_of_two f v w) ≡ true
two-flat Function.Member v w = member-flat v w
two-flat Function.IdenticalMember v w = identical_member-flat v w
two-flat Function.Substr v w = tail-flat v w
two-flat Function.Strcmp v w = strcmp-flat v w
two-flat Function.Stricmp v w = stricmp-flat v w
two-flat Function.StringListMember v w = string_list_member-flat v w usual_delimiters
two-flat Function.StringListSize v w = string_list_size-flat v w
two-flat f v w = refl

strcat-flat : (vs : List Plain) → is_flat (strcat_value vs) ≡ true
strcat-flat vs = either-holds is_flat (list_all is_scalar vs) (text (flat_map written vs)) error refl refl

compared-flat : (test : BinOp → Bool) (o : Option BinOp) → is_flat (option_map_or (λ op. boolean (test op)) o error) ≡ true
compared-flat test None = refl
compared-flat test (Some op) = refl

any_compare-flat : (op l x : Plain) → is_flat (any_compare_value op l x) ≡ true
any_compare-flat (text spelling) (list items) x = compared-flat (λ op. list_any (λ e. compares op e x) (elements items)) (comparison_named spelling)
any_compare-flat op l x = refl

all_compare-flat : (op l x : Plain) → is_flat (all_compare_value op l x) ≡ true
all_compare-flat (text spelling) (list items) x = compared-flat (λ op. list_all (λ e. compares op e x) (elements items)) (comparison_named spelling)
all_compare-flat op l x = refl

-- ---- rows of values that are alike

module _ {M : AdPlace → AdPlace → Type 0} where
  scalar-same : {v w : Plain} → Alike M v w → is_scalar v ≡ is_scalar w
  scalar-same (lists hs) = refl
  scalar-same (places h) = refl
  scalar-same h = refl

  error-same : {v w : Plain} → Alike M v w → is_error v ≡ is_error w
  error-same (lists hs) = refl
  error-same (places h) = refl
  error-same h = refl

  undefined-same : {v w : Plain} → Alike M v w → is_undefined v ≡ is_undefined w
  undefined-same (lists hs) = refl
  undefined-same (places h) = refl
  undefined-same h = refl

  may_be_number-same : {v w : Plain} → Alike M v w → may_be_number v ≡ may_be_number w
  may_be_number-same (lists hs) = refl
  may_be_number-same (places h) = refl
  may_be_number-same h = refl

  decimal-same : {v w : Plain} → Alike M v w → is_decimal v ≡ is_decimal w
  decimal-same (lists hs) = refl
  decimal-same (places h) = refl
  decimal-same h = refl

  amount-same : (decimals : Bool) {v w : Plain} → Alike M v w → amount_of decimals v ≡ amount_of decimals w
  amount-same true h = ap (option_map in_millionths) (number-alike h)
  amount-same false h = ap (option_map whole_part) (number-alike h)

  written-same : {v w : Plain} → Alike M v w → written v ≡ written w
  written-same (lists hs) = refl
  written-same (places h) = refl
  written-same h = refl

  amounts-same : (decimals : Bool) {vs ws : List Plain} → Each (Alike M) vs ws → filter_map (amount_of decimals) vs ≡ filter_map (amount_of decimals) ws
  amounts-same decimals no_items = refl
  amounts-same decimals (more_items {a = v} {b = w} {xs = vs} {ys = ws} h hs) =
      by (amount_of decimals v) (amount_of decimals w) (amount-same decimals h) (amounts-same decimals hs)
    where
      by : (o p : Option ℤ) → o ≡ p → filter_map (amount_of decimals) vs ≡ filter_map (amount_of decimals) ws
          → cons_option o (filter_map (amount_of decimals) vs) ≡ cons_option p (filter_map (amount_of decimals) ws)
      by o p same rest = ap (λ q. cons_option q (filter_map (amount_of decimals) vs)) same ∙ ap (cons_option p) rest

  all_written-same : {vs ws : List Plain} → Each (Alike M) vs ws → flat_map written vs ≡ flat_map written ws
  all_written-same no_items = refl
  all_written-same (more_items {a = v} {b = w} {xs = vs} {ys = ws} h hs) =
      ap (λ x. x ++ flat_map written vs) (written-same h) ∙ ap (λ x. written w ++ x) (all_written-same hs)

  aggregate-same : (row : (ℤ → Plain) → List ℤ → Plain) {vs ws : List Plain} → Each (Alike M) vs ws → aggregate row vs ≡ aggregate row ws
  aggregate-same row {vs} {ws} hs =
      ap (λ b. cond (not b) error (cond (list_any is_undefined vs) undefined (row_in row (list_any is_decimal vs) vs)))
      (Each-all may_be_number may_be_number (λ v w h. may_be_number-same h) hs)
      ∙ ap (λ b. cond (not (list_all may_be_number ws)) error (cond b undefined (row_in row (list_any is_decimal vs) vs)))
      (Each-any is_undefined is_undefined (λ v w h. undefined-same h) hs)
      ∙ ap (λ b. cond (not (list_all may_be_number ws)) error (cond (list_any is_undefined ws) undefined (row_in row b vs)))
      (Each-any is_decimal is_decimal (λ v w h. decimal-same h) hs)
      ∙ ap (λ ns. cond (not (list_all may_be_number ws)) error (cond (list_any is_undefined ws) undefined (row (value_in (list_any is_decimal ws)) ns)))
      (amounts-same (list_any is_decimal ws) hs)

  strcat-same : {vs ws : List Plain} → Each (Alike M) vs ws → strcat_value vs ≡ strcat_value ws
  strcat-same {vs} {ws} hs =
      ap (λ b. cond b (text (flat_map written vs)) error) (Each-all is_scalar is_scalar (λ v w h. scalar-same h) hs)
      ∙ ap (λ bytes. cond (list_all is_scalar ws) (text bytes) error) (all_written-same hs)

  one-same : (f : Function) {v w : Plain} → Alike M v w → row_of_one f v ≡ row_of_one f w
  one-same Function.Size (lists hs) = ap (λ n. integer_or_error (pos n)) (Each-length (elements-alike hs))
  one-same Function.Sum (lists hs) = aggregate-same total (elements-alike hs)
  one-same Function.Min (lists hs) = aggregate-same least (elements-alike hs)
  one-same Function.Max (lists hs) = aggregate-same greatest (elements-alike hs)
  one-same f (lists hs) = refl
  one-same Function.Size (places h) = refl
  one-same f (places h) = refl
  one-same f h = refl

  tail-same : {a b c d : Plain} → Alike M a b → Alike M c d → tail_value a c ≡ tail_value b d
  tail-same (texts s) (lists hs) = refl
  tail-same (texts s) (places h) = refl
  tail-same (texts s) h = refl
  tail-same h k = refl

  strcmp-same : {a b c d : Plain} → Alike M a b → Alike M c d → strcmp_value a c ≡ strcmp_value b d
  strcmp-same (texts s) (lists hs) = refl
  strcmp-same (texts s) (places h) = refl
  strcmp-same (texts s) h = refl
  strcmp-same h k = refl

  stricmp-same : {a b c d : Plain} → Alike M a b → Alike M c d → stricmp_value a c ≡ stricmp_value b d
  stricmp-same (texts s) (lists hs) = refl
  stricmp-same (texts s) (places h) = refl
  stricmp-same (texts s) h = refl
  stricmp-same h k = refl

  string_list_size-same : {a b c d : Plain} → Alike M a b → Alike M c d → string_list_size_value a c ≡ string_list_size_value b d
  string_list_size-same (texts s) (lists hs) = refl
  string_list_size-same (texts s) (places h) = refl
  string_list_size-same (texts s) h = refl
  string_list_size-same h k = refl

  part-same : {a b c d e g : Plain} → Alike M a b → Alike M c d → Alike M e g → part_value a c e ≡ part_value b d g
  part-same (texts s) (integers n) (lists hs) = refl
  part-same (texts s) (integers n) (places h) = refl
  part-same (texts s) (integers n) h = refl
  part-same (texts s) (lists hs) l = refl
  part-same (texts s) (places k) l = refl
  part-same (texts s) k l = refl
  part-same h k l = refl

  string_list_member-same : {a b c d e g : Plain} → Alike M a b → Alike M c d → Alike M e g → string_list_member_value a c e ≡ string_list_member_value b d g
  string_list_member-same (texts s) (texts t) (lists hs) = refl
  string_list_member-same (texts s) (texts t) (places h) = refl
  string_list_member-same (texts s) (texts t) h = refl
  string_list_member-same (texts s) (lists hs) l = refl
  string_list_member-same (texts s) (places k) l = refl
  string_list_member-same (texts s) k l = refl
  string_list_member-same h k l = refl

  chosen_row-alike : {a b c d e g : Plain} → Alike M a b → Alike M c d → Alike M e g → Alike M (chosen a c e) (chosen b d g)
  chosen_row-alike (booleans true) k l = k
  chosen_row-alike (booleans false) k l = l
  chosen_row-alike undefineds k l = undefineds
  chosen_row-alike h k l = errors

module _ {M : AdPlace → AdPlace → Type 0} (one : IsOneToOne M) where
  compares-same : (op : BinOp) {a b c d : Plain} → Alike M a b → Alike M c d → compares op a c ≡ compares op b d
  compares-same op h k = ap is_true (binary-same one op h k)

  member-same : {a b c d : Plain} → Alike M a b → Alike M c d → member_value a c ≡ member_value b d
  member-same {a} {b} h (lists {l = l} {m = m} ks) =
      ap (λ x. cond x (boolean (list_any (compares BinOp.Equal a) (elements l))) error) (scalar-same h)
      ∙ ap (λ x. cond (is_scalar b) (boolean x) error) (Each-any (compares BinOp.Equal a) (compares BinOp.Equal b) (λ v w k. compares-same BinOp.Equal h k)
      (elements-alike ks))
  member-same h k = refl

  identical_member-same : {a b c d : Plain} → Alike M a b → Alike M c d → identical_member_value a c ≡ identical_member_value b d
  identical_member-same {a} {b} h (lists ks) = ap boolean (Each-any (is_same a) (is_same b) (λ v w k. same-alike one h k) (elements-alike ks))
  identical_member-same h k = refl

  any_compare-same : {a b c d e g : Plain} → Alike M a b → Alike M c d → Alike M e g → any_compare_value a c e ≡ any_compare_value b d g
  any_compare-same {e = e} {g = g} (texts spelling) (lists {l = l} {m = m} ks) x = by (comparison_named spelling)
    where
      by : (o : Option BinOp)
          → option_map_or (λ op. boolean (list_any (λ v. compares op v e) (elements l))) o error
          ≡ option_map_or (λ op. boolean (list_any (λ v. compares op v g) (elements m))) o error
      by None = refl
      by (Some op) = ap boolean (Each-any (λ v. compares op v e) (λ v. compares op v g) (λ v w k. compares-same op k x) (elements-alike ks))
  any_compare-same (texts spelling) k x = refl
  any_compare-same h k x = refl

  all_compare-same : {a b c d e g : Plain} → Alike M a b → Alike M c d → Alike M e g → all_compare_value a c e ≡ all_compare_value b d g
  all_compare-same {e = e} {g = g} (texts spelling) (lists {l = l} {m = m} ks) x = by (comparison_named spelling)
    where
      by : (o : Option BinOp)
          → option_map_or (λ op. boolean (list_all (λ v. compares op v e) (elements l))) o error
          ≡ option_map_or (λ op. boolean (list_all (λ v. compares op v g) (elements m))) o error
      by None = refl
      by (Some op) = ap boolean (Each-all (λ v. compares op v e) (λ v. compares op v g) (λ v w k. compares-same op k x) (elements-alike ks))
  all_compare-same (texts spelling) k x = refl
  all_compare-same h k x = refl

  two-same : (f : Function) {a b c d : Plain} → Alike M a b → Alike M c d → row_of_two f a c ≡ row_of_two f b d
  two-same Function.Member h k = member-same h k
  two-same Function.IdenticalMember h k = identical_member-same h k
  two-same Function.Substr h k = tail-same h k
  two-same Function.Strcmp h k = strcmp-same h k
  two-same Function.Stricmp h k = stricmp-same h k
  two-same Function.StringListMember h k = string_list_member-same h k (texts _)
  two-same Function.StringListSize h k = string_list_size-same h k
  two-same f h k = refl

  three-alike : (f : Function) {a b c d e g : Plain} → Alike M a b → Alike M c d → Alike M e g → Alike M (row_of_three f a c e) (row_of_three f b d g)
  three-alike Function.IfThenElse h k l = chosen_row-alike h k l
  three-alike Function.AnyCompare {a} {b} {c} {d} {e} {g} h k l =
      flat-alike (any_compare_value a c e) (any_compare_value b d g) (any_compare-flat a c e) (any_compare-same h k l)
  three-alike Function.AllCompare {a} {b} {c} {d} {e} {g} h k l =
      flat-alike (all_compare_value a c e) (all_compare_value b d g) (all_compare-flat a c e) (all_compare-same h k l)
  three-alike Function.Substr {a} {b} {c} {d} {e} {g} h k l = flat-alike (part_value a c e) (part_value b d g) (part-flat a c e) (part-same h k l)
  three-alike Function.StringListMember {a} {b} {c} {d} {e} {g} h k l =
      flat-alike (string_list_member_value a c e) (string_list_member_value b d g) (string_list_member-flat a c e) (string_list_member-same h k l)
  three-alike f h k l = errors

  row-alike : (f : Function) (moment : ℕ) {vs ws : List Plain} → Each (Alike M) vs ws → Alike M (row_of f vs moment) (row_of f ws moment)
  row-alike Function.Strcat moment {vs} {ws} hs = flat-alike (strcat_value vs) (strcat_value ws) (strcat-flat vs) (strcat-same hs)
  row-alike f moment no_items = flat-alike (row_of_none f moment) (row_of_none f moment) (none-flat f moment) refl
  row-alike f moment (more_items {a = v} {b = w} h no_items) = flat-alike (row_of_one f v) (row_of_one f w) (one-flat f v) (one-same f h)
  row-alike f moment (more_items {a = a} {b = b} h (more_items {a = c} {b = d} k no_items)) =
      flat-alike (row_of_two f a c) (row_of_two f b d) (two-flat f a c) (two-same f h k)
  row-alike f moment (more_items h (more_items k (more_items l no_items))) = three-alike f h k l
  row-alike f moment (more_items h (more_items k (more_items l (more_items m hs)))) = errors

  -- ---- calls

  strict_arguments-alike : (f : Function) {vs ws : List Plain} → Each (Alike M) vs ws → Each (Alike M) (strict_arguments f vs) (strict_arguments f ws)
  strict_arguments-alike Function.IsUndefined hs = no_items
  strict_arguments-alike Function.IsError hs = no_items
  strict_arguments-alike Function.IsString hs = no_items
  strict_arguments-alike Function.IsInteger hs = no_items
  strict_arguments-alike Function.IsBoolean hs = no_items
  strict_arguments-alike Function.IsList hs = no_items
  strict_arguments-alike Function.IsClassad hs = no_items
  strict_arguments-alike Function.IfThenElse hs = no_items
  strict_arguments-alike Function.IdenticalMember hs = Each-drop 1 hs
  strict_arguments-alike Function.AnyCompare hs = Each-take 2 hs
  strict_arguments-alike Function.AllCompare hs = Each-take 2 hs
  strict_arguments-alike f hs = hs

  strict_in-alike : {vs ws : List Plain} {v w : Plain} → Each (Alike M) vs ws → Alike M v w → Alike M (strict_in vs v) (strict_in ws w)
  strict_in-alike {vs} {ws} {v} {w} hs h =
      by (list_any is_error vs) (list_any is_error ws) (list_any is_undefined vs) (list_any is_undefined ws)
      (Each-any is_error is_error (λ x y k. error-same k) hs) (Each-any is_undefined is_undefined (λ x y k. undefined-same k) hs)
    where
      by : (a b c d : Bool) → a ≡ b → c ≡ d → Alike M (cond a error (cond c undefined v)) (cond b error (cond d undefined w))
      by true true c d same other = errors
      by true false c d same other = absurd (cc)
      by false true c d same other = absurd (cc)
      by false false true true same other = undefineds
      by false false true false same other = absurd (cc)
      by false false false true same other = absurd (cc)
      by false false false false same other = h

  function-alike : (f : Function) (moment : ℕ) {vs ws : List Plain} → Each (Alike M) vs ws → Alike M (function_value f vs moment) (function_value f ws moment)
  unfolding function_value
  function-alike f moment hs = bounded-alike (strict_in-alike (strict_arguments-alike f hs) (row-alike f moment hs))

  -- a call of values that are alike gives values that are alike
  pub call-alike : (x : List ℕ) (moment : ℕ) {vs ws : List Plain} → Each (Alike M) vs ws → Alike M (call_value x vs moment) (call_value x ws moment)
  call-alike x moment {vs} {ws} hs = by (is_known x (length vs)) (is_known x (length ws)) (ap (is_known x) (Each-length hs)) (function_named x)
    where
      by : (a b : Bool) → a ≡ b → (o : Option Function)
          → Alike M (cond a (option_map_or (λ f. function_value f vs moment) o error) error)
          (cond b (option_map_or (λ f. function_value f ws moment) o error) error)
      by true true same (Some f) = function-alike f moment hs
      by true true same None = errors
      by false false same o = errors
      by true false same o = absurd (cc)
      by false true same o = absurd (cc)
