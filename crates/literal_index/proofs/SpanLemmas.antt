-- Where the attributes stand that pass a test.
use Rattle.std.proofs.Common.{refl, arith, ◌≡◌, ◌≤◌, ◌<◌, ◌∙◌, ap, sym, subst, ℕ, ◌-◌}
use Rattle.std.proofs.Common.{◌/◌, ◌^◌, ℤ, pos, negsuc, true≢false, Ordering, Bool, true, false, not, ◌&&◌}
use Rattle.std.proofs.Common.{cond, nat_cmp, List, Some, Less, Equal, Greater}
use Rattle.std.specs.Prelude.{◌*ℤ◌, int_lt, int_le}
use Rattle.std.specs.Cmp.{int_cmp_total, nat_cmp_total}
use Rattle.std.specs.Cmp.Lexicographic.{slice_cmp}
use Rattle.std.specs.Ordering.{int_cmp, int_eq, ordering_then, ordering_reverse, is_le, is_gt, is_lt, is_eq}
use Rattle.std.specs.declared.ops.Bound.{Bound}
use Rattle.std.specs.BTreeMap.Range.{range_contains}
use Rattle.std.proofs.lemmas.Cmp.{tied_itself}
use Rattle.std.proofs.lemmas.Int.{ints}
use Rattle.std.proofs.lemmas.Map.Lookups.{exact_bytes, exact_signed}
use Rattle.std.proofs.lemmas.Map.Text.{is_eq-slice_cmp}
use Rattle.pool_text.specs.Folding.{folded, text_order}
use Rattle.pool_text.specs.declared.language.BinOp.{BinOp}
use Rattle.pool_text.specs.declared.language.Lit.{Lit}
use Rattle.pool_text.proofs.DigestLemmas.{digest_from-small}
use Rattle.ad_value.specs.Plain.{plain_of_lit}
use Rattle.ad_value.specs.Logic.{is_true}
use Rattle.ad_value.specs.Numbers.{million}
use Rattle.ad_value.specs.Operators.{binary_value, decimal_row, integer_row, is_same, strict, strict_row, text_row}
use Rattle.conjunct_plan.specs.declared.test.Test.{Test}
use Rattle.literal_index.specs.declared.place.Place.{Place}
use Rattle.literal_index.specs.declared.place.Kind.{Kind}
use Rattle.literal_index.specs.declared.span.Span.{Span}
use Rattle.literal_index.specs.Digests.{digest, number_of_text}
use Rattle.literal_index.specs.Entries.{holds_with, kind_of, value_of}
use Rattle.literal_index.specs.Shortened.{short, shortened}
use Rattle.literal_index.specs.Order.{kind_order, place_order}
use Rattle.literal_index.specs.Spans.{Covers, IsLiteral, failing_span, first_place, last_place, passing_span, numbers_from, numbers_up_to, span_at, span_from}
use Rattle.literal_index.specs.Spans.{span_up_to}
use Rattle.literal_index.proofs.Orders.{kind_order_self}

-- ---- places in a span

-- the order of two places of one name
tied : (n : ℕ) (o : Ordering) → ordering_then (nat_cmp n n) o ≡ o
tied n o = ap (λ r. ordering_then r o) (tied_itself nat_cmp_total n)

kind_tied : (k : Kind) (o : Ordering) → ordering_then (kind_order k k) o ≡ o
kind_tied k o = ap (λ r. ordering_then r o) (kind_order_self k)

value_tied : (n : ℤ) (o : Ordering) → ordering_then (int_cmp n n) o ≡ o
value_tied n o = ap (λ r. ordering_then r o) (tied_itself int_cmp_total n)

first_end : (o : Ordering) (s t : ℕ) → is_le o ≡ true → is_le (ordering_then o (ordering_then (nat_cmp 0 s) (nat_cmp 0 t))) ≡ true
first_end Less s t h = refl
first_end Equal s t h = grind arith
first_end Greater s t h = absurd (cc)

last_end : (o : Ordering) (s t : ℕ) → s < 2 ^ 64 → t < 2 ^ 32 → is_lt o ≡ false
    → is_lt (ordering_then o (ordering_then (nat_cmp (2 ^ 64 - 1) s) (nat_cmp (2 ^ 32 - 1) t))) ≡ false
last_end Less s t a b h = absurd (cc)
last_end Equal s t a b h = grind arith
last_end Greater s t a b h = refl

not_above : (m n : ℤ) → is_le (int_cmp m n) ≡ true → is_lt (int_cmp n m) ≡ false
not_above m n h = ap is_lt (int_cmp_total.antisymm n m) ∙ by (int_cmp m n) h
  where
    by : (o : Ordering) → is_le o ≡ true → is_lt (ordering_reverse o) ≡ false
    by Less h = refl
    by Equal h = refl
    by Greater h = absurd (cc)

-- a span has its first place before its last
pub forward : (name : ℕ) (span : Span) → is_gt (place_order (first_place name span) (last_place name span)) ≡ false
forward name (Span.At k n) = ap is_gt (tied name _ ∙ kind_tied k _ ∙ value_tied n _)
forward name (Span.UpTo n) = ap is_gt (tied name _)
forward name (Span.From n) = ap is_gt (tied name _)
forward name Span.Literals = ap is_gt (tied name _)

module _ (name slot attr : ℕ) (low : slot < 2 ^ 64) (few : attr < 2 ^ 32) where
  abbrev place : Kind → ℤ → Place
  place kind value = record { name = name; kind = kind; value = value; slot = slot; attr = attr }

  both : (a b : Bool) → a ≡ true → b ≡ false → (a && not b) ≡ true
  both a b x y = ap (λ c. c && not b) x ∙ ap not y

  -- what a span covers stands between its places
  pub in_span : (span : Span) (kind : Kind) (value : ℤ) → Covers span kind value
      → range_contains place_order (Bound.Included (first_place name span)) (Bound.Included (last_place name span)) (place kind value) ≡ true
  in_span (Span.At k n) kind value covers =
      let P : Kind → Type 0 =
      λ j. range_contains place_order (Bound.Included (first_place name (Span.At k n))) (Bound.Included (last_place name (Span.At k n))) (place j value)
      ≡ true in
      let Q : ℤ → Type 0 =
      λ v. range_contains place_order (Bound.Included (first_place name (Span.At k n))) (Bound.Included (last_place name (Span.At k n))) (place k v)
      ≡ true in
      subst P covers.0 (subst Q covers.1
      (both _ _ (ap is_le (tied name _ ∙ kind_tied k _) ∙ first_end (int_cmp n n) slot attr (ap is_le (tied_itself int_cmp_total n)))
      (ap is_lt (tied name _ ∙ kind_tied k _) ∙ last_end (int_cmp n n) slot attr low few (ap is_lt (tied_itself int_cmp_total n)))))
  in_span (Span.UpTo n) Kind.Number value covers =
      both _ _ (ap is_le (tied name _)) (ap is_lt (tied name _) ∙ last_end (int_cmp n value) slot attr low few (not_above value n covers))
  in_span (Span.UpTo n) Kind.Open value covers = absurd covers
  in_span (Span.UpTo n) Kind.Undefined value covers = absurd covers
  in_span (Span.UpTo n) Kind.Error value covers = absurd covers
  in_span (Span.UpTo n) Kind.Str value covers = absurd covers
  in_span (Span.From n) Kind.Number value covers = both _ _ (ap is_le (tied name _) ∙ first_end (int_cmp n value) slot attr covers) (ap is_lt (tied name _))
  in_span (Span.From n) Kind.Open value covers = absurd covers
  in_span (Span.From n) Kind.Undefined value covers = absurd covers
  in_span (Span.From n) Kind.Error value covers = absurd covers
  in_span (Span.From n) Kind.Str value covers = absurd covers
  in_span Span.Literals Kind.Open value covers = absurd covers
  in_span Span.Literals Kind.Undefined value covers =
      both _ _ (ap is_le (tied name _) ∙ first_end (int_cmp (pos 0) value) slot attr (ap (λ v. is_le (int_cmp (pos 0) v)) covers)) (ap is_lt (tied name _))
  in_span Span.Literals Kind.Error value covers = both _ _ (ap is_le (tied name _)) (ap is_lt (tied name _))
  in_span Span.Literals Kind.Number value covers = both _ _ (ap is_le (tied name _)) (ap is_lt (tied name _))
  in_span Span.Literals Kind.Str value covers =
      both _ _ (ap is_le (tied name _)) (ap is_lt (tied name _)
      ∙ last_end (int_cmp (pos (2 ^ 63 - 1)) value) slot attr low few (not_above value (pos (2 ^ 63 - 1)) covers))

-- ---- literals

half : (n : ℕ) → n < 2 ^ 64 → is_le (int_cmp (pos (n / 2)) (pos (2 ^ 63 - 1))) ≡ true
half n h = grind arith

pub is_literal : (lit : Lit) → IsLiteral (kind_of (Some lit)) (value_of (Some lit))
is_literal Lit.Undefined = refl
is_literal Lit.Error = tt
is_literal (Lit.Boolean b) = tt
is_literal (Lit.Integer n) = tt
is_literal (Lit.Decimal m) = tt
is_literal (Lit.Str t) = half (digest (folded t)) (digest_from-small (folded t) 0)

tie : (o : Ordering) → is_eq o ≡ true → o ≡ Equal
tie Equal h = refl
tie Less h = absurd (cc)
tie Greater h = absurd (cc)

-- of one kind and one number
abbrev IsAlike : Lit → Lit → Type 0
IsAlike a b = (kind_of (Some a) ≡ kind_of (Some b)) × (value_of (Some a) ≡ value_of (Some b))

-- literals that `is` doesn't tell apart
same_alike : (a b : Lit) → is_same (plain_of_lit a) (plain_of_lit b) ≡ true → IsAlike a b
same_alike Lit.Undefined Lit.Undefined h = (refl, refl)
same_alike Lit.Error Lit.Error h = (refl, refl)
same_alike (Lit.Boolean true) (Lit.Boolean true) h = (refl, refl)
same_alike (Lit.Boolean false) (Lit.Boolean false) h = (refl, refl)
same_alike (Lit.Integer m) (Lit.Integer n) h = (refl, ap (λ k. shortened (k *ℤ million)) (exact_signed m n (tie (int_cmp m n) h)))
same_alike (Lit.Decimal m) (Lit.Decimal n) h = (refl, ap shortened (exact_signed m n (tie (int_cmp m n) h)))
same_alike (Lit.Str s) (Lit.Str t) h = (refl, ap number_of_text (exact_bytes s t (tie (slice_cmp _ s t) (is_eq-slice_cmp s t ∙ h))))
same_alike a b h = absurd (cc)

alike_covered : (a b : Lit) → IsAlike a b → Covers (span_at b) (kind_of (Some a)) (value_of (Some a))
alike_covered a b h = (sym h.0, sym h.1)

alike_back : (a b : Lit) → IsAlike a b → IsAlike b a
alike_back a b h = (sym h.0, sym h.1)

-- ---- numbers in 64 bits

-- the millionths of a number
abbrev exact_of : Lit → ℤ
exact_of (Lit.Boolean true) = million
exact_of (Lit.Integer n) = n *ℤ million
exact_of (Lit.Decimal m) = m
exact_of lit = pos 0

-- a number stands by its millionths in 64 bits
value_exact : (lit : Lit) → kind_of (Some lit) ≡ Kind.Number → value_of (Some lit) ≡ shortened (exact_of lit)
value_exact (Lit.Boolean true) h = refl
value_exact (Lit.Boolean false) h = refl
value_exact (Lit.Integer n) h = refl
value_exact (Lit.Decimal m) h = refl
value_exact lit h = absurd (cc)

short_le : (m n : ℕ) → m ≤ n → short m ≤ short n
short_le m n h = grind arith

-- the order of numbers isn't turned
shortened_le : (m n : ℤ) → is_le (int_cmp m n) ≡ true → is_le (int_cmp (shortened m) (shortened n)) ≡ true
shortened_le (pos m) (pos n) h = grind (arith, short_le m n)
shortened_le (negsuc m) (pos n) h = grind arith
shortened_le (pos m) (negsuc n) h = absurd (cc)
shortened_le (negsuc m) (negsuc n) h = grind (arith, short_le n m)

-- ---- strict comparisons

-- whole numbers compare as they do in millionths
scaled_lt : (m n : ℤ) → int_lt m n ≡ true → int_lt (m *ℤ million) (n *ℤ million) ≡ true
scaled_lt m n h = grind (arith, ints)

scaled_le : (m n : ℤ) → int_le m n ≡ true → int_le (m *ℤ million) (n *ℤ million) ≡ true
scaled_le m n h = grind (arith, ints)

scaled_eq : (m n : ℤ) → int_eq m n ≡ true → int_eq (m *ℤ million) (n *ℤ million) ≡ true
scaled_eq m n h =
    subst (λ k. int_eq (m *ℤ million) (k *ℤ million) ≡ true) (exact_signed m n (tie (int_cmp m n) h)) (ap is_eq (tied_itself int_cmp_total (m *ℤ million)))

module _ (op : BinOp) (G : Lit → Lit → Type 0)
    (scaled : (m n : ℤ) → is_true (integer_row op m n) ≡ true → is_true (decimal_row op (m *ℤ million) (n *ℤ million)) ≡ true)
    (number : (a b : Lit) → kind_of (Some a) ≡ Kind.Number → kind_of (Some b) ≡ Kind.Number
    → is_true (decimal_row op (exact_of a) (exact_of b)) ≡ true → G a b)
    (text : (s t : List ℕ) → is_true (text_row op s t) ≡ true → G (Lit.Str s) (Lit.Str t)) where
  -- a strict comparison is true of two numbers or of two texts alone
  compared : (a b : Lit) → is_true (strict (strict_row op) (plain_of_lit a) (plain_of_lit b)) ≡ true → G a b
  compared (Lit.Boolean true) (Lit.Boolean true) h = number _ _ refl refl (scaled (pos 1) (pos 1) h)
  compared (Lit.Boolean true) (Lit.Boolean false) h = number _ _ refl refl (scaled (pos 1) (pos 0) h)
  compared (Lit.Boolean false) (Lit.Boolean true) h = number _ _ refl refl (scaled (pos 0) (pos 1) h)
  compared (Lit.Boolean false) (Lit.Boolean false) h = number _ _ refl refl (scaled (pos 0) (pos 0) h)
  compared (Lit.Boolean true) (Lit.Integer n) h = number _ _ refl refl (scaled (pos 1) n h)
  compared (Lit.Boolean false) (Lit.Integer n) h = number _ _ refl refl (scaled (pos 0) n h)
  compared (Lit.Integer m) (Lit.Boolean true) h = number _ _ refl refl (scaled m (pos 1) h)
  compared (Lit.Integer m) (Lit.Boolean false) h = number _ _ refl refl (scaled m (pos 0) h)
  compared (Lit.Integer m) (Lit.Integer n) h = number _ _ refl refl (scaled m n h)
  compared (Lit.Boolean true) (Lit.Decimal n) h = number _ _ refl refl h
  compared (Lit.Boolean false) (Lit.Decimal n) h = number _ _ refl refl h
  compared (Lit.Integer m) (Lit.Decimal n) h = number _ _ refl refl h
  compared (Lit.Decimal m) (Lit.Boolean true) h = number _ _ refl refl h
  compared (Lit.Decimal m) (Lit.Boolean false) h = number _ _ refl refl h
  compared (Lit.Decimal m) (Lit.Integer n) h = number _ _ refl refl h
  compared (Lit.Decimal m) (Lit.Decimal n) h = number _ _ refl refl h
  compared (Lit.Str s) (Lit.Str t) h = text s t h
  compared Lit.Undefined Lit.Error h = absurd (true≢false (sym h))
  compared a b h = absurd (true≢false (sym h))

equal_alike : (a b : Lit) → is_true (binary_value BinOp.Equal (plain_of_lit a) (plain_of_lit b)) ≡ true → IsAlike a b
equal_alike =
    compared BinOp.Equal IsAlike scaled_eq (λ a b ka kb h. (
      ka ∙ sym kb,
      value_exact a ka ∙ ap shortened (exact_signed (exact_of a) (exact_of b) (tie (int_cmp (exact_of a) (exact_of b)) h)) ∙ sym (value_exact b kb),
    ))
    (λ s t h. (refl, ap (λ bytes. pos (digest bytes / 2)) (exact_bytes (folded s) (folded t) (tie (text_order s t) h))))

less_le : (x y : ℤ) → int_lt x y ≡ true → is_le (int_cmp x y) ≡ true
less_le x y h = ap (λ b. is_le (cond b Less (cond (int_lt y x) Greater Equal))) h

not_both : (x y : ℤ) → int_le x y ≡ true → int_lt y x ≡ true → ⊥
not_both (pos a) (pos b) h l = grind arith
not_both (pos a) (negsuc b) h l = true≢false (sym h)
not_both (negsuc a) (pos b) h l = true≢false (sym l)
not_both (negsuc a) (negsuc b) h l = grind arith

most_le : (x y : ℤ) → int_le x y ≡ true → is_le (int_cmp x y) ≡ true
most_le x y h = by (int_lt x y) (int_lt y x) refl refl
  where
    by : (a b : Bool) → int_lt x y ≡ a → int_lt y x ≡ b → is_le (int_cmp x y) ≡ true
    by true b l g = less_le x y l
    by false true l g = absurd (not_both x y h g)
    by false false l g = ap (λ c. is_le (cond c Less (cond (int_lt y x) Greater Equal))) l ∙ ap (λ c. is_le (cond c Greater Equal)) g

number_up_to : (k l : Kind) (m n : ℤ) → k ≡ Kind.Number → l ≡ Kind.Number → is_le (int_cmp m n) ≡ true → Covers (numbers_up_to l n) k m
number_up_to k l m n ke le h =
    let P : Kind → Type 0 = λ j. Covers (numbers_up_to j n) k m in
    let Q : Kind → Type 0 = λ j. Covers (Span.UpTo n) j m in
    subst P (sym le) (subst Q (sym ke) h)

number_from : (k l : Kind) (m n : ℤ) → k ≡ Kind.Number → l ≡ Kind.Number → is_le (int_cmp n m) ≡ true → Covers (numbers_from l n) k m
number_from k l m n ke le h =
    let P : Kind → Type 0 = λ j. Covers (numbers_from j n) k m in
    let Q : Kind → Type 0 = λ j. Covers (Span.From n) j m in
    subst P (sym le) (subst Q (sym ke) h)

-- a is at most b: each stands in the other's span
abbrev Rises : Lit → Lit → Type 0
Rises a b = Covers (span_up_to b) (kind_of (Some a)) (value_of (Some a)) × Covers (span_from a) (kind_of (Some b)) (value_of (Some b))

abbrev Falls : Lit → Lit → Type 0
Falls a b = Rises b a

rise : (a b : Lit) → kind_of (Some a) ≡ Kind.Number → kind_of (Some b) ≡ Kind.Number → is_le (int_cmp (exact_of a) (exact_of b)) ≡ true → Rises a b
rise a b ka kb h =
    (number_up_to _ _ (value_of (Some a)) (value_of (Some b)) ka kb stands, number_from _ _ (value_of (Some b)) (value_of (Some a)) kb ka stands)
  where
    stands : is_le (int_cmp (value_of (Some a)) (value_of (Some b))) ≡ true
    stands =
        subst (λ m. is_le (int_cmp m (value_of (Some b))) ≡ true) (sym (value_exact a ka))
        (subst (λ n. is_le (int_cmp (shortened (exact_of a)) n) ≡ true) (sym (value_exact b kb)) (shortened_le (exact_of a) (exact_of b) h))

texts : (s t : List ℕ) → Rises (Lit.Str s) (Lit.Str t)
texts s t = (is_literal (Lit.Str s), is_literal (Lit.Str t))

less_rises : (a b : Lit) → is_true (binary_value BinOp.Less (plain_of_lit a) (plain_of_lit b)) ≡ true → Rises a b
less_rises = compared BinOp.Less Rises scaled_lt (λ a b ka kb h. rise a b ka kb (less_le (exact_of a) (exact_of b) h)) (λ s t h. texts s t)

most_rises : (a b : Lit) → is_true (binary_value BinOp.AtMost (plain_of_lit a) (plain_of_lit b)) ≡ true → Rises a b
most_rises = compared BinOp.AtMost Rises scaled_le (λ a b ka kb h. rise a b ka kb (most_le (exact_of a) (exact_of b) h)) (λ s t h. texts s t)

greater_falls : (a b : Lit) → is_true (binary_value BinOp.Greater (plain_of_lit a) (plain_of_lit b)) ≡ true → Falls a b
greater_falls =
    compared BinOp.Greater Falls (λ m n. scaled_lt n m) (λ a b ka kb h. rise b a kb ka (less_le (exact_of b) (exact_of a) h)) (λ s t h. texts t s)

least_falls : (a b : Lit) → is_true (binary_value BinOp.AtLeast (plain_of_lit a) (plain_of_lit b)) ≡ true → Falls a b
least_falls =
    compared BinOp.AtLeast Falls (λ m n. scaled_le n m) (λ a b ka kb h. rise b a kb ka (most_le (exact_of b) (exact_of a) h)) (λ s t h. texts t s)

-- ---- tests

-- what makes a test true stands in its span
pub passing_covered : (test : Test) (lit : Lit) → holds_with test lit ≡ true → Covers (passing_span test) (kind_of (Some lit)) (value_of (Some lit))
passing_covered (Test.Truth n) (Lit.Boolean true) h = (refl, refl)
passing_covered (Test.Truth n) (Lit.Boolean false) h = absurd (cc)
passing_covered (Test.Truth n) Lit.Undefined h = absurd (cc)
passing_covered (Test.Truth n) Lit.Error h = absurd (cc)
passing_covered (Test.Truth n) (Lit.Integer m) h = absurd (cc)
passing_covered (Test.Truth n) (Lit.Decimal m) h = absurd (cc)
passing_covered (Test.Truth n) (Lit.Str t) h = absurd (cc)
passing_covered (Test.Compare n BinOp.Same l true) lit h = alike_covered lit l (same_alike lit l h)
passing_covered (Test.Compare n BinOp.Same l false) lit h = alike_covered lit l (alike_back l lit (same_alike l lit h))
passing_covered (Test.Compare n BinOp.Equal l true) lit h = alike_covered lit l (equal_alike lit l h)
passing_covered (Test.Compare n BinOp.Equal l false) lit h = alike_covered lit l (alike_back l lit (equal_alike l lit h))
passing_covered (Test.Compare n BinOp.Less l true) lit h = (less_rises lit l h).0
passing_covered (Test.Compare n BinOp.Less l false) lit h = (less_rises l lit h).1
passing_covered (Test.Compare n BinOp.AtMost l true) lit h = (most_rises lit l h).0
passing_covered (Test.Compare n BinOp.AtMost l false) lit h = (most_rises l lit h).1
passing_covered (Test.Compare n BinOp.Greater l true) lit h = (greater_falls lit l h).1
passing_covered (Test.Compare n BinOp.Greater l false) lit h = (greater_falls l lit h).0
passing_covered (Test.Compare n BinOp.AtLeast l true) lit h = (least_falls lit l h).1
passing_covered (Test.Compare n BinOp.AtLeast l false) lit h = (least_falls l lit h).0
passing_covered (Test.Compare n op l left) lit h = is_literal lit

-- what doesn't make a test true stands in its other span
pub failing_covered : (test : Test) (lit : Lit) → holds_with test lit ≡ false → Covers (failing_span test) (kind_of (Some lit)) (value_of (Some lit))
failing_covered (Test.Compare n BinOp.NotSame l true) lit h = alike_covered lit l (same_alike lit l (unnot (is_same (plain_of_lit lit) (plain_of_lit l)) h))
  where
    unnot : (b : Bool) → not b ≡ false → b ≡ true
    unnot true e = refl
    unnot false e = absurd (cc)
failing_covered (Test.Compare n BinOp.NotSame l false) lit h =
    alike_covered lit l (alike_back l lit (same_alike l lit (unnot (is_same (plain_of_lit l) (plain_of_lit lit)) h)))
  where
    unnot : (b : Bool) → not b ≡ false → b ≡ true
    unnot true e = refl
    unnot false e = absurd (cc)
failing_covered test lit h = is_literal lit
