-- Parts of the order of places: those that have to be looked through for a test.
use Rattle.std.specs.Prelude.{ℕ, ◌≡◌, ◌-◌, ◌^◌, ℤ, pos, Bool, true, false, Some, ⊤}
use Rattle.std.specs.Ordering.{int_cmp, is_le, ord_max, ord_min}
use Rattle.pool_text.specs.declared.language.BinOp.{BinOp}
use Rattle.pool_text.specs.declared.language.Lit.{Lit}
use Rattle.ad_value.specs.Numbers.{million}
use Rattle.conjunct_plan.specs.declared.test.Test.{Test}
use Rattle.literal_index.specs.declared.place.Kind.{Kind}
use Rattle.literal_index.specs.declared.place.Place.{Place}
use Rattle.literal_index.specs.declared.span.Span.{Span}
use Rattle.literal_index.specs.Entries.{kind_of, value_of}
use Rattle.literal_index.specs.Order.{place_order}

-- the first and the last place that an attribute of a name can have in a span
abbrev pub first_place : ℕ → Span → Place
first_place name (Span.At kind value) = record { name = name; kind = kind; value = value; slot = 0; attr = 0 }
first_place name (Span.UpTo value) = record { name = name; kind = Kind.Error; value = pos 0; slot = 0; attr = 0 }
first_place name (Span.From value) = record { name = name; kind = Kind.Number; value = value; slot = 0; attr = 0 }
first_place name Span.Literals = record { name = name; kind = Kind.Undefined; value = pos 0; slot = 0; attr = 0 }

abbrev pub last_place : ℕ → Span → Place
last_place name (Span.At kind value) = record { name = name; kind = kind; value = value; slot = 2 ^ 64 - 1; attr = 2 ^ 32 - 1 }
last_place name (Span.UpTo value) = record { name = name; kind = Kind.Number; value = value; slot = 2 ^ 64 - 1; attr = 2 ^ 32 - 1 }
last_place name (Span.From value) = record { name = name; kind = Kind.Str; value = pos 0; slot = 2 ^ 64 - 1; attr = 2 ^ 32 - 1 }
last_place name Span.Literals = record { name = name; kind = Kind.Str; value = pos (2 ^ 63 - 1); slot = 2 ^ 64 - 1; attr = 2 ^ 32 - 1 }

-- the first place that an attribute of a name can have in both of two spans
unfoldable pub first_in_both : ℕ → Span → Span → Place
first_in_both name a b = ord_max place_order (first_place name a) (first_place name b)

-- the last one; the first, where no place is in both
unfoldable pub last_in_both : ℕ → Span → Span → Place
last_in_both name a b = ord_max place_order (ord_min place_order (last_place name a) (last_place name b)) (first_in_both name a b)

-- the attributes that are no literals
abbrev pub open_span : Span
open_span = Span.At Kind.Open (pos 0)

-- the attributes with a literal of the same kind and number
abbrev pub span_at : Lit → Span
span_at lit = Span.At (kind_of (Some lit)) (value_of (Some lit))

-- the numbers up to one, and from one on; all literals where it is no number
abbrev pub numbers_up_to : Kind → ℤ → Span
numbers_up_to Kind.Number n = Span.UpTo n
numbers_up_to kind n = Span.Literals

abbrev pub numbers_from : Kind → ℤ → Span
numbers_from Kind.Number n = Span.From n
numbers_from kind n = Span.Literals

abbrev pub span_up_to : Lit → Span
span_up_to lit = numbers_up_to (kind_of (Some lit)) (value_of (Some lit))

abbrev pub span_from : Lit → Span
span_from lit = numbers_from (kind_of (Some lit)) (value_of (Some lit))

-- where the literals stand that an operator can be true of, on the left or on the right of its other side
abbrev pub compared_span : BinOp → Lit → Bool → Span
compared_span BinOp.Same lit left = span_at lit
compared_span BinOp.Equal lit left = span_at lit
compared_span BinOp.Less lit true = span_up_to lit
compared_span BinOp.AtMost lit true = span_up_to lit
compared_span BinOp.Greater lit true = span_from lit
compared_span BinOp.AtLeast lit true = span_from lit
compared_span BinOp.Less lit false = span_from lit
compared_span BinOp.AtMost lit false = span_from lit
compared_span BinOp.Greater lit false = span_up_to lit
compared_span BinOp.AtLeast lit false = span_up_to lit
compared_span op lit left = Span.Literals

-- where the literals stand that make a test true
abbrev pub passing_span : Test → Span
passing_span (Test.Truth n) = Span.At Kind.Number million
passing_span (Test.Compare n op lit left) = compared_span op lit left

-- where the literals stand that don't, if the test is true of Undefined
abbrev pub failing_span : Test → Span
failing_span (Test.Compare n BinOp.NotSame lit left) = span_at lit
failing_span test = Span.Literals

-- ---- what stands in a span

-- literals of this kind have such numbers
abbrev pub IsLiteral : Kind → ℤ → Type 0
IsLiteral Kind.Open n = ⊥
IsLiteral Kind.Undefined n = n ≡ pos 0
IsLiteral Kind.Error n = ⊤
IsLiteral Kind.Number n = ⊤
IsLiteral Kind.Str n = is_le (int_cmp n (pos (2 ^ 63 - 1))) ≡ true

-- attributes of a kind and a number stand in the span
abbrev pub Covers : Span → Kind → ℤ → Type 0
Covers (Span.At k m) kind n = (k ≡ kind) × (m ≡ n)
Covers (Span.UpTo m) Kind.Number n = is_le (int_cmp n m) ≡ true
Covers (Span.UpTo m) kind n = ⊥
Covers (Span.From m) Kind.Number n = is_le (int_cmp m n) ≡ true
Covers (Span.From m) kind n = ⊥
Covers Span.Literals kind n = IsLiteral kind n
