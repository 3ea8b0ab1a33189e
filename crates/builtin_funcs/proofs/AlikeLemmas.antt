-- Values that are the same up to the places of ads, and what operators give of such values.
use Rattle.std.proofs.Common.{◌≡◌, ℕ, zero, suc, ◌+◌, ◌^◌, ◌/◌, Bool, true, false, not, ◌&&◌, ◌||◌, cond, ltb, ℤ, pos, negsuc, neg_ℤ, List, [], ◌∷◌, length}
use Rattle.std.proofs.Common.{take, drop, Option, None, Some, option_map, slice_get, refl, ◌∙◌, ap}
use Rattle.std.specs.Prelude.{◌==◌, ◌+ℤ◌, ◌-ℤ◌, ◌*ℤ◌, int_div, int_rem, unwrap_or}
use Rattle.std.specs.Int.{w64, cast_signed, cast_unsigned, int_shl, int_shr}
use Rattle.std.specs.Ordering.{int_eq}
use Rattle.std.specs.List.{list_all, list_any}
use Rattle.std.specs.Option.{option_and_then}
use Rattle.pool_text.specs.declared.language.AdPlace.{AdPlace}
use Rattle.pool_text.specs.declared.language.BinOp.{BinOp}
use Rattle.pool_text.specs.declared.language.UnOp.{UnOp}
use Rattle.ad_value.specs.Plain.{Plain, undefined, error, boolean, integer, decimal, text, list, ad_at, Plains, no_plains, plain_then, plains_of, elements}
use Rattle.ad_value.specs.Logic.{and_is_decided, and_value, or_is_decided, or_value}
use Rattle.ad_value.specs.declared.number.Number.{Number}
use Rattle.ad_value.specs.Numbers.{decimal_or_error, in_millionths, integer_or_error, million, number_of, number_value}
use Rattle.ad_value.specs.Operators.{binary_value, complement, decimal_row, divided, integer_row, is_same, are_same, negated_value, negation, number_row}
use Rattle.ad_value.specs.Operators.{on_number, on_numbers, shifted, strict, strict_row, text_row, unary_row, unary_value, weight_of, weights_of}
use Rattle.ad_value.specs.Limits.{bounded, weight_limit}
use Rattle.ad_value.specs.Demands.{all_demanded, chosen, conjunction, disjunction, element, list_value, selected, subscripted}

-- ---- related options and lists

-- both are none, or both are something, and these are related
pub data Both {A B : Type 0} (R : A → B → Type 0) : Option A → Option B → Type 0 where
  both_none : Both R None None
  both_some : {a : A} {b : B} → R a b → Both R (Some a) (Some b)

-- two lists are related item by item
pub data Each {A B : Type 0} (R : A → B → Type 0) : List A → List B → Type 0 where
  no_items : Each R [] []
  more_items : {a : A} {b : B} {xs : List A} {ys : List B} → R a b → Each R xs ys → Each R (a ∷ xs) (b ∷ ys)

pub Both-map : {A B C D : Type 0} {R : A → B → Type 0} (S : C → D → Type 0) (f : A → C) (g : B → D) → ((a : A) (b : B) → R a b → S (f a) (g b))
    → {o : Option A} {p : Option B} → Both R o p → Both S (option_map f o) (option_map g p)
Both-map S f g h both_none = both_none
Both-map S f g h (both_some {a = a} {b = b} r) = both_some (h a b r)

pub Both-then : {A B C D : Type 0} {R : A → B → Type 0} (S : C → D → Type 0) (f : A → Option C) (g : B → Option D)
    → ((a : A) (b : B) → R a b → Both S (f a) (g b))
    → {o : Option A} {p : Option B} → Both R o p → Both S (option_and_then f o) (option_and_then g p)
Both-then S f g h both_none = both_none
Both-then S f g h (both_some {a = a} {b = b} r) = h a b r

pub Both-unwrap : {A B : Type 0} {R : A → B → Type 0} (d : A) (e : B) {o : Option A} {p : Option B} → R d e → Both R o p → R (unwrap_or o d) (unwrap_or p e)
Both-unwrap d e r both_none = r
Both-unwrap d e r (both_some s) = s

pub Each-length : {A B : Type 0} {R : A → B → Type 0} {xs : List A} {ys : List B} → Each R xs ys → length xs ≡ length ys
Each-length no_items = refl
Each-length (more_items r rs) = ap suc (Each-length rs)

Each-at : {A B : Type 0} {R : A → B → Type 0} {xs : List A} {ys : List B} (k : ℕ) → Each R xs ys → Both R (slice_get xs k) (slice_get ys k)
Each-at k no_items = both_none
Each-at zero (more_items r rs) = both_some r
Each-at (suc k) (more_items r rs) = Each-at k rs

pub Each-drop : {A B : Type 0} {R : A → B → Type 0} {xs : List A} {ys : List B} (n : ℕ) → Each R xs ys → Each R (drop n xs) (drop n ys)
Each-drop zero h = h
Each-drop (suc n) no_items = no_items
Each-drop (suc n) (more_items r rs) = Each-drop n rs

pub Each-take : {A B : Type 0} {R : A → B → Type 0} {xs : List A} {ys : List B} (n : ℕ) → Each R xs ys → Each R (take n xs) (take n ys)
Each-take zero h = no_items
Each-take (suc n) no_items = no_items
Each-take (suc n) (more_items r rs) = more_items r (Each-take n rs)

-- a test that says the same of related items passes for some, or for all, of both lists
pub Each-any : {A B : Type 0} {R : A → B → Type 0} {xs : List A} {ys : List B} (p : A → Bool) (q : B → Bool) → ((a : A) (b : B) → R a b → p a ≡ q b)
    → Each R xs ys → list_any p xs ≡ list_any q ys
Each-any p q h no_items = refl
Each-any p q h (more_items {a = a} {b = b} {xs = xs} {ys = ys} r rs) = ap (λ x. x || list_any p xs) (h a b r) ∙ ap (λ x. q b || x) (Each-any p q h rs)

pub Each-all : {A B : Type 0} {R : A → B → Type 0} {xs : List A} {ys : List B} (p : A → Bool) (q : B → Bool) → ((a : A) (b : B) → R a b → p a ≡ q b)
    → Each R xs ys → list_all p xs ≡ list_all q ys
Each-all p q h no_items = refl
Each-all p q h (more_items {a = a} {b = b} {xs = xs} {ys = ys} r rs) = ap (λ x. x && list_all p xs) (h a b r) ∙ ap (λ x. q b && x) (Each-all p q h rs)

-- ---- values

-- values of one kind that differ in the places of ads alone, where M relates these
mutual
  pub data Alike (M : AdPlace → AdPlace → Type 0) : Plain → Plain → Type 0 where
    undefineds : Alike M undefined undefined
    errors : Alike M error error
    booleans : (b : Bool) → Alike M (boolean b) (boolean b)
    integers : (n : ℤ) → Alike M (integer n) (integer n)
    decimals : (m : ℤ) → Alike M (decimal m) (decimal m)
    texts : (bytes : List ℕ) → Alike M (text bytes) (text bytes)
    lists : {l m : Plains} → AllAlike M l m → Alike M (list l) (list m)
    places : {p q : AdPlace} → M p q → Alike M (ad_at p) (ad_at q)

  pub data AllAlike (M : AdPlace → AdPlace → Type 0) : Plains → Plains → Type 0 where
    none_alike : AllAlike M no_plains no_plains
    more_alike : {v w : Plain} {l m : Plains} → Alike M v w → AllAlike M l m → AllAlike M (plain_then v l) (plain_then w m)

-- places are equal where those that they are related to are
abbrev pub IsOneToOne : (AdPlace → AdPlace → Type 0) → Type 0
IsOneToOne M = (p q r s : AdPlace) → M p q → M r s → (p.ad == r.ad && p.frame == r.frame) ≡ (q.ad == s.ad && q.frame == s.frame)

-- a value that holds no place
abbrev pub is_flat : Plain → Bool
is_flat (list items) = false
is_flat (ad_at place) = false
is_flat value = true

flat-itself : {M : AdPlace → AdPlace → Type 0} (v : Plain) → is_flat v ≡ true → Alike M v v
flat-itself undefined h = undefineds
flat-itself error h = errors
flat-itself (boolean b) h = booleans b
flat-itself (integer n) h = integers n
flat-itself (decimal m) h = decimals m
flat-itself (text bytes) h = texts bytes
flat-itself (list items) h = absurd (cc)
flat-itself (ad_at place) h = absurd (cc)

pub flat-alike : {M : AdPlace → AdPlace → Type 0} (v w : Plain) → is_flat v ≡ true → v ≡ w → Alike M v w
flat-alike v w flat same = rw (← same) (flat-itself v flat)

-- ---- results of operators have no parts

-- a value that has no parts: neither letters nor elements nor a place
abbrev pub is_single : Plain → Bool
is_single (text bytes) = false
is_single (list items) = false
is_single (ad_at place) = false
is_single value = true

pub single-flat : (v : Plain) → is_single v ≡ true → is_flat v ≡ true
single-flat (text bytes) h = refl
single-flat (list items) h = h
single-flat (ad_at place) h = h
single-flat v h = refl

pub either-holds : (p : Plain → Bool) (b : Bool) (v w : Plain) → p v ≡ true → p w ≡ true → p (cond b v w) ≡ true
either-holds p true v w h k = h
either-holds p false v w h k = k

pub integer_or_error-single : (z : ℤ) → is_single (integer_or_error z) ≡ true
integer_or_error-single (pos n) = either-holds is_single (ltb n (2 ^ 63)) (integer (pos n)) error refl refl
integer_or_error-single (negsuc n) = either-holds is_single (ltb n (2 ^ 63)) (integer (negsuc n)) error refl refl

pub decimal_or_error-single : (z : ℤ) → is_single (decimal_or_error z) ≡ true
decimal_or_error-single (pos m) = either-holds is_single (ltb m (2 ^ 63)) (decimal (pos m)) error refl refl
decimal_or_error-single (negsuc m) = either-holds is_single (ltb m (2 ^ 63)) (decimal (negsuc m)) error refl refl

shifted-single : (shift : ℕ → ℤ) (z : ℤ) → is_single (shifted shift z) ≡ true
shifted-single shift (pos n) = either-holds is_single (ltb n 64) (integer (shift n)) error refl refl
shifted-single shift (negsuc n) = refl

divided-single : (v : Plain) (z : ℤ) → is_single v ≡ true → is_single (divided v z) ≡ true
divided-single v z h = either-holds is_single (int_eq z (pos 0)) error v refl h

integer_row-single : (op : BinOp) (x y : ℤ) → is_single (integer_row op x y) ≡ true
integer_row-single BinOp.ShiftLeft x y = shifted-single (int_shl w64 x) y
integer_row-single BinOp.ShiftRight x y = shifted-single (int_shr x) y
integer_row-single BinOp.ShiftZero x y = shifted-single (λ n. cast_signed w64 (cast_unsigned w64 x / 2 ^ n)) y
integer_row-single BinOp.Add x y = integer_or_error-single (x +ℤ y)
integer_row-single BinOp.Sub x y = integer_or_error-single (x -ℤ y)
integer_row-single BinOp.Mul x y = integer_or_error-single (x *ℤ y)
integer_row-single BinOp.Div x y = divided-single (integer_or_error (int_div x y)) y (integer_or_error-single (int_div x y))
integer_row-single BinOp.Rem x y = divided-single (integer (int_rem x y)) y refl
integer_row-single op x y = refl

decimal_row-single : (op : BinOp) (x y : ℤ) → is_single (decimal_row op x y) ≡ true
decimal_row-single BinOp.Add x y = decimal_or_error-single (x +ℤ y)
decimal_row-single BinOp.Sub x y = decimal_or_error-single (x -ℤ y)
decimal_row-single BinOp.Mul x y = decimal_or_error-single (int_div (x *ℤ y) million)
decimal_row-single BinOp.Div x y = divided-single (decimal_or_error (int_div (x *ℤ million) y)) y (decimal_or_error-single (int_div (x *ℤ million) y))
decimal_row-single BinOp.Rem x y = divided-single (decimal (int_rem x y)) y refl
decimal_row-single op x y = refl

number_row-single : (op : BinOp) (x y : Number) → is_single (number_row op x y) ≡ true
number_row-single op (Number.Whole x) (Number.Whole y) = integer_row-single op x y
number_row-single op x y = decimal_row-single op (in_millionths x) (in_millionths y)

on_numbers-single : (row : Number → Number → Plain) → ((x y : Number) → is_single (row x y) ≡ true) → (o p : Option Number) →
    is_single (on_numbers row o p) ≡ true
on_numbers-single row h (Some x) (Some y) = h x y
on_numbers-single row h (Some x) None = refl
on_numbers-single row h None p = refl

text_row-single : (op : BinOp) (a b : List ℕ) → is_single (text_row op a b) ≡ true
text_row-single BinOp.Equal a b = refl
text_row-single op a b = refl

strict_row-single : (op : BinOp) (v w : Plain) → is_single (strict_row op v w) ≡ true
strict_row-single op (text a) (text b) = text_row-single op a b
strict_row-single op v w = on_numbers-single (number_row op) (number_row-single op) (number_of v) (number_of w)

strict-single : (row : Plain → Plain → Plain) → ((v w : Plain) → is_single (row v w) ≡ true) → (v w : Plain) → is_single (strict row v w) ≡ true
strict-single row h error w = refl
strict-single row h v error = refl
strict-single row h undefined w = refl
strict-single row h v undefined = refl
strict-single row h v w = h v w

pub binary-single : (op : BinOp) (v w : Plain) → is_single (binary_value op v w) ≡ true
binary-single BinOp.Same v w = refl
binary-single BinOp.NotSame v w = refl
binary-single op v w = strict-single (strict_row op) (strict_row-single op) v w

pub on_number-single : (row : Number → Plain) → ((x : Number) → is_single (row x) ≡ true) → (o : Option Number) → is_single (on_number row o) ≡ true
on_number-single row h (Some x) = h x
on_number-single row h None = refl

number_value-single : (x : Number) → is_single (number_value x) ≡ true
number_value-single (Number.Whole n) = refl
number_value-single (Number.Millionths m) = refl

negation-single : (x : Number) → is_single (negation x) ≡ true
negation-single (Number.Whole n) = integer_or_error-single (neg_ℤ n)
negation-single (Number.Millionths m) = decimal_or_error-single (neg_ℤ m)

complement-single : (x : Number) → is_single (complement x) ≡ true
complement-single (Number.Whole n) = refl
complement-single (Number.Millionths m) = refl

negated-single : (v : Plain) → is_single (negated_value v) ≡ true
negated-single (boolean b) = refl
negated-single v = refl

unary_row-single : (op : UnOp) (v : Plain) → is_single (unary_row op v) ≡ true
unary_row-single UnOp.Plus v = on_number-single number_value number_value-single (number_of v)
unary_row-single UnOp.Minus v = on_number-single negation negation-single (number_of v)
unary_row-single UnOp.Not v = negated-single v
unary_row-single UnOp.Complement v = on_number-single complement complement-single (number_of v)

pub unary-single : (op : UnOp) (v : Plain) → is_single (unary_value op v) ≡ true
unary-single op error = refl
unary-single op undefined = refl
unary-single op v = unary_row-single op v

pub and-single : (v w : Plain) → is_single (and_value v w) ≡ true
and-single (boolean false) w = refl
and-single (boolean true) (boolean b) = refl
and-single (boolean true) w = refl
and-single undefined (boolean false) = refl
and-single undefined (boolean true) = refl
and-single undefined w = refl
and-single v w = refl

pub or-single : (v w : Plain) → is_single (or_value v w) ≡ true
or-single (boolean true) w = refl
or-single (boolean false) (boolean b) = refl
or-single (boolean false) w = refl
or-single undefined (boolean false) = refl
or-single undefined (boolean true) = refl
or-single undefined w = refl
or-single v w = refl

-- ---- what is the same of values that are alike

module _ {M : AdPlace → AdPlace → Type 0} where
  pub elements-alike : {l m : Plains} → AllAlike M l m → Each (Alike M) (elements l) (elements m)
  elements-alike none_alike = no_items
  elements-alike (more_alike h hs) = more_items h (elements-alike hs)

  plains-alike : {vs ws : List Plain} → Each (Alike M) vs ws → AllAlike M (plains_of vs) (plains_of ws)
  plains-alike no_items = none_alike
  plains-alike (more_items h hs) = more_alike h (plains-alike hs)

  mutual
    weight-alike : {v w : Plain} → Alike M v w → weight_of v ≡ weight_of w
    weight-alike undefineds = refl
    weight-alike errors = refl
    weight-alike (booleans b) = refl
    weight-alike (integers n) = refl
    weight-alike (decimals m) = refl
    weight-alike (texts bytes) = refl
    weight-alike (lists hs) = ap (λ n. 1 + n) (weights-alike hs)
    weight-alike (places h) = refl

    weights-alike : {l m : Plains} → AllAlike M l m → weights_of l ≡ weights_of m
    weights-alike none_alike = refl
    weights-alike (more_alike {v = v} {w = w} {l = l} {m = m} h hs) = ap (λ n. n + weights_of l) (weight-alike h) ∙ ap (λ n. weight_of w + n) (weights-alike hs)

  pub bounded-alike : {v w : Plain} → Alike M v w → Alike M (bounded v) (bounded w)
  bounded-alike {v} {w} h = by (ltb weight_limit (weight_of v)) (ltb weight_limit (weight_of w)) (ap (ltb weight_limit) (weight-alike h))
    where
      by : (a b : Bool) → a ≡ b → Alike M (cond a error v) (cond b error w)
      by true true same = errors
      by false false same = h
      by true false same = absurd (cc)
      by false true same = absurd (cc)

  pub number-alike : {v w : Plain} → Alike M v w → number_of v ≡ number_of w
  number-alike (lists hs) = refl
  number-alike (places h) = refl
  number-alike h = refl

  and_is_decided-alike : {v w : Plain} → Alike M v w → and_is_decided v ≡ and_is_decided w
  and_is_decided-alike (lists hs) = refl
  and_is_decided-alike (places h) = refl
  and_is_decided-alike h = refl

  or_is_decided-alike : {v w : Plain} → Alike M v w → or_is_decided v ≡ or_is_decided w
  or_is_decided-alike (lists hs) = refl
  or_is_decided-alike (places h) = refl
  or_is_decided-alike h = refl

  -- ---- results are equal, or alike

  strict-same : (op : BinOp) {a b c d : Plain} → Alike M a b → Alike M c d → strict (strict_row op) a c ≡ strict (strict_row op) b d
  strict-same op undefineds undefineds = refl
  strict-same op errors k = refl
  strict-same op (booleans b) undefineds = refl
  strict-same op (integers n) undefineds = refl
  strict-same op (decimals m) undefineds = refl
  strict-same op (texts bytes) undefineds = refl
  strict-same op (lists hs) undefineds = refl
  strict-same op (places h) undefineds = refl
  strict-same op h k = refl

  unary-same : (op : UnOp) {v w : Plain} → Alike M v w → unary_value op v ≡ unary_value op w
  unary-same UnOp.Plus (lists hs) = refl
  unary-same op (lists hs) = refl
  unary-same UnOp.Plus (places h) = refl
  unary-same op (places h) = refl
  unary-same op h = refl

  pub unary_value-alike : (op : UnOp) {v w : Plain} → Alike M v w → Alike M (unary_value op v) (unary_value op w)
  unary_value-alike op {v} {w} h = flat-alike (unary_value op v) (unary_value op w) (single-flat (unary_value op v) (unary-single op v)) (unary-same op h)

  and-same : {a b c d : Plain} → Alike M a b → Alike M c d → and_value a c ≡ and_value b d
  and-same (booleans false) k = refl
  and-same (booleans true) (lists hs) = refl
  and-same (booleans true) k = refl
  and-same undefineds (lists hs) = refl
  and-same undefineds k = refl
  and-same h k = refl

  or-same : {a b c d : Plain} → Alike M a b → Alike M c d → or_value a c ≡ or_value b d
  or-same (booleans true) k = refl
  or-same (booleans false) (lists hs) = refl
  or-same (booleans false) k = refl
  or-same undefineds (lists hs) = refl
  or-same undefineds k = refl
  or-same h k = refl

  -- ---- demands

  either-both : {o p x y : Option Plain} (a b : Bool) → a ≡ b → Both (Alike M) o p → Both (Alike M) x y → Both (Alike M) (cond a o x) (cond b p y)
  either-both true true same h k = h
  either-both false false same h k = k
  either-both true false same h k = absurd (cc)
  either-both false true same h k = absurd (cc)

  pub conjunction-alike : {v w : Plain} {rs qs : List (Option Plain)} → Alike M v w → Each (Both (Alike M)) rs qs
      → Both (Alike M) (conjunction v rs) (conjunction w qs)
  conjunction-alike h no_items = both_some h
  conjunction-alike {v} {w} h (more_items {xs = rs} {ys = qs} r others) =
      either-both (and_is_decided v) (and_is_decided w) (and_is_decided-alike h) (both_some h)
      (Both-then (Alike M) (λ p. conjunction (and_value v p) rs) (λ q. conjunction (and_value w q) qs)
      (λ p q k. conjunction-alike (flat-alike (and_value v p) (and_value w q) (single-flat (and_value v p) (and-single v p)) (and-same h k)) others) r)

  pub disjunction-alike : {v w : Plain} {rs qs : List (Option Plain)} → Alike M v w → Each (Both (Alike M)) rs qs
      → Both (Alike M) (disjunction v rs) (disjunction w qs)
  disjunction-alike h no_items = both_some h
  disjunction-alike {v} {w} h (more_items {xs = rs} {ys = qs} r others) =
      either-both (or_is_decided v) (or_is_decided w) (or_is_decided-alike h) (both_some h)
      (Both-then (Alike M) (λ p. disjunction (or_value v p) rs) (λ q. disjunction (or_value w q) qs)
      (λ p q k. disjunction-alike (flat-alike (or_value v p) (or_value w q) (single-flat (or_value v p) (or-single v p)) (or-same h k)) others) r)

  pub chosen-alike : {a b c d : Option Plain} {v w : Plain} → Both (Alike M) a b → Both (Alike M) c d → Alike M v w
      → Both (Alike M) (chosen a c v) (chosen b d w)
  chosen-alike h k (booleans true) = h
  chosen-alike h k (booleans false) = k
  chosen-alike h k undefineds = both_some undefineds
  chosen-alike h k v = both_some errors

  pub demanded-alike : {rs qs : List (Option Plain)} → Each (Both (Alike M)) rs qs → Both (Each (Alike M)) (all_demanded rs) (all_demanded qs)
  demanded-alike no_items = both_some no_items
  demanded-alike (more_items {xs = rs} {ys = qs} r others) =
      Both-then (Each (Alike M)) (λ p. option_map (λ ps. p ∷ ps) (all_demanded rs)) (λ q. option_map (λ ps. q ∷ ps) (all_demanded qs))
      (λ p q h. Both-map (Each (Alike M)) (λ ps. p ∷ ps) (λ ps. q ∷ ps) (λ ps ps2 hs. more_items h hs) (demanded-alike others)) r

  pub list_value-alike : {vs ws : List Plain} → Each (Alike M) vs ws → Alike M (list_value vs) (list_value ws)
  list_value-alike hs = bounded-alike (lists (plains-alike hs))

  element-alike : {l m : Plains} (z : ℤ) → AllAlike M l m → Alike M (element l z) (element m z)
  element-alike (pos n) hs = Both-unwrap error error errors (Each-at n (elements-alike hs))
  element-alike (negsuc n) hs = errors

-- what is found of an attribute's name at places that M relates is alike
abbrev pub LookAlike : (AdPlace → AdPlace → Type 0) → (AdPlace → List ℕ → Option Plain) → (AdPlace → List ℕ → Option Plain) → Type 0
LookAlike M look other = (p q : AdPlace) → M p q → (x : List ℕ) → Both (Alike M) (look p x) (other q x)

module _ {M : AdPlace → AdPlace → Type 0} (look other : AdPlace → List ℕ → Option Plain) (looks : LookAlike M look other) where
  pub selected-alike : (x : List ℕ) {v w : Plain} → Alike M v w → Both (Alike M) (selected look x v) (selected other x w)
  selected-alike x (places {p = p} {q = q} h) = looks p q h x
  selected-alike x undefineds = both_some undefineds
  selected-alike x h = both_some errors

  pub subscripted-alike : {a b c d : Plain} → Alike M a b → Alike M c d → Both (Alike M) (subscripted look a c) (subscripted other b d)
  subscripted-alike errors k = both_some errors
  subscripted-alike undefineds errors = both_some errors
  subscripted-alike undefineds k = both_some undefineds
  subscripted-alike (lists hs) (integers n) = both_some (element-alike n hs)
  subscripted-alike (places {p = p} {q = q} h) (texts x) = looks p q h x
  subscripted-alike h undefineds = both_some undefineds
  subscripted-alike h k = both_some errors

-- ---- equality, which alone compares places

module _ {M : AdPlace → AdPlace → Type 0} (one : IsOneToOne M) where
  mutual
    pub same-alike : {a b c d : Plain} → Alike M a b → Alike M c d → is_same a c ≡ is_same b d
    same-alike undefineds undefineds = refl
    same-alike errors errors = refl
    same-alike (booleans a) (booleans c) = refl
    same-alike (integers a) (integers c) = refl
    same-alike (decimals a) (decimals c) = refl
    same-alike (texts a) (texts c) = refl
    same-alike (lists hs) (lists ks) = all_same-alike hs ks
    same-alike (places {p = p} {q = q} h) (places {p = r} {q = s} k) = one p q r s h k
    same-alike h k = refl

    all_same-alike : {a b c d : Plains} → AllAlike M a b → AllAlike M c d → are_same a c ≡ are_same b d
    all_same-alike none_alike none_alike = refl
    all_same-alike none_alike (more_alike k ks) = refl
    all_same-alike (more_alike h hs) none_alike = refl
    all_same-alike (more_alike {v = a} {w = b} {l = l} h hs) (more_alike {v = c} {w = d} {l = m} k ks) =
        ap (λ x. x && are_same l m) (same-alike h k) ∙ ap (λ x. is_same b d && x) (all_same-alike hs ks)

  pub binary-same : (op : BinOp) {a b c d : Plain} → Alike M a b → Alike M c d → binary_value op a c ≡ binary_value op b d
  binary-same BinOp.Same h k = ap boolean (same-alike h k)
  binary-same BinOp.NotSame h k = ap (λ x. boolean (not x)) (same-alike h k)
  binary-same op h k = strict-same op h k

  pub binary_value-alike : (op : BinOp) {a b c d : Plain} → Alike M a b → Alike M c d → Alike M (binary_value op a c) (binary_value op b d)
  binary_value-alike op {a} {b} {c} {d} h k = flat-alike (binary_value op a c) (binary_value op b d)
      (single-flat (binary_value op a c) (binary-single op a c)) (binary-same op h k)
