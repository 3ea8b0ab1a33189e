-- A level of operators is climbed from the tightest one: levels whose operators don't stand next are passed over, and behind
-- an operator and its right operand the climb goes on from the level of that operator.
use Rattle.std.proofs.Common.{refl, arith, length-append, ◌≡◌, ℕ, zero, suc, ◌+◌, ◌-◌, ◌<◌, ◌≤◌, ◌==◌, Bool, true, false, List, [], ◌∷◌, length, Option, None}
use Rattle.std.proofs.Common.{Some, option_map, ap, sym, ◌∙◌, if◌then◌else◌}
use Rattle.std.proofs.lemmas.Bool.Decides.{nat_tests}
use Rattle.ad_tree.specs.Inline.{Inline}
use Rattle.ad_builder.specs.Machine.{top, below, step}
use Rattle.ad_builder.specs.Shapes.{joined}
use Rattle.ad_builder.specs.declared.instruction.Instruction.TheVariants as instructions
use Rattle.ad_builder.specs.declared.instruction.Infix.{Infix}
use Rattle.ad_grammar.specs.Levels.{precedence_at, climb}
use Rattle.ad_grammar.specs.Rules.{Rule, Reading, and_then, prefixes, at_precedence, infix_at, operation_or, operations, level_at, expression}
use Rattle.ad_grammar.specs.Operators.{infix_of}
use Rattle.ad_grammar.specs.Words.{Word, plain, quoted, constant, mark}
use Rattle.ad_grammar.proofs.Readings as readings
use Rattle.ad_grammar.proofs.Readings.{Holds, gives, holds-more}
use Rattle.ad_grammar.proofs.SoundLemmas.{ReadsInfix, infix_at-holds, level_at-sound, expression-sound}

and_then-assoc : {A B C : Type 0} (r : Reading A) (f : A → List Word → Reading B) (g : B → List Word → Reading C)
    → and_then (and_then r f) g ≡ and_then r (λ a ws. and_then (f a ws) g)
and_then-assoc None f g = refl
and_then-assoc (Some read) f g = refl

and_then-same : {A B : Type 0} (r : Reading A) (f g : A → List Word → Reading B) → ((a : A) (ws : List Word) → f a ws ≡ g a ws) → and_then r f ≡ and_then r g
and_then-same None f g same = refl
and_then-same (Some read) f g same = same read.0 read.1

and_then-all : {A : Type 0} (r : Reading A) (f : A → List Word → Reading A) → ((a : A) (ws : List Word) → f a ws ≡ Some (a, ws)) → and_then r f ≡ r
and_then-all None f all = refl
and_then-all (Some read) f all = all read.0 read.1

-- a level is what binds as tightly as a tighter one, with the operators between them
level-climbs : (e : Rule) (k n : ℕ) (ws : List Word) → level_at e (k + n) ws ≡ and_then (level_at e k ws) (climb e k n)
level-climbs e k zero ws =
    let same : k + zero ≡ k = omega arith in
    ap (λ j. level_at e j ws) same ∙ sym (and_then-all (level_at e k ws) (climb e k zero) (λ x rest. refl))
level-climbs e k (suc n) ws =
    let next : k + suc n ≡ suc k + n = omega arith in
    ap (λ j. level_at e j ws) next
    ∙ level-climbs e (suc k) n ws
    ∙ and_then-assoc (level_at e k ws) (λ x rest. operations (level_at e k) (suc k) (length rest) x rest) (climb e (suc k) n)
    ∙ and_then-same (level_at e k ws) (λ x rest. and_then (operations (level_at e k) (suc k) (length rest) x rest) (climb e (suc k) n)) (climb e k (suc n))
    (λ x rest. refl)

pub level-climbed : (e : Rule) (k : ℕ) (ws rest : List Word) (x : Inline) → prefixes e ws ≡ Some (x, rest) → level_at e k ws ≡ climb e 0 k x rest
level-climbed e k ws rest x read =
    let same : k ≡ 0 + k = omega arith in
    ap (λ j. level_at e j ws) same ∙ level-climbs e 0 k ws ∙ ap (λ r. and_then r (climb e 0 k)) read

pub level-none : (e : Rule) (k : ℕ) (ws : List Word) → prefixes e ws ≡ None → level_at e k ws ≡ None
level-none e k ws none =
    let same : k ≡ 0 + k = omega arith in
    ap (λ j. level_at e j ws) same ∙ level-climbs e 0 k ws ∙ ap (λ r. and_then r (climb e 0 k)) none

-- an operator of another level isn't taken
other-than : (k : ℕ) (found : ℕ × Infix) (ws : List Word) → (k ≡ found.0 → ⊥) → at_precedence k (Some found) ws ≡ None
other-than k found ws other = by (found.0 == k) refl
  where
    by : (b : Bool) → (found.0 == k) ≡ b → if◌then◌else◌ {A = Reading Infix} b (Some (found.1, ws)) None ≡ None
    by true is = let same : k ≡ found.0 = grind (arith, nat_tests) in absurd (other same)
    by false is = refl

at_precedence-none : (k : ℕ) (found : Option (ℕ × Infix)) (ws : List Word) → ((j : ℕ) → option_map (λ f. f.0) found ≡ Some j → (k ≡ j → ⊥))
    → at_precedence k found ws ≡ None
at_precedence-none k None ws other = refl
at_precedence-none k (Some found) ws other = other-than k found ws (other found.0 refl)

infix-none : (k : ℕ) (ws : List Word) → ((j : ℕ) → precedence_at ws ≡ Some j → k ≡ j → ⊥) → infix_at k ws ≡ None
infix-none k [] other = refl
infix-none k (plain t ∷ ws) other = refl
infix-none k (quoted t ∷ ws) other = refl
infix-none k (constant l ∷ ws) other = refl
infix-none k (mark m ∷ ws) other = at_precedence-none k (infix_of m) ws other

operations-none : (tight : Rule) (k n : ℕ) (x : Inline) (ws : List Word) → infix_at k ws ≡ None → operations tight k n x ws ≡ Some (x, ws)
operations-none tight k zero x ws none = refl
operations-none tight k (suc n) x ws none = ap (operation_or tight (operations tight k n) x ws) none

pass : (e : Rule) (k n : ℕ) (x : Inline) (ws : List Word) → ((j : ℕ) → precedence_at ws ≡ Some j → suc k ≡ j → ⊥)
    → climb e k (suc n) x ws ≡ climb e (suc k) n x ws
pass e k n x ws other =
    ap (λ r. and_then r (climb e (suc k) n)) (operations-none (level_at e k) (suc k) (length ws) x ws (infix-none (suc k) ws other))

-- no level's operator stands next
passes : (e : Rule) (k n : ℕ) (x : Inline) (ws : List Word) → ((j : ℕ) → precedence_at ws ≡ Some j → k < j → j ≤ k + n → ⊥) → climb e k n x ws ≡ Some (x, ws)
passes e k zero x ws other = refl
passes e k (suc n) x ws other =
    pass e k n x ws (λ j stands is. other j stands (omega arith) (omega arith))
    ∙ passes e (suc k) n x ws (λ j stands above within. other j stands (omega arith) (omega arith))

-- the operator that stands next is of a later level
reaches : (e : Rule) (k d m : ℕ) (x : Inline) (ws : List Word) → precedence_at ws ≡ Some (suc (k + d))
    → climb e k (d + suc m) x ws ≡ and_then (operations (level_at e (k + d)) (suc (k + d)) (length ws) x ws) (climb e (suc (k + d)) m)
reaches e k zero m x ws stands =
    let same : k ≡ k + zero = omega arith in
    let turns : zero + suc m ≡ suc m = omega arith in
    ap (λ n. climb e k n x ws) turns
    ∙ ap (λ j. and_then (operations (level_at e j) (suc j) (length ws) x ws) (climb e (suc j) m)) same
reaches e k (suc d) m x ws stands =
    let turns : suc d + suc m ≡ suc (d + suc m) = omega arith in
    let same : suc k + d ≡ k + suc d = omega arith in
    ap (λ n. climb e k n x ws) turns
    ∙ pass e k (d + suc m) x ws (λ j at is. let there : j ≡ suc (k + suc d) = cc in omega arith)
    ∙ reaches e (suc k) d m x ws (stands ∙ ap (λ j. Some (suc j)) (sym same))
    ∙ ap (λ j. and_then (operations (level_at e j) (suc j) (length ws) x ws) (climb e (suc j) m)) same

-- ---- turns enough ----

-- what a level reads is no longer than what stood there
level-shrinks : (f k : ℕ) (ws : List Word) → Holds (λ (x : Inline) rest. length rest ≤ length ws) (level_at (expression f) k ws)
level-shrinks f k ws =
    holds-more (level_at-sound (expression f) (expression-sound f) k ws) (λ x rest s. omega (arith, ap length s.split, length-append s.front rest))

-- any number of turns that suffices reads the same operators
module _ (f j k : ℕ) where
  abbrev tight : Rule
  tight = level_at (expression f) j

  operations-enough : (n m : ℕ) (x : Inline) (ws : List Word) → length ws ≤ n → length ws ≤ m → operations tight k n x ws ≡ operations tight k m x ws
  operations-enough zero zero x ws few many = refl
  operations-enough zero (suc m) x [] few many = refl
  operations-enough zero (suc m) x (w ∷ ws) few many = absurd (omega arith)
  operations-enough (suc n) zero x [] few many = refl
  operations-enough (suc n) zero x (w ∷ ws) few many = absurd (omega arith)
  operations-enough (suc n) (suc m) x ws few many = turn (operations-enough n m) (infix_at k ws) (infix_at-holds k ws)
    where
      Same : Type 0
      Same = (z : Inline) (rest : List Word) → length rest ≤ n → length rest ≤ m → operations tight k n z rest ≡ operations tight k m z rest

      behind : Same → (op : Infix) (right : List Word) → length ws ≡ suc (length right) → (r : Reading Inline)
          → Holds (λ (y : Inline) rest. length rest ≤ length right) r
          → and_then r (λ y. operations tight k n (joined op x y)) ≡ and_then r (λ y. operations tight k m (joined op x y))
      behind same op right longer r readings.none = refl
      behind same op right longer r (gives y rest short) = same (joined op x y) rest (omega (arith, few, longer, short)) (omega (arith, many, longer, short))

      turn : Same → (r : Reading Infix) → Holds (ReadsInfix k ws) r
          → operation_or tight (operations tight k n) x ws r ≡ operation_or tight (operations tight k m) x ws r
      turn same r readings.none = refl
      turn same r (gives op right h) = behind same op right (ap length h.1) (tight right) (level-shrinks f j right)

-- an operator that is taken: how loosely it binds, and one word less
operator-taken : (k : ℕ) (ws : List Word) (op : Infix) (right : List Word) → infix_at k ws ≡ Some (op, right)
    → (precedence_at ws ≡ Some k) × (length ws ≡ suc (length right))
operator-taken k ws op right is = by (infix_at k ws) (infix_at-holds k ws) is
  where
    by : (r : Reading Infix) → Holds (ReadsInfix k ws) r → r ≡ Some (op, right) → (precedence_at ws ≡ Some k) × (length ws ≡ suc (length right))
    by r readings.none same = absurd cc
    by r (gives o rest h) same =
        let read : Infix × List Word = (o, rest) in
        let wanted : Infix × List Word = (op, right) in
        let both : read ≡ wanted = cc in
        let behind : rest ≡ right = ap (λ p. p.1) both in
        (ap precedence_at h.1 ∙ ap (option_map (λ found. found.0)) h.2, ap length h.1 ∙ ap (λ us. suc (length us)) behind)

-- ---- the turns of the climb ----

module _ (f : ℕ) (w : Reading Inline) (k l : ℕ) (before : List Inline) (ws : List Word) (inv : w ≡ climb (expression f) k (l - k) (top before) ws) where
  abbrev e : Rule
  e = expression f

  abbrev x : Inline
  x = top before

  pub climb-end : (now : List Word) → k ≤ l → ((j : ℕ) → precedence_at ws ≡ Some j → k < j → j ≤ l → ⊥) → now ≡ ws → w ≡ Some (top before, now)
  climb-end now below other kept =
      inv ∙ passes e k (l - k) x ws (λ j stands above within. other j stands above (omega arith)) ∙ ap (λ r. Some (top before, r)) (sym kept)

  -- an operator of a later level is taken
  module _ (j : ℕ) (op : Infix) (right : List Word) (above : k < j) (within : j ≤ l) (taken : infix_at j ws ≡ Some (op, right)) where
    reached : climb e k (l - k) x ws ≡ and_then (operations (level_at e (j - 1)) j (length ws) x ws) (climb e j (l - j))
    reached =
        let d : ℕ = j - k - 1 in
        let turns : l - k ≡ d + suc (l - j) = omega arith in
        let tight : k + d ≡ j - 1 = omega arith in
        let here : j ≡ suc (k + d) = omega arith in
        ap (λ n. climb e k n x ws) turns
        ∙ reaches e k d (l - j) x ws ((operator-taken j ws op right taken).0 ∙ ap Some here)
        ∙ ap (λ i. and_then (operations (level_at e (k + d)) i (length ws) x ws) (climb e i (l - j))) (sym here)
        ∙ ap (λ i. and_then (operations (level_at e i) j (length ws) x ws) (climb e j (l - j))) tight

    turned : operations (level_at e (j - 1)) j (length ws) x ws
        ≡ and_then (level_at e (j - 1) right) (λ y. operations (level_at e (j - 1)) j (length right) (joined op x y))
    turned =
        ap (λ n. operations (level_at e (j - 1)) j n x ws) (operator-taken j ws op right taken).1
        ∙ ap (operation_or (level_at e (j - 1)) (operations (level_at e (j - 1)) j (length right)) x ws) taken

    pub climb-operandless : level_at e (j - 1) right ≡ None → w ≡ None
    climb-operandless none =
        inv ∙ reached ∙ ap (λ r. and_then r (climb e j (l - j))) (turned
        ∙ ap (λ r. and_then r (λ y. operations (level_at e (j - 1)) j (length right) (joined op x y))) none)

    module _ (second after : List Inline) (now : List Word) (read : level_at (expression f) (j - 1) right ≡ Some (top second, now)) where
      short : length now ≤ length right
      short = by (level_at e (j - 1) right) (level-shrinks f (j - 1) right) read
        where
          by : (r : Reading Inline) → Holds (λ (y : Inline) rest. length rest ≤ length right) r → r ≡ Some (top second, now) → length now ≤ length right
          by r readings.none same = absurd cc
          by r (gives y rest h) same =
              let read : Inline × List Word = (y, rest) in
              let wanted : Inline × List Word = (top second, now) in
              let both : read ≡ wanted = cc in
              omega (arith, h, ap (λ p. length p.1) both)

      pub climb-shorter : length now < length ws
      climb-shorter = omega (arith, short, (operator-taken j ws op right taken).1)

      -- the operators of that level behind its right operand, with as many turns as words are left
      again : (z : Inline) → operations (level_at e (j - 1)) j (length right) z now ≡ operations (level_at e (j - 1)) j (length now) z now
      again z = operations-enough f (j - 1) j (length right) (length now) z now short (omega arith)

      -- and those of the levels above are a climb from just below that level
      loosened : (z : Inline) → climb e (j - 1) (l - (j - 1)) z now ≡ and_then (operations (level_at e (j - 1)) j (length now) z now) (climb e j (l - j))
      loosened z =
          let turns : l - (j - 1) ≡ suc (l - j) = omega arith in
          let here : suc (j - 1) ≡ j = omega arith in
          ap (λ n. climb e (j - 1) n z now) turns
          ∙ ap (λ i. and_then (operations (level_at e (j - 1)) i (length now) z now) (climb e i (l - j))) here

      pub climb-more : below second ≡ before → after ≡ step (instructions.Infix op) second → w ≡ climb (expression f) (j - 1) (l - (j - 1)) (top after) now
      climb-more on is =
          let z : Inline = joined op x (top second) in
          let made : z ≡ top after = ap (λ st. joined op (top st) (top second)) (sym on) ∙ ap top (sym is) in
          inv ∙ reached
          ∙ ap (λ r. and_then r (climb e j (l - j)))
          (turned ∙ ap (λ r. and_then r (λ y. operations (level_at e (j - 1)) j (length right) (joined op x y))) read ∙ again z)
          ∙ sym (loosened z) ∙ ap (λ y. climb e (j - 1) (l - (j - 1)) y now) made
