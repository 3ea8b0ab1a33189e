-- What instructions make of a stack, one after another, and what a machine keeps of it.
use Rattle.std.proofs.Common.{◌≡◌, ℕ, zero, suc, ◌+◌, nat_lt, min, Bool, true, false, List, [], ◌∷◌, ◌++◌, refl, sym, subst, ap, ◌∙◌, add-one, arith}
use Rattle.std.proofs.lemmas.Bool.Decides.{nat_tests}
use Rattle.ad_tree.specs.Inline.{Inline, height}
use Rattle.ad_builder.specs.Builds.{Holds}
use Rattle.ad_builder.specs.Carried.{AreLow, IsCarried}
use Rattle.ad_builder.specs.Counts.{tallest_measured}
use Rattle.ad_builder.specs.Leaves.{is_leaf}
use Rattle.ad_builder.specs.Machine.{top, step, run, stack, chosen}
use Rattle.ad_builder.specs.Sizes.{IsHigh}
use Rattle.ad_builder.specs.declared.builder.Builder.{Builder}
use Rattle.ad_builder.specs.declared.instruction.Instruction.{Instruction}
use Rattle.ad_builder.specs.declared.instruction.Instruction.TheVariants as instructions
use Rattle.ad_builder.proofs.HighLemmas.{step-high, step-low, top-high, low-not-high}

run-last : (is : List Instruction) (i : Instruction) (st : List Inline) → run (is ++ i ∷ []) st ≡ step i (run is st)
run-last [] i st = refl
run-last (j ∷ is) i st = run-last is i (step j st)

pub stack-next : (is js : List Instruction) (i : Instruction) → js ≡ is ++ i ∷ [] → stack js ≡ step i (stack is)
stack-next is js i more = ap stack more ∙ run-last is i []

pub chosen-more : (n : ℕ) (st : List Inline) → step instructions.Choice (chosen n st) ≡ chosen (n + 1) st
chosen-more n st = by n st ∙ ap (λ k. chosen k st) (sym (add-one n))
  where
    by : (k : ℕ) (s : List Inline) → step instructions.Choice (chosen k s) ≡ chosen (suc k) s
    by zero s = refl
    by (suc k) s = by k (step instructions.Choice s)

-- ---- what a machine keeps

-- a machine that went on from a stack without a tree that is too high, and has measured what stands last now
went-on : (is_ad : Bool) (new : Builder) (i : Instruction) (before : List Inline) (n : ℕ) → AreLow before → Holds is_ad new (step i before)
    → n ≡ min tallest_measured (height (top (step i before))) → IsCarried is_ad (nat_lt 64 n) new (step i before)
went-on is_ad new i before n low held is_height =
    let st : List Inline = step i before in
    let by : (b : Bool) → nat_lt 64 n ≡ b → IsCarried is_ad b new st =
    λ b. elim b as (λ a. nat_lt 64 n ≡ a → IsCarried is_ad a new st) [
      | true ↦ λ test. top-high st (grind (arith, nat_tests))
      | false ↦ λ test. (held, step-low i before low (grind (arith, nat_tests)))
    ] in
    by (nat_lt 64 n) refl

module _ (is_ad : Bool) {is_high : Bool} (old new : Builder) (is js : List Instruction) (i : Instruction) (more : js ≡ is ++ i ∷ [])
    (h : IsCarried is_ad is_high old (stack is)) where
  pub stays-high : is_high ≡ true → IsCarried is_ad is_high new (stack js)
  stays-high high =
      subst (λ b. IsCarried is_ad b new (stack js)) (sym high)
      (subst IsHigh (sym (stack-next is js i more)) (step-high i (stack is) (subst (λ b. IsCarried is_ad b old (stack is)) high h)))

  pub goes-on : (n : ℕ) → is_high ≡ false → (Holds is_ad old (stack is) → Holds is_ad new (step i (stack is)))
      → ((st : List Inline) → Holds is_ad new st → n ≡ min tallest_measured (height (top st))) → IsCarried is_ad (nat_lt 64 n) new (stack js)
  goes-on n low carried tall =
      let was = subst (λ b. IsCarried is_ad b old (stack is)) low h in
      let held : Holds is_ad new (step i (stack is)) = carried was.0 in
      subst (λ s. IsCarried is_ad (nat_lt 64 n) new s) (sym (stack-next is js i more))
      (went-on is_ad new i (stack is) n was.1 held (tall (step i (stack is)) held))

-- ---- the same for a leaf and `Element` behind it

leaf-low : (i : Instruction) (st : List Inline) → is_leaf i ≡ true → AreLow st → AreLow (step i st)
leaf-low (instructions.Literal lit) st is low = (omega arith, low)
leaf-low (instructions.Name scope text) st is low = (omega arith, low)
leaf-low (instructions.Unary op) st is low = absurd cc
leaf-low (instructions.Infix op) st is low = absurd cc
leaf-low instructions.Choice st is low = absurd cc
leaf-low (instructions.Select text) st is low = absurd cc
leaf-low instructions.Subscript st is low = absurd cc
leaf-low (instructions.List room) st is low = absurd cc
leaf-low (instructions.Call text room) st is low = absurd cc
leaf-low instructions.Element st is low = absurd cc
leaf-low instructions.Ad st is low = absurd cc
leaf-low (instructions.Define text) st is low = absurd cc
leaf-low instructions.Close st is low = absurd cc

module _ (is js ks : List Instruction) (i : Instruction) (first : js ≡ is ++ i ∷ []) (second : ks ≡ js ++ instructions.Element ∷ []) where
  pub stack-element : stack ks ≡ step instructions.Element (step i (stack is))
  stack-element = stack-next js ks instructions.Element second ∙ ap (step instructions.Element) (stack-next is js i first)

  module _ (is_ad : Bool) {is_high : Bool} (old new : Builder) (h : IsCarried is_ad is_high old (stack is)) where
    pub element-stays-high : is_high ≡ true → IsCarried is_ad is_high new (stack ks)
    element-stays-high high =
        subst (λ b. IsCarried is_ad b new (stack ks)) (sym high)
        (subst IsHigh (sym stack-element) (step-high instructions.Element (step i (stack is))
        (step-high i (stack is) (subst (λ b. IsCarried is_ad b old (stack is)) high h))))

    pub element-goes-on : (n : ℕ) → is_leaf i ≡ true → is_high ≡ false
        → (Holds is_ad old (stack is) → Holds is_ad new (step instructions.Element (step i (stack is))))
        → ((st : List Inline) → Holds is_ad new st → n ≡ min tallest_measured (height (top st))) → IsCarried is_ad (nat_lt 64 n) new (stack ks)
    element-goes-on n leaf low carried tall =
        let was = subst (λ b. IsCarried is_ad b old (stack is)) low h in
        let held : Holds is_ad new (step instructions.Element (step i (stack is))) = carried was.0 in
        subst (λ s. IsCarried is_ad (nat_lt 64 n) new s) (sym stack-element)
        (went-on is_ad new instructions.Element (step i (stack is)) n (leaf-low i (stack is) leaf was.1) held
        (tall (step instructions.Element (step i (stack is))) held))

-- a machine that builds has no tree that is too high
pub builds-low : (is_ad : Bool) {is_high : Bool} (b : Builder) (st : List Inline) → IsCarried is_ad is_high b st → is_high ≡ false → IsHigh st → ⊥
builds-low is_ad b st h low high = low-not-high st (subst (λ a. IsCarried is_ad a b st) low h).1 high
