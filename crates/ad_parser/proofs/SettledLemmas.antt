-- A tree without its repeated definitions keeps what the tree keeps, and is no higher and no larger.
use Rattle.std.proofs.Common.{◌≡◌, ℕ, suc, ◌+◌, ◌≤◌, max, Bool, true, false, cond, List, refl, ◌∙◌, ap, arith}
use Rattle.ad_tree.specs.Inline.{Inline, shape, inner, Inlines, end, next, Defs, no_defs, def, count, count_all, count_defs, height, highest, highest_def}
use Rattle.ad_tree.specs.Inline.{definitions, definitions_all, definitions_in, put, settled, settled_all, settled_defs}
use Rattle.ad_tree.specs.Names.{same_name}
use Rattle.ad_tree.specs.Tree.{Label, literal, name, unary, binary, all, any, choice, select, subscript, call, list}
use Rattle.ad_parser.specs.Answers.{IsWithin, frames_of_expr, frames_of_ad}
use Rattle.ad_grammar.specs.Made.{IsNameText, number_of, begins_with_all, begins_with_any, IsNode, IsMade, AllMade, DefsMade}

-- what a tree keeps
number_of-settled : (is : Inlines) → number_of (settled_all is) ≡ number_of is
number_of-settled end = refl
number_of-settled (next i is) = ap suc (number_of-settled is)

all-settled : (is : Inlines) → begins_with_all (settled_all is) ≡ begins_with_all is
all-settled end = refl
all-settled (next (shape all js) is) = refl
all-settled (next i is) = refl

any-settled : (is : Inlines) → begins_with_any (settled_all is) ≡ begins_with_any is
any-settled end = refl
any-settled (next (shape any js) is) = refl
any-settled (next i is) = refl

node-settled : (label : Label) (is : Inlines) → IsNode label is → IsNode label (settled_all is)
node-settled (literal lit) is m = (m.0, number_of-settled is ∙ m.1)
node-settled (name scope text) is m = (m.0, number_of-settled is ∙ m.1)
node-settled (unary op) is m = number_of-settled is ∙ m
node-settled (binary op) is m = number_of-settled is ∙ m
node-settled all is m = let many = number_of-settled is in (omega (arith, m.0), all-settled is ∙ m.1)
node-settled any is m = let many = number_of-settled is in (omega (arith, m.0), any-settled is ∙ m.1)
node-settled choice is m = number_of-settled is ∙ m
node-settled (select text) is m = (m.0, number_of-settled is ∙ m.1)
node-settled subscript is m = number_of-settled is ∙ m
node-settled (call text) is m = m
node-settled list is m = m

put-made : (text : List ℕ) (i : Inline) (ds : Defs) → IsNameText text → IsMade i → DefsMade ds → DefsMade (put text i ds)
put-made text i no_defs is_name m ms = (is_name, m, tt)
put-made text i (def other j ds) is_name m ms = by (same_name text other) (put-made text i ds is_name m ms.2)
  where
    by : (b : Bool) → DefsMade (put text i ds) → DefsMade (cond b (def text i ds) (def other j (put text i ds)))
    by true rest = (is_name, m, ms.2)
    by false rest = (ms.0, ms.1, rest)

mutual
  pub settled-made : (x : Inline) → IsMade x → IsMade (settled x)
  settled-made (shape label is) m = (node-settled label is m.0, settled_all-made is m.1)
  settled-made (inner ds) m = settled_defs-made ds no_defs tt m

  settled_all-made : (is : Inlines) → AllMade is → AllMade (settled_all is)
  settled_all-made end m = tt
  settled_all-made (next i is) m = (settled-made i m.0, settled_all-made is m.1)

  settled_defs-made : (ds done : Defs) → DefsMade done → DefsMade ds → DefsMade (settled_defs done ds)
  settled_defs-made no_defs done before m = before
  settled_defs-made (def text i ds) done before m =
      settled_defs-made ds (put text (settled i) done) (put-made text (settled i) done m.0 (settled-made i m.1) before) m.2

-- its numbers
record NoMore (i j : Inline) : Type 0 where
  pub low : height i ≤ height j
  pub few : count i ≤ count j
  pub fewer : definitions i ≤ definitions j

record NoneMore (is js : Inlines) : Type 0 where
  pub low : highest is ≤ highest js
  pub few : count_all is ≤ count_all js
  pub fewer : definitions_all is ≤ definitions_all js

-- definitions are no more than those of two parts
record Within (ds one other : Defs) : Type 0 where
  pub low : highest_def ds ≤ max (highest_def one) (highest_def other)
  pub few : count_defs ds ≤ count_defs one + count_defs other
  pub fewer : definitions_in ds ≤ definitions_in one + definitions_in other

put-within : (text : List ℕ) (i : Inline) (ds : Defs) → Within (put text i ds) (def text i no_defs) ds
put-within text i no_defs = record { low = omega arith; few = omega arith; fewer = omega arith }
put-within text i (def other j ds) = by (same_name text other) (put-within text i ds)
  where
    by : (b : Bool) → Within (put text i ds) (def text i no_defs) ds
        → Within (cond b (def text i ds) (def other j (put text i ds))) (def text i no_defs) (def other j ds)
    by true rest = record { low = omega arith; few = omega arith; fewer = omega arith }
    by false rest =
        let low = rest.low in
        let few = rest.few in
        let fewer = rest.fewer in
        record { low = omega arith; few = omega arith; fewer = omega arith }

mutual
  no_more : (x : Inline) → NoMore (settled x) x
  no_more (shape label is) = let h = none_more is in record { low = omega (arith, h.low); few = omega (arith, h.few); fewer = omega (arith, h.fewer) }
  no_more (inner ds) = let h = within ds no_defs in record { low = omega (arith, h.low); few = omega (arith, h.few); fewer = omega (arith, h.fewer) }

  none_more : (is : Inlines) → NoneMore (settled_all is) is
  none_more end = record { low = omega arith; few = omega arith; fewer = omega arith }
  none_more (next i is) =
      let h = no_more i in
      let k = none_more is in
      record { low = omega (arith, h.low, k.low); few = omega (arith, h.few, k.few); fewer = omega (arith, h.fewer, k.fewer) }

  within : (ds done : Defs) → Within (settled_defs done ds) done ds
  within no_defs done = record { low = omega arith; few = omega arith; fewer = omega arith }
  within (def text i ds) done =
      let h = no_more i in
      let p = put-within text (settled i) done in
      let k = within ds (put text (settled i) done) in
      record { low = omega (arith, h.low, p.low, k.low); few = omega (arith, h.few, p.few, k.few); fewer = omega (arith, h.fewer, p.fewer, k.fewer) }

pub settled_expr-within : (x : Inline) → IsWithin frames_of_expr x → IsWithin frames_of_expr (settled x)
settled_expr-within x w =
    let h =
    no_more x in record {
      low =
          omega (arith, h.low, w.low);
      few_frames = omega (arith, h.few, w.few_frames);
      few_definitions = omega (arith, h.fewer, w.few_definitions);
    }

pub settled_ad-within : (x : Inline) → IsWithin frames_of_ad x → IsWithin frames_of_ad (settled x)
settled_ad-within x w =
    let h =
    no_more x in record {
      low =
          omega (arith, h.low, w.low);
      few_frames = omega (arith, h.few, w.few_frames);
      few_definitions = omega (arith, h.fewer, w.few_definitions);
    }
