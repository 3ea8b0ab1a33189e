-- What contracts see of the builder of an ad.
use Rattle.std.specs.Prelude.{◌≡◌, ℕ, Bool, true, List, ◌∷◌, map, Result, OnOk}
use Rattle.pool_text.specs.declared.memory.OutOfMemory.{OutOfMemory}
use Rattle.ad_tree.specs.Draft.{draft_frames}
use Rattle.ad_tree.specs.Inline.{Inline}
use Rattle.ad_tree.specs.Tree.{Tree, tree}
use Rattle.ad_builder.specs.Counts.{AreCounted}
use Rattle.ad_builder.specs.JoinedTrees.{TakesElement}
use Rattle.ad_builder.specs.Machine.{top, below, step, with_element, with_definition}
use Rattle.ad_builder.specs.Measures.{IsMeasure, AreMeasures}
use Rattle.ad_builder.specs.declared.instruction.Instruction.{Instruction}
use Rattle.ad_builder.specs.declared.instruction.Instruction.TheVariants as instructions
use Rattle.ad_builder.specs.declared.builder.Builder.{Builder}
use Rattle.ad_builder.specs.declared.operand.Operand.{Operand}
use Rattle.ad_builder.specs.declared.operand.Operand.TheVariants as operands
use Rattle.ad_builder.specs.declared.measure.Measure.{Measure}
use Rattle.ad_builder.specs.Laid.{Slot, value, open_ad, Laid}
use Rattle.ad_builder.specs.Steady.{AreSteady}

abbrev pub slot : Operand → Slot
slot (operands.Value measure expr) = value (tree expr)
slot (operands.Open measure frame outer) = open_ad frame outer

abbrev pub measure_of : Operand → Measure
measure_of (operands.Value measure expr) = measure
measure_of (operands.Open measure frame outer) = measure

-- a builder has one operand more than before, and nothing else is changed
pub record HasPut (s : Slot) (m : Measure) (before after : Builder) : Type 0 where
  pub operands : map slot after.operands ≡ s ∷ map slot before.operands
  pub measures : map measure_of after.operands ≡ m ∷ map measure_of before.operands
  pub parent : after.parent ≡ before.parent
  pub drafted : draft_frames after.draft ≡ draft_frames before.draft
  pub frames : after.frames ≡ before.frames
  pub definitions : after.definitions ≡ before.definitions
  pub steady : after.is_steady ≡ before.is_steady
  pub built : after.is_built ≡ before.is_built

-- the last tree is taken, whose measure this is; where all is built, it is the last operand
pub record HasGiven (t : Tree) (m : Measure) (before after : Builder) : Type 0 where
  pub measured : (st : List Inline) → AreMeasures (map measure_of before.operands) st
      → IsMeasure m (top st) × AreMeasures (map measure_of after.operands) (below st)
  pub frames : after.frames ≡ before.frames
  pub definitions : after.definitions ≡ before.definitions
  pub given : after.is_built ≡ true → HasPut (value t) m after before

-- the tree that is the last operand has one tree more
pub record HasAdded (u : Tree) (before after : List Operand) : Type 0 where
  pub t : Tree
  pub v : Tree
  pub ss : List Slot
  pub stood : map slot before ≡ value t ∷ ss
  pub stands : map slot after ≡ value v ∷ ss
  pub takes : TakesElement t u v

-- the last tree has one tree more, in its place, and nothing else is changed
pub record HasTaken (u : Tree) (m : Measure) (before after : Builder) : Type 0 where
  pub measured : (y : Inline) (st : List Inline) → AreMeasures (map measure_of before.operands) st → IsMeasure m y
      → AreMeasures (map measure_of after.operands) (with_element (top st) y ∷ below st)
  pub parent : after.parent ≡ before.parent
  pub drafted : draft_frames after.draft ≡ draft_frames before.draft
  pub frames : after.frames ≡ before.frames
  pub definitions : after.definitions ≡ before.definitions
  pub steady : after.is_steady ≡ before.is_steady
  pub built : after.is_built ≡ true → before.is_built ≡ true
  pub added : after.is_built ≡ true → HasAdded u before.operands after.operands

-- a definition in the last tree is counted, and nothing else is changed
pub record HasCounted (before after : Builder) : Type 0 where
  pub operands : after.operands ≡ before.operands
  pub parent : after.parent ≡ before.parent
  pub drafted : draft_frames after.draft ≡ draft_frames before.draft
  pub frames : after.frames ≡ before.frames
  pub steady : after.is_steady ≡ before.is_steady
  pub built : after.is_built ≡ before.is_built
  pub counted : (f : ℕ) (x : Inline) (text : List ℕ) (st : List Inline) → AreMeasures (map measure_of before.operands) st
      → AreCounted f before.definitions (x ∷ st) → AreCounted f after.definitions (with_definition (top st) text x ∷ below st)

-- the builder has the measures and the numbers of what the machine has on its stack; where all is built, it holds that, and
-- tells whether it is steady
pub record Holds (is_ad : Bool) (builder : Builder) (st : List Inline) : Type 0 where
  pub laid : builder.is_built ≡ true → Laid is_ad (map slot builder.operands) builder.parent st (draft_frames builder.draft)
  pub measured : AreMeasures (map measure_of builder.operands) st
  pub counted : AreCounted builder.frames builder.definitions st
  pub steady : builder.is_built ≡ true → builder.is_steady ≡ true → AreSteady st

-- an instruction was carried out, whatever the stack
abbrev pub Carries : Instruction → Builder → Builder → Result (Unit {0}) OutOfMemory → Type 0
Carries i old new answer = (is_ad : Bool) (st : List Inline) → Holds is_ad old st → OnOk answer (Holds is_ad new (step i st))

-- an instruction was carried out, and the tree that it put there was added to the one below
abbrev pub CarriesElement : Instruction → Builder → Builder → Result (Unit {0}) OutOfMemory → Type 0
CarriesElement i old new answer = (is_ad : Bool) (st : List Inline) → Holds is_ad old st → OnOk answer (Holds is_ad new (step instructions.Element (step i st)))
