-- Spelled trees: expressions with their ad literals in place, as the grammar spells them and as they are printed.
use Rattle.std.specs.Prelude.{ℕ, zero, suc, ◌+◌, max, Bool, true, ◌&&◌, List, [], ◌∷◌, ◌++◌, length, cond}
use Rattle.ad_tree.specs.Tree.{Label, Tree, node, frame, Trees, none, more}
use Rattle.ad_tree.specs.Names.{same_name, are_apart}
use Rattle.ad_tree.specs.Frames.{Frame, empty_frame, attributes_at}

-- a node with the trees below it, or an ad literal with its definitions in order
mutual
  pub data Inline : Type 0 where
    shape : Label → Inlines → Inline
    inner : Defs → Inline

  pub data Inlines : Type 0 where
    end : Inlines
    next : Inline → Inlines → Inlines

  pub data Defs : Type 0 where
    no_defs : Defs
    def : List ℕ → Inline → Defs → Defs

-- how many ad literals a tree has
abbrev mutual
  pub count : Inline → ℕ
  count (shape label is) = count_all is
  count (inner ds) = suc (count_defs ds)

  pub count_all : Inlines → ℕ
  count_all end = 0
  count_all (next i is) = count i + count_all is

  pub count_defs : Defs → ℕ
  count_defs no_defs = 0
  count_defs (def name i ds) = count i + count_defs ds

-- the height: 1 for a leaf, one more than the highest part for a node or an ad literal
abbrev mutual
  pub height : Inline → ℕ
  height (shape label is) = suc (highest is)
  height (inner ds) = suc (highest_def ds)

  pub highest : Inlines → ℕ
  highest end = 0
  highest (next i is) = max (height i) (highest is)

  pub highest_def : Defs → ℕ
  highest_def no_defs = 0
  highest_def (def name i ds) = max (height i) (highest_def ds)

-- how many definitions a tree has
abbrev mutual
  pub definitions : Inline → ℕ
  definitions (shape label is) = definitions_all is
  definitions (inner ds) = definitions_in ds

  pub definitions_all : Inlines → ℕ
  definitions_all end = 0
  definitions_all (next i is) = definitions i + definitions_all is

  pub definitions_in : Defs → ℕ
  definitions_in no_defs = 0
  definitions_in (def name i ds) = suc (definitions i + definitions_in ds)

-- the definitions of each ad literal, in the order of the opening brackets
abbrev mutual
  pub literals : Inline → List Defs
  literals (shape label is) = literals_all is
  literals (inner ds) = ds ∷ literals_in ds

  pub literals_all : Inlines → List Defs
  literals_all end = []
  literals_all (next i is) = literals i ++ literals_all is

  pub literals_in : Defs → List Defs
  literals_in no_defs = []
  literals_in (def name i ds) = literals i ++ literals_in ds

-- the plain tree, with the numbers of the frames in the place of the ad literals: they are numbered from b, in the order of their opening brackets
abbrev mutual
  pub number : ℕ → Inline → Tree
  number b (shape label is) = node label (number_all b is)
  number b (inner ds) = frame b

  pub number_all : ℕ → Inlines → Trees
  number_all b end = none
  number_all b (next i is) = more (number b i) (number_all (b + count i) is)

-- the attributes of definitions, likewise
abbrev pub attributes_from : ℕ → Defs → List (List ℕ × Tree)
attributes_from b no_defs = []
attributes_from b (def name i ds) = (name, number b i) ∷ attributes_from (b + count i) ds

-- the frames that a tree in frame p opens, numbered from b
abbrev mutual
  pub frames : ℕ → ℕ → Inline → List Frame
  frames p b (shape label is) = frames_all p b is
  frames p b (inner ds) = record { parent = p; attributes = attributes_from (suc b) ds } ∷ frames_in b (suc b) ds

  pub frames_all : ℕ → ℕ → Inlines → List Frame
  frames_all p b end = []
  frames_all p b (next i is) = frames p b i ++ frames_all p (b + count i) is

  pub frames_in : ℕ → ℕ → Defs → List Frame
  frames_in p b no_defs = []
  frames_in p b (def name i ds) = frames p b i ++ frames_in p (b + count i) ds

-- a plain tree with the frames' definitions in the place of their numbers
abbrev mutual
  pub inlined : (ℕ → Defs) → Tree → Inline
  inlined open_frame (node label ts) = shape label (inlined_all open_frame ts)
  inlined open_frame (frame f) = inner (open_frame f)

  pub inlined_all : (ℕ → Defs) → Trees → Inlines
  inlined_all open_frame none = end
  inlined_all open_frame (more t ts) = next (inlined open_frame t) (inlined_all open_frame ts)

-- attributes as definitions, likewise
abbrev pub defs_of : (ℕ → Defs) → List (List ℕ × Tree) → Defs
defs_of open_frame [] = no_defs
defs_of open_frame (a ∷ rest) = def a.0 (inlined open_frame a.1) (defs_of open_frame rest)

-- what stands in frame f, with n levels of frames opened and nothing in those below; an ad has fewer levels than frames
abbrev pub inside : List Frame → ℕ → ℕ → Defs
inside fs zero f = no_defs
inside fs (suc n) f = defs_of (inside fs n) (attributes_at fs f)

-- frame f as an ad literal, likewise
abbrev pub opened : List Frame → ℕ → ℕ → Inline
opened fs n f = inner (inside fs n f)

-- a plain tree of these frames as it is spelled
abbrev pub spelled_tree : List Frame → Tree → Inline
spelled_tree fs t = inlined (inside fs (length fs)) t

-- the root of these frames as it is spelled
abbrev pub spelled : List Frame → Inline
spelled fs = opened fs (length fs) 0

-- the definitions after one is added: a name that is there keeps its first place, and takes the new spelling and the new expression
abbrev pub put : List ℕ → Inline → Defs → Defs
put name i no_defs = def name i no_defs
put name i (def other j ds) = cond (same_name name other) (def name i ds) (def other j (put name i ds))

-- a tree without repeated names: each definition at its name's first place, with the name's last spelling and last expression
abbrev mutual
  pub settled : Inline → Inline
  settled (shape label is) = shape label (settled_all is)
  settled (inner ds) = inner (settled_defs no_defs ds)

  pub settled_all : Inlines → Inlines
  settled_all end = end
  settled_all (next i is) = next (settled i) (settled_all is)

  pub settled_defs : Defs → Defs → Defs
  settled_defs done no_defs = done
  settled_defs done (def name i ds) = settled_defs (put name (settled i) done) ds

-- the ad of a spelled ad literal
abbrev pub ad_of : Inline → List Frame
ad_of x = frames 0 0 (settled x)

-- the ad of a spelled expression that stands alone: an empty root, and the frames of the expression's ad literals
abbrev pub phrase_of : Inline → List Frame
phrase_of x = empty_frame 0 ∷ frames 0 1 (settled x)

-- and its plain tree
abbrev pub phrase_tree : Inline → Tree
phrase_tree x = number 1 (settled x)

-- the names of definitions
abbrev pub def_names : Defs → List (List ℕ)
def_names no_defs = []
def_names (def name i ds) = name ∷ def_names ds

-- whether no ad literal of the tree repeats a name
abbrev mutual
  pub is_apart : Inline → Bool
  is_apart (shape label is) = all_apart is
  is_apart (inner ds) = are_apart (def_names ds) && defs_apart ds

  pub all_apart : Inlines → Bool
  all_apart end = true
  all_apart (next i is) = is_apart i && all_apart is

  pub defs_apart : Defs → Bool
  defs_apart no_defs = true
  defs_apart (def name i ds) = is_apart i && defs_apart ds
