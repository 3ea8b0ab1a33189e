-- Ads as lists of frames. Frame 0 is the root; every other frame is an ad literal, and its parent is the frame in whose expressions it stands.
use Rattle.std.specs.Prelude.{ℕ, zero, suc, ◌≡◌, ◌<◌, List, [], ◌∷◌, ◌++◌, length, map, Option, None, Some, option_map, slice_get, IsTrue, Contains, cond}
use Rattle.ad_tree.specs.Tree.{Tree, cited}
use Rattle.ad_tree.specs.Names.{same_name, are_apart}

-- a frame: its parent (0 for the root) and its attributes in order, each a name with an expression
pub record Frame : Type 0 where
  pub parent : ℕ
  pub attributes : List (List ℕ × Tree)

-- a frame with no attributes
abbrev pub empty_frame : ℕ → Frame
empty_frame parent = record { parent = parent; attributes = [] }

-- the attributes after one is defined: a name that is there keeps its first place, and takes the new spelling and the new expression
abbrev pub put_attribute : List ℕ → Tree → List (List ℕ × Tree) → List (List ℕ × Tree)
put_attribute name t [] = (name, t) ∷ []
put_attribute name t (a ∷ rest) = cond (same_name name a.0) ((name, t) ∷ rest) (a ∷ put_attribute name t rest)

-- the same in a frame
abbrev pub defined_in : Frame → List ℕ → Tree → Frame
defined_in f name t = record { parent = f.parent; attributes = put_attribute name t f.attributes }

-- the same in frame f of a list
abbrev pub defined : List Frame → ℕ → List ℕ → Tree → List Frame
defined [] f name t = []
defined (g ∷ gs) zero name t = defined_in g name t ∷ gs
defined (g ∷ gs) (suc f) name t = g ∷ defined gs f name t

-- the attributes after each of a list is defined in turn
abbrev pub put_all : List (List ℕ × Tree) → List (List ℕ × Tree) → List (List ℕ × Tree)
put_all done [] = done
put_all done (a ∷ rest) = put_all (put_attribute a.0 a.1 done) rest

-- a frame whose attributes are defined anew in their order, so that names are apart
abbrev pub settled_frame : Frame → Frame
settled_frame f = record { parent = f.parent; attributes = put_all [] f.attributes }

-- the names of attributes
abbrev pub names_of : List (List ℕ × Tree) → List (List ℕ)
names_of attributes = map (λ a. a.0) attributes

-- the attributes of a frame that may be missing
abbrev pub attributes_in : Option Frame → List (List ℕ × Tree)
attributes_in None = []
attributes_in (Some f) = f.attributes

-- the attributes of frame f, none where there is no such frame
abbrev pub attributes_at : List Frame → ℕ → List (List ℕ × Tree)
attributes_at fs f = attributes_in (slice_get fs f)

-- the names of frame f
abbrev pub names_in : List Frame → ℕ → List (List ℕ)
names_in fs f = names_of (attributes_at fs f)

-- the name of attribute k of frame f, in its spelling
abbrev pub name_at : List Frame → ℕ → ℕ → Option (List ℕ)
name_at fs f k = option_map (λ a. a.0) (slice_get (attributes_at fs f) k)

-- the expression of attribute k of frame f
abbrev pub expr_at : List Frame → ℕ → ℕ → Option Tree
expr_at fs f k = option_map (λ a. a.1) (slice_get (attributes_at fs f) k)

-- the parent of frame f: none for the root and for a missing frame
abbrev pub parent_of : List Frame → ℕ → Option ℕ
parent_of fs zero = None
parent_of fs (suc f) = option_map (λ g. g.parent) (slice_get fs (suc f))

-- the frames that attributes cite
abbrev pub cited_in : List (List ℕ × Tree) → List ℕ
cited_in [] = []
cited_in (a ∷ rest) = cited a.1 ++ cited_in rest

-- an ad: it has a root, parents are lower, the names of a frame are apart, and each frame that stands in an expression has the expression's frame as its parent
pub record IsAd (fs : List Frame) : Type 0 where
  pub root : 0 < length fs
  pub lower : (f parent : ℕ) → parent_of fs f ≡ Some parent → parent < f
  pub apart : (f : ℕ) → IsTrue (are_apart (names_in fs f))
  pub nested : (f inner : ℕ) → Contains (cited_in (attributes_at fs f)) inner → parent_of fs inner ≡ Some f
