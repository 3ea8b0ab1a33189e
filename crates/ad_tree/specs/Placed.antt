-- What a copy of a tree into an ad under construction has done: the copy is the numbered tree, and its frames stand behind those that were there.
use Rattle.std.specs.Prelude.{ℕ, suc, ◌≡◌, List, ◌∷◌, ◌++◌, length, map}
use Rattle.ad_tree.specs.Tree.{Tree, Trees}
use Rattle.ad_tree.specs.Frames.{Frame, settled_frame}
use Rattle.ad_tree.specs.Inline.{Inline, Inlines, Defs, number, number_all, attributes_from, frames, frames_all, frames_in}

-- a tree that stands in frame p
pub record IsPlaced (p : ℕ) (i : Inline) (copy : Tree) (before after : List Frame) : Type 0 where
  pub copied : copy ≡ number (length before) i
  pub opened : after ≡ before ++ map settled_frame (frames p (length before) i)

-- the same of trees one after another
pub record AreAllPlaced (p : ℕ) (is : Inlines) (copies : Trees) (before after : List Frame) : Type 0 where
  pub copied : copies ≡ number_all (length before) is
  pub opened : after ≡ before ++ map settled_frame (frames_all p (length before) is)

-- the same of the definitions of frame p, whose copy has its own parent and each name once
pub record AreDefinitionsPlaced (parent p : ℕ) (ds : Defs) (copy : Frame) (before after : List Frame) : Type 0 where
  pub copied : copy ≡ settled_frame (record { parent = parent; attributes = attributes_from (length before) ds })
  pub opened : after ≡ before ++ map settled_frame (frames_in p (length before) ds)

-- a frame of a draft with its definitions so far: it stands behind the frames that were there, and the frames of its ad literals stand behind it
pub record HasDefined (parent : ℕ) (ds : Defs) (before after : List Frame) : Type 0 where
  pub defined : after ≡ before ++ settled_frame (record { parent = parent; attributes = attributes_from (suc (length before)) ds })
      ∷ map settled_frame (frames_in (length before) (suc (length before)) ds)
