-- What contracts see of a draft.
use Rattle.std.specs.Prelude.{List, ◌∷◌}
use Rattle.ad_tree.specs.declared.draft.Draft.{Draft}
use Rattle.ad_tree.specs.Frames.{Frame}
use Rattle.ad_tree.specs.Table.{frame_of, frames_of}

-- the frames of a draft, in the order in which they were added
abbrev pub draft_frames : Draft → List Frame
draft_frames draft = frame_of draft.root ∷ frames_of draft.inner.items
