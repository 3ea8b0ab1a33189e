-- What contracts see of the frames of an ad or of a draft.
use Rattle.std.specs.Prelude.{List, ◌∷◌, map}
use Rattle.ad_tree.specs.declared.frame.AdFrame.{AdFrame}
use Rattle.ad_tree.specs.declared.table.Table.{Table}
use Rattle.ad_tree.specs.Frames.{Frame}
use Rattle.ad_tree.specs.Attributes.{attributes_of}

-- a frame
abbrev pub frame_of : AdFrame → Frame
frame_of f = record { parent = f.parent; attributes = attributes_of f.attributes.keys }

-- a list of frames
abbrev pub frames_of : List AdFrame → List Frame
frames_of fs = map frame_of fs

-- the frames of a table
abbrev pub table_frames : Table → List Frame
table_frames table = frame_of table.root ∷ frames_of table.inner.items
