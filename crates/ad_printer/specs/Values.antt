-- The printed text of a value.
use Rattle.std.specs.Prelude.{ℕ, zero, suc, true, false, List, [], ◌++◌, length, codes, Option, None, Some}
use Rattle.std.specs.Fmt.{signed_decimal}
use Rattle.pool_text.specs.Number.{decimal_text}
use Rattle.pool_text.specs.declared.language.AdPlace.{AdPlace}
use Rattle.ad_tree.specs.Frames.{Frame}
use Rattle.ad_tree.specs.Inline.{opened}
use Rattle.ad_value.specs.Plain.{Plain, undefined, error, boolean, integer, decimal, text, list, ad_at, Plains, no_plains, plain_then}
use Rattle.ad_printer.specs.Printed.{printed}
use Rattle.ad_printer.specs.Quotes.{in_quotes}

-- a frame of an ad as an ad literal; `[ ]` where the ad has no such frame
abbrev pub printed_frame : List Frame → ℕ → List ℕ
printed_frame fs frame = printed (opened fs (length fs) frame)

abbrev mutual
  -- the text of a value inside a list, where an ad is `[...]`
  pub value_text : Plain → List ℕ
  value_text undefined = codes "undefined"
  value_text error = codes "error"
  value_text (boolean true) = codes "true"
  value_text (boolean false) = codes "false"
  value_text (integer n) = signed_decimal n
  value_text (decimal n) = decimal_text n
  value_text (text bytes) = in_quotes 34 bytes
  value_text (list no_plains) = codes "{ }"
  value_text (list (plain_then p ps)) = codes "{ " ++ (value_text p ++ (texts_behind ps ++ codes " }"))
  value_text (ad_at place) = codes "[...]"

  -- the texts of the elements behind the first
  pub texts_behind : Plains → List ℕ
  texts_behind no_plains = []
  texts_behind (plain_then p ps) = codes ", " ++ (value_text p ++ texts_behind ps)

-- the frames of the ad of a place: ad 0 is the request, and ad 1 the other ad, where there is one
abbrev pub frames_at : ℕ → List Frame → Option (List Frame) → List Frame
frames_at zero request other = request
frames_at (suc zero) request None = []
frames_at (suc zero) request (Some fs) = fs
frames_at (suc (suc ad)) request other = []

-- a frame at a place
abbrev pub printed_at : List Frame → Option (List Frame) → AdPlace → List ℕ
printed_at request other place = printed_frame (frames_at place.ad request other) place.frame

-- the place of a value that is an ad
abbrev pub place_of : Plain → Option AdPlace
place_of (ad_at place) = Some place
place_of value = None

-- the text of a value, where an ad is its frame, an ad literal
abbrev pub printed_value : List Frame → Option (List Frame) → Plain → List ℕ
printed_value request other (ad_at place) = printed_at request other place
printed_value request other value = value_text value
