-- The ports of a job, as its ad lists them.
use Rattle.std.specs.Prelude.{◌≡◌, Bool, ◌&&◌, codes, List, [], position, is_none, is_some}
use Rattle.std.specs.Option.{option_map_or}
use Rattle.ad_tree.specs.Ad.{ad_frames}
use Rattle.ad_tree.specs.Frames.{Frame, names_in}
use Rattle.ad_tree.specs.Names.{same_name}
use Rattle.ad_tree.specs.declared.request.Port.{Port}
use Rattle.ad_tree.specs.declared.request.Request.{Request}
use Rattle.gang_ports.specs.Ports.{ports_of}

-- the root of an ad has an attribute `Ports`, as a gang's has
abbrev pub is_gang : List Frame → Bool
is_gang frames = is_some (position (same_name (codes "Ports")) (names_in frames 0))

-- the attribute isn't of the form that it has for a gang
abbrev pub has_bad_ports : List Frame → Bool
has_bad_ports frames = is_gang frames && is_none (ports_of frames)

-- the ports that an ad lists, or none
abbrev pub ports_in : List Frame → List Port
ports_in frames = option_map_or (λ ports. ports) (ports_of frames) []

-- a request has the ports that its ad lists
abbrev pub HasOwnPorts : Request → Type 0
HasOwnPorts request = request.ports ≡ ports_in (ad_frames request.ad)
