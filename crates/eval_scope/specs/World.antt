-- The world in which expressions have their values, apart from how it lies in memory.
use Rattle.std.specs.Prelude.{ℕ, zero, suc, ◌-◌, cond, List, [], ◌∷◌, ◌++◌, length, Option, Some, None, option_map, unwrap_or, slice_get, sum_by, nat_eq}
use Rattle.pool_text.specs.declared.language.AdPlace.{AdPlace}
use Rattle.pool_text.specs.declared.language.Lit.{Lit}
use Rattle.pool_text.specs.declared.language.Pos.{Pos}
use Rattle.ad_tree.specs.declared.request.Port.{Port}
use Rattle.ad_tree.specs.Tree.{Tree, node, literal}
use Rattle.ad_tree.specs.Frames.{Frame, attributes_at, expr_at}

-- ---- worlds

-- a world: its moment, the request with its ports (none for a single request), and the ads docked to it in order
pub record PlainWorld : Type 0 where
  pub moment : ℕ
  pub request : List Frame
  pub ports : List Port
  pub docked : List (List Frame)

-- the ads: ad 0 is the request, ad k the k-th that was docked
abbrev pub ads : PlainWorld → List (List Frame)
ads w = w.request ∷ w.docked

-- the frames of ad k, none where there is no such ad
abbrev pub frames_of_ad : PlainWorld → ℕ → List Frame
frames_of_ad w k = unwrap_or (slice_get (ads w) k) []

-- how many attributes the frame at a place has
abbrev pub size_at : PlainWorld → AdPlace → ℕ
size_at w p = length (attributes_at (frames_of_ad w p.ad) p.frame)

-- how many attributes all frames of all ads have
abbrev pub attribute_count : PlainWorld → ℕ
attribute_count w = sum_by (λ fs. sum_by (λ f. length f.attributes) fs) (ads w)

-- the expression of an attribute
abbrev pub expr_of : PlainWorld → Pos → Option Tree
expr_of w s = expr_at (frames_of_ad w s.ad) s.frame s.attr

-- the literal that an attribute's expression is, none where it is anything else
abbrev pub literal_of : Option Tree → Option Lit
literal_of (Some (node (literal lit) ts)) = Some lit
literal_of found = None

-- the frame in which an attribute stands
abbrev pub frame_of_attribute : Pos → AdPlace
frame_of_attribute s = record { ad = s.ad; frame = s.frame }

-- the world after one more ad is docked
abbrev pub with_docked : PlainWorld → List Frame → PlainWorld
with_docked w ad = record { moment = w.moment; request = w.request; ports = w.ports; docked = w.docked ++ ad ∷ [] }

-- ---- the two sides of a dock

-- the frame of the request to which ad k is docked: that of port k, the root for a single request
abbrev pub port_frame : List Port → ℕ → ℕ
port_frame ports k = unwrap_or (option_map (λ port. port.frame) (slice_get ports (k - 1))) 0

-- the request's side of the last dock: the frame of its port, and the root of a single request
abbrev pub request_side : PlainWorld → AdPlace
request_side w = record { ad = 0; frame = port_frame w.ports (length w.docked) }

-- the request's side of the dock of the next ad
abbrev pub next_side : PlainWorld → AdPlace
next_side w = record { ad = 0; frame = port_frame w.ports (suc (length w.docked)) }

-- the resource's side of the last dock: the root of the ad that was docked last
abbrev pub resource_side : PlainWorld → AdPlace
resource_side w = record { ad = length w.docked; frame = 0 }

-- the place at which expressions of ad k look for the other side: the root of the ad docked last for the request, which has none
-- while nothing is docked; for any other ad the frame to which it is docked
abbrev pub target : PlainWorld → ℕ → Option AdPlace
target w zero = cond (nat_eq (length w.docked) 0) None (Some (resource_side w))
target w (suc k) = Some (record { ad = 0; frame = port_frame w.ports (suc k) })
