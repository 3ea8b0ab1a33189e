-- The ports of a request.
use Rattle.std.specs.Prelude.{ℕ, ◌≤◌, ◌<◌, List, length, All}
use Rattle.ad_tree.specs.declared.request.Port.{Port}
use Rattle.ad_tree.specs.Frames.{Frame}

-- how many ports a gang may have
abbrev pub port_limit : ℕ
port_limit = 8

-- ports of an ad: no more than a gang may have, and each at a frame of the ad
pub record ArePorts (fs : List Frame) (ports : List Port) : Type 0 where
  pub few : length ports ≤ port_limit
  pub within : All (λ port. port.frame < length fs) ports
