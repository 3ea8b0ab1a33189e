-- Ports' resources whose ads are as small as those that are read.
use Rattle.std.specs.Prelude.{List, All}
use Rattle.ad_tree.specs.Ad.{ad_frames}
use Rattle.ad_tree.specs.Small.{IsSmall}
use Rattle.gang_ports.specs.declared.weighing.Resource.{Resource}
use Rattle.gang_ports.specs.declared.weighing.Side.{Side}

-- the ads of a port's resources are small
abbrev pub AreSmallResources : List Resource → Type 0
AreSmallResources resources = All (λ r. IsSmall (ad_frames r.ad.now)) resources

-- so are those of the resources of all ports
abbrev pub AreSmallSides : List Side → Type 0
AreSmallSides sides = All (λ side. AreSmallResources side.resources.items) sides
