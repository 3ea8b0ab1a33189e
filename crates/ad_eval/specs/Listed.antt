-- List literals, of which no more is gathered once they weigh too much.
use Rattle.std.specs.Prelude.{List, ◌++◌, Option, None, Some}
use Rattle.ad_value.specs.Demands.{list_value}
use Rattle.ad_value.specs.Plain.{Plain, error}

-- the value of a literal that has more values behind those that were gathered; where none were kept they weighed too much
abbrev pub listed_with : Option (List Plain) → List Plain → Plain
listed_with (Some values) more = list_value (values ++ more)
listed_with None more = error
