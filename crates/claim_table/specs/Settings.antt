-- What contracts see of priorities.
use Rattle.std.specs.Prelude.{List, map}
use Rattle.claim_table.specs.declared.priorities.Priorities.{Priorities}
use Rattle.claim_table.specs.Priorities.{Setting, setting_of}

-- the users whose priority is set, in the order in which they were first set
abbrev pub settings_of : Priorities → List Setting
settings_of priorities = map setting_of priorities.settings.items
