-- What a claim stands on.
use Rattle.std.specs.Prelude.{List}
use Rattle.ad_store.specs.Stock.{Stock}
use Rattle.ad_store.specs.Store.{stock_of}
use Rattle.claim_table.specs.declared.scene.Scene.{Scene}
use Rattle.claim_table.specs.Priorities.{Setting}
use Rattle.claim_table.specs.Settings.{settings_of}

-- the resources of the scene
abbrev pub stock_in : Scene → Stock
stock_in scene = stock_of scene.store.now

-- the users of the scene whose priority is set
abbrev pub settings_in : Scene → List Setting
settings_in scene = settings_of scene.priorities.now
