use Rattle.std.proofs.Common.{◌<◌, length, refl}
use Rattle.std.proofs.lemmas.List.{length-map}
use Rattle.std.proofs.lemmas.Option.{slice_get_read, slice_get-map}
use Rattle.ad_tree.proofs.TreeLemmas.{trees-items}
use Rattle.ad_tree.proofs.tree.Exprs.at.Goals as goal

pub returns : goal.returns
returns c =
    let within : c.args.i < length c.args.self.now.items.items = rw (trees-items, length-map) at c.requires in
    rw (trees-items, slice_get-map, slice_get_read c.args.self.now.items.items _ c.args.i _ refl within c.index.ensures) refl
