use Rattle.std.proofs.Common.{map, ◌||◌, ◌∙◌, ap}
use Rattle.ad_tree.specs.Names.{has_name, same_name}
use Rattle.significant_attrs.proofs.SetLemmas.{set-added}
use Rattle.significant_attrs.proofs.reach.Reach.of.Goals as goal

pub loop-i-preserved : goal.loop-i-preserved
loop-i-preserved c =
    set-added (map (λ key. key.items) c.loop-i.set.names.keys) (map (λ key. key.items) c.add.new.self.names.keys) c.args.names.now c.loop-i.i c.at.result.now
    c.at.ensures
    (λ y. c.in_ok-add.ensures y ∙ ap (λ n. has_name y (map (λ key. key.items) c.loop-i.set.names.keys) || same_name n y) c.bytes.ensures)
    c.loop-i.invariant
