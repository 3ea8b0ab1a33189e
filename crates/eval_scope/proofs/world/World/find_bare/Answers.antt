use Rattle.std.proofs.Common.{sym, ◌∙◌}
use Rattle.eval_scope.specs.Look.{enclosing, labels, targets}
use Rattle.eval_scope.specs.Shown.{world_of}
use Rattle.eval_scope.proofs.LookLemmas.{in_beyond, in_labels, in_own}
use Rattle.eval_scope.proofs.world.World.find_bare.Goals as goal

pub returns-in-Nothing-find_label : goal.returns-in-Nothing-find_label
returns-in-Nothing-find_label c =
    let w = world_of c.args.self.now in
    let at = c.args.at in
    c.find_beyond.ensures
    ∙ sym (in_beyond w c.args.name.now (enclosing w at) (labels w at.ad) (targets w at.ad) (sym c.find_upward.ensures ∙ c.in-Nothing.is)
    (sym c.find_label.ensures ∙ c.in-Nothing-find_label.is))

pub returns-in_default-find_label : goal.returns-in_default-find_label
returns-in_default-find_label c =
    let w = world_of c.args.self.now in
    let at = c.args.at in
    c.find_label.ensures
    ∙ sym (in_labels w c.args.name.now (enclosing w at) (labels w at.ad) (targets w at.ad) (sym c.find_upward.ensures ∙ c.in-Nothing.is)
    (λ none. c.in_default-find_label.not-Nothing (c.find_label.ensures ∙ none)))

pub returns-in_default : goal.returns-in_default
returns-in_default c =
    let w = world_of c.args.self.now in
    let at = c.args.at in
    c.find_upward.ensures
    ∙ sym (in_own w c.args.name.now (enclosing w at) (labels w at.ad) (targets w at.ad) (λ none. c.in_default.not-Nothing (c.find_upward.ensures ∙ none)))
