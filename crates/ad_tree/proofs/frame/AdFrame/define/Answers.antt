use Rattle.std.proofs.Common.{arith}
use Rattle.ad_tree.specs.Tree.{tree}
use Rattle.ad_tree.proofs.FrameLemmas.{apart-put, few-put}
use Rattle.ad_tree.proofs.frame.AdFrame.define.Goals as goal

pub invariant_of-self-clause-apart : goal.invariant_of-self-clause-apart
invariant_of-self-clause-apart c =
    apart-put c.put.result c.args.name (tree c.args.expr) c.args.self.now.attributes.keys c.put.new.set.keys c.put.ensures.ok
    c.put.ensures.err c.args.self.now.apart

pub invariant_of-self-clause-few : goal.invariant_of-self-clause-few
invariant_of-self-clause-few c =
    omega (
      arith,
      few-put c.put.result c.args.name (tree c.args.expr) c.args.self.now.attributes.keys c.put.new.set.keys c.put.ensures.ok c.put.ensures.err,
      c.if-len.false,
      c.len.ensures.len,
    )
