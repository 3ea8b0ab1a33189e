use Rattle.std.proofs.Common.{◌∙◌, ap, length}
use Rattle.claim_wire.specs.Resources.{ResourceState}
use Rattle.claim_wire.proofs.ResourceLemmas.{length-take}
use Rattle.claim_wire.proofs.resource.Resource.take.Goals as goal

pub returns-clause-customers : goal.returns-clause-customers
returns-clause-customers c = ap (λ (r : ResourceState). length r.freed) c.change.ensures ∙ length-take c.args.m.now c.args.self.now
