use Rattle.std.proofs.Common.{Option, sym, ◌∙◌, ap}
use Rattle.claim_wire.specs.declared.message.Message.{Message}
use Rattle.claim_wire.specs.Replies.{told}
use Rattle.claim_wire.specs.Wires as spec
use Rattle.claim_wire.proofs.StepLemmas.{made-as, text-as, told-nothing}
use Rattle.claim_wire.proofs.WireLemmas.{at-contains}
use Rattle.claim_wire.proofs.wire.Wire.deliver.Goals as goal

pub bring-requires : goal.bring-requires
bring-requires c = at-contains c.args.self.now.sent c.args.number c.in-Some.m (sym c.in-Some.ensures)

pub returns-in-Some-clause-new : goal.returns-in-Some-clause-new
returns-in-Some-clause-new c =
    let w = c.args.self.now in
    let e = ap (λ (o : Option Message). spec.comes o w) c.in-Some.ensures in
    made-as c.bring.result c.bring.new.self e c.bring.ensures.new

pub returns-in-Some-clause-reply : goal.returns-in-Some-clause-reply
returns-in-Some-clause-reply c =
    let w = c.args.self.now in
    let e = ap (λ (o : Option Message). spec.comes o w) c.in-Some.ensures in
    text-as c.bring.result (ap (told w) e) c.bring.ensures.reply

pub returns-in-None-clause-reply : goal.returns-in-None-clause-reply
returns-in-None-clause-reply c =
    let w = c.args.self.now in
    let e = ap (λ (o : Option Message). spec.comes o w) c.in-None.ensures in
    text-as c.quiet.result (sym (told-nothing w) ∙ ap (told w) e) c.quiet.ensures
