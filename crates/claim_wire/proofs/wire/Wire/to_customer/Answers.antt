use Rattle.std.proofs.Common.{None, refl, sym, ◌∙◌, ap, subst}
use Rattle.claim_wire.specs.Customers as moves
use Rattle.claim_wire.specs.Facts.{Facts}
use Rattle.claim_wire.specs.Replies.{told}
use Rattle.claim_wire.proofs.StepLemmas.{moved-is, at-none, no-customer, told-nothing, untrue, made-as, text-as}
use Rattle.claim_wire.proofs.WireLemmas.{given-facts}
use Rattle.claim_wire.proofs.wire.Wire.to_customer.Goals as goal

pub returns-then-not-known-clause-reply : goal.returns-then-not-known-clause-reply
returns-then-not-known-clause-reply c =
    let w = c.args.self.now in
    let m = c.args.m.now in
    let none = at-none w.customers m.customer (λ named. untrue (c.if-not-known.ensures.1 named)) in
    let e = no-customer w m.customer (λ s. (moves.take m s, None)) none in
    text-as c.quiet.result (sym (told-nothing w) ∙ ap (told w) (sym e)) c.quiet.ensures

pub put_customer-requires-clause-kept : goal.put_customer-requires-clause-kept
put_customer-requires-clause-kept c =
    let w = c.args.self.now in
    let m = c.args.m.now in
    let s = c.customer-moved.result in
    let e = moved-is w m.customer (λ s. (moves.take m s, None)) s c.take.new.self None c.customer-moved.ensures.customer c.take.ensures refl in
    subst Facts (sym e) (given-facts w m c.customer-moved.ensures.facts c.requires)

pub returns-clause-new : goal.returns-clause-new
returns-clause-new c =
    let w = c.args.self.now in
    let m = c.args.m.now in
    let s = c.customer-moved.result in
    let e = moved-is w m.customer (λ s. (moves.take m s, None)) s c.take.new.self None c.customer-moved.ensures.customer c.take.ensures refl in
    made-as c.put_customer.result c.put_customer.new.self e c.put_customer.ensures.new

pub returns-clause-reply : goal.returns-clause-reply
returns-clause-reply c =
    let w = c.args.self.now in
    let m = c.args.m.now in
    let s = c.customer-moved.result in
    let e = moved-is w m.customer (λ s. (moves.take m s, None)) s c.take.new.self None c.customer-moved.ensures.customer c.take.ensures refl in
    text-as c.put_customer.result (ap (told w) e) c.put_customer.ensures.reply
