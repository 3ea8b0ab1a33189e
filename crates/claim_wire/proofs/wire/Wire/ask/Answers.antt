use Rattle.std.proofs.Common.{sym, ap, subst, arith}
use Rattle.claim_wire.specs.declared.event.Event.TheVariants as events
use Rattle.claim_wire.specs.Customers as moves
use Rattle.claim_wire.specs.Facts.{Facts}
use Rattle.claim_wire.specs.Replies.{told}
use Rattle.claim_wire.proofs.StepLemmas.{moved-is, made-as, text-as}
use Rattle.claim_wire.proofs.WireLemmas.{happens-facts}
use Rattle.claim_wire.proofs.wire.Wire.ask.Goals as goal

pub ask-message-requires : goal.ask-message-requires
ask-message-requires c =
    let w = c.args.self.now in
    let few = c.requires.room in
    let most = c.customer-moved.ensures.facts.numbered c.args.customer c.customer-moved.result c.customer-moved.ensures.customer in
    omega arith

pub put_customer-requires-clause-kept : goal.put_customer-requires-clause-kept
put_customer-requires-clause-kept c =
    let w = c.args.self.now in
    let s = c.customer-moved.result in
    let e =
    moved-is w c.args.customer (moves.ask c.args.resource) s c.ask-message.new.self c.ask-message.result c.customer-moved.ensures.customer
    c.ask-message.ensures.new c.ask-message.ensures.sent in
    subst Facts (sym e) (happens-facts (events.Ask c.args.customer c.args.resource) w c.customer-moved.ensures.facts)

pub returns-clause-new : goal.returns-clause-new
returns-clause-new c =
    let w = c.args.self.now in
    let s = c.customer-moved.result in
    let e =
    moved-is w c.args.customer (moves.ask c.args.resource) s c.ask-message.new.self c.ask-message.result c.customer-moved.ensures.customer
    c.ask-message.ensures.new c.ask-message.ensures.sent in
    made-as c.put_customer.result c.put_customer.new.self e c.put_customer.ensures.new

pub returns-clause-reply : goal.returns-clause-reply
returns-clause-reply c =
    let w = c.args.self.now in
    let s = c.customer-moved.result in
    let e =
    moved-is w c.args.customer (moves.ask c.args.resource) s c.ask-message.new.self c.ask-message.result c.customer-moved.ensures.customer
    c.ask-message.ensures.new c.ask-message.ensures.sent in
    text-as c.put_customer.result (ap (told w) e) c.put_customer.ensures.reply
