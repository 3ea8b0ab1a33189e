use Rattle.std.proofs.Common.{◌+◌, ap, refl, arith, Err, ◌∙◌}
use Rattle.ad_grammar.specs.declared.stop.Stop.TheVariants as stops
use Rattle.ad_builder.specs.Machine.{stack, top, below}
use Rattle.ad_grammar.specs.Rules.{parsed_ad}
use Rattle.ad_grammar.specs.Steps.{left}
use Rattle.ad_grammar.proofs.ReadLemmas.{is_read-ok, is_read-none, is_read-by, ad-all, ad-more, ad-none}
use Rattle.ad_grammar.proofs.read.whole_ad.Goals as goal

pub returns-in_err-definitions : goal.returns-in_err-definitions
returns-in_err-definitions c =
    let old = left c.args.reader.now in
    let ws = left c.expect.new.self in
    is_read-by (parsed_ad old) c.from_residual-in_err-definitions.result c.in_err-definitions.field-0.0 c.from_residual-in_err-definitions.ensures.0
    c.from_residual-in_err-definitions.ensures.1
    (λ stop. ad-none ws (c.count-fuel.result + 1) (ap (λ n. n + 1) c.count-fuel.ensures.value) old (c.in_ok-expect.ensures.ok _ refl)
    (stack c.in_ok-machine.machine) c.in_ok-machine.ensures (c.in_err-definitions.ensures.none (ap Err stop)))

pub returns-then-count-gt0 : goal.returns-then-count-gt0
returns-then-count-gt0 c =
    let old = left c.args.reader.now in
    let ws = left c.expect.new.self in
    let read = c.in_ok-definitions.ensures in
    is_read-none (parsed_ad old) stops.Grammar
    (ad-more ws (c.count-fuel.result + 1) (ap (λ n. n + 1) c.count-fuel.ensures.value) old (c.in_ok-expect.ensures.ok _ refl)
    (stack c.in_ok-machine.machine) c.in_ok-machine.ensures (top (stack c.definitions.new.machine)) (left c.definitions.new.reader)
    (read.ok c.in_ok-definitions.field-0 refl) (omega (arith, c.count.ensures.value, c.if-count-gt0.true)))

pub returns : goal.returns
returns c =
    let old = left c.args.reader.now in
    let ws = left c.expect.new.self in
    let read = c.in_ok-definitions.ensures in
    is_read-ok (parsed_ad old) c.definitions.new.machine
    (ad-all ws (c.count-fuel.result + 1) (ap (λ n. n + 1) c.count-fuel.ensures.value) old (c.in_ok-expect.ensures.ok _ refl)
    (stack c.in_ok-machine.machine) c.in_ok-machine.ensures (top (stack c.definitions.new.machine)) (left c.definitions.new.reader)
    (read.ok c.in_ok-definitions.field-0 refl) (omega (arith, c.count.ensures.value, c.if-count-gt0.false)))
    (read.on c.in_ok-definitions.field-0 refl ∙ ap below c.in_ok-machine.ensures)
