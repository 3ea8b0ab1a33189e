use Rattle.std.proofs.Common.{◌∙◌, Some, ap, arith, sym}
use Rattle.std.proofs.lemmas.Result.{IfOk-weaker, on_ok_weaker}
use Rattle.ad_tree.specs.Ad.{ad_frames}
use Rattle.pool_commands.specs.Keyed.{keys_with, number_for}
use Rattle.pool_commands.proofs.ClassLemmas.{gang-key, single-key}
use Rattle.pool_commands.proofs.ExplainLemmas.{no-ports}
use Rattle.pool_commands.proofs.classing.class_of.Goals as goal

pub returns-then-len-gt0-clause-number : goal.returns-then-len-gt0-clause-number
returns-then-len-gt0-clause-number c =
    let request = c.args.request.now in
    IfOk-weaker c.alone.result _ _
    (λ n is ads read. is ∙ ap (λ own. number_for own c.args.classes.now) (sym
    (gang-key ads (ad_frames request.ad) request.ports (omega (arith, c.len.ensures, c.if-len-gt0.true))))) c.alone.ensures.number

pub returns-then-len-gt0-clause-classes : goal.returns-then-len-gt0-clause-classes
returns-then-len-gt0-clause-classes c =
    let request = c.args.request.now in
    on_ok_weaker c.alone.result
    (λ is ads read. is ∙ ap (λ own. keys_with own c.args.classes.now) (sym
    (gang-key ads (ad_frames request.ad) request.ports (omega (arith, c.len.ensures, c.if-len-gt0.true))))) c.alone.ensures.ok

pub returns-in_ok-of-clause-number : goal.returns-in_ok-of-clause-number
returns-in_ok-of-clause-number c =
    let request = c.args.request.now in
    IfOk-weaker c.join.result _ _
    (λ n is ads read. is ∙ ap (λ key. number_for (Some key) c.args.classes.now) (c.in_ok-of.ensures.ads ads read)
    ∙ ap (λ own. number_for own c.args.classes.now) (sym
    (single-key ads (ad_frames request.ad) request.ports (no-ports request.ports c.len.result c.len.ensures (omega (arith, c.if-len-gt0.false))))))
    c.join.ensures.number

pub returns-in_ok-of-clause-classes : goal.returns-in_ok-of-clause-classes
returns-in_ok-of-clause-classes c =
    let request = c.args.request.now in
    on_ok_weaker c.join.result
    (λ is ads read. is ∙ ap (λ key. keys_with (Some key) c.args.classes.now) (c.in_ok-of.ensures.ads ads read)
    ∙ ap (λ own. keys_with own c.args.classes.now) (sym
    (single-key ads (ad_frames request.ad) request.ports (no-ports request.ports c.len.result c.len.ensures (omega (arith, c.if-len-gt0.false))))))
    c.join.ensures.ok
