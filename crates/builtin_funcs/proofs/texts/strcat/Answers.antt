use Rattle.std.proofs.Common.{◌<◌, ap, arith, length}
use Rattle.ad_value.specs.Limits.{bounded}
use Rattle.ad_value.specs.Plain.{plains}
use Rattle.builtin_funcs.proofs.TextLemmas.{written_more, written_too_long, written_whole}
use Rattle.builtin_funcs.proofs.texts.strcat.Goals as goal

pub loop-i-preserved : goal.loop-i-preserved
loop-i-preserved c = written_more c.loop-i.out _ _ (plains c.args.args.now) c.loop-i.i _ c.at.ensures c.in_ok-append_written.ensures c.loop-i.invariant

pub returns-then-bytes-gt-LONGEST : goal.returns-then-bytes-gt-LONGEST
returns-then-bytes-gt-LONGEST c =
    let long : 65535 < length c.append_written.new.out = omega (arith, c.if-bytes-gt-LONGEST.true, ap length c.bytes.ensures) in
    written_too_long c.append_written.new.out _ (plains c.args.args.now) long c.if-not-all_scalars.ensures
    (written_more c.loop-i.out _ _ (plains c.args.args.now) c.loop-i.i _ c.at.ensures c.in_ok-append_written.ensures c.loop-i.invariant)

pub returns : goal.returns
returns c =
    ap bounded
    (written_whole c.loop-i.out (plains c.args.args.now) c.loop-i.i _ c.len-i-end.ensures c.loop-i-test.false c.if-not-all_scalars.ensures c.loop-i.invariant)
