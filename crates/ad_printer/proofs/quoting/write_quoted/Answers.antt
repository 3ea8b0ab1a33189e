use Rattle.ad_printer.proofs.QuotingLemmas.{front_turn, letter_turn}
use Rattle.ad_printer.proofs.quoting.write_quoted.Goals as goal

pub loop-rest-preserved-then-rest-lt1 : goal.loop-rest-preserved-then-rest-lt1
loop-rest-preserved-then-rest-lt1 c =
    front_turn c.args.quote c.plain_len.result c.loop-rest.rest.now c.split_at.result.0.now c.split_at.result.1.now c.loop-rest.out.items c.add.new.out.items _
    c.split_at.ensures.front c.split_at.ensures.back c.plain_len.ensures.value c.in_ok-add.ensures c.loop-rest.invariant

pub loop-rest-preserved : goal.loop-rest-preserved
loop-rest-preserved c =
    letter_turn c.args.quote c.split_at.result.1.now c.add.new.out.items c.write_escape.new.out.items _ c.in-len1-up.len_at_least c.in_ok-write_escape.ensures
    (front_turn c.args.quote c.plain_len.result c.loop-rest.rest.now c.split_at.result.0.now c.split_at.result.1.now c.loop-rest.out.items c.add.new.out.items _
    c.split_at.ensures.front c.split_at.ensures.back c.plain_len.ensures.value c.in_ok-add.ensures c.loop-rest.invariant)
