use Rattle.std.proofs.Common.{ap, ◌∙◌, take_all, arith}
use Rattle.classad_pool.proofs.NameLemmas.{mail_names, names-next, rows-named}
use Rattle.classad_pool.proofs.run_words.Goals as goal

pub loop-k-preserved : goal.loop-k-preserved
loop-k-preserved c =
    names-next _ c.in_ok-asked.asked.items c.loop-k.k c.index-in-loop-k.result.now c.bytes.result.now c.loop-k.desk.entries.items c.add.new.self.entries.items _
    (omega (arith, c.loop-k-test.true, c.len-k-end.ensures)) c.index-in-loop-k.ensures c.bytes.ensures c.loop-k.invariant c.in-Ok.ensures.ok

pub run_over-requires : goal.run_over-requires
run_over-requires c = record {
  listening = rows-named _ c.loop-k.desk.entries.items ∙ c.loop-k.invariant
      ∙ ap mail_names (take_all c.loop-k.k c.in_ok-asked.asked.items (omega (arith, c.loop-k-test.false, c.len-k-end.ensures)) ∙ c.in_ok-asked.ensures);
}
