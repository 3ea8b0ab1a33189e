use Rattle.std.proofs.Common.{◌≡◌, map, take}
use Rattle.notice_desk.specs.Sight.{entry_names}
use Rattle.classad_pool.proofs.run_words.Given as goal

abbrev pub invariant-loop-k : goal.invariant-loop-k
invariant-loop-k l = entry_names l.desk.entries.items ≡ map (λ mail. mail.name) (take l.k l.asked.items)
