use Rattle.std.proofs.Common.{◌≡◌, ◌++◌, OnOk, rules, refl}
use Rattle.pool_script.specs.Commands.{cut_off}
use Rattle.pool_script.proofs.ReaderLemmas.{ended_sound}
use Rattle.pool_script.proofs.reader.Reader.end_block.Goals as goal

pub returns-clause-sound : goal.returns-clause-sound
unfolding cut_off
returns-clause-sound c =
    let waiting : OnOk c.push_command-refused.result (c.push_command-refused.new.waiting.items
    ≡ c.args.self.now.waiting.items ++ cut_off c.args.self.now.block) = search rules in
    ended_sound c.push_command-refused.result c.args.self.now _ c.requires waiting c.push_command-refused.ensures.err c.take.ensures.after refl
