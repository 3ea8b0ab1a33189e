use Rattle.builtin_funcs.proofs.LawLemmas.{int_reads_string}
use Rattle.builtin_funcs.proofs.laws.int_reads_what_string_writes.Goals as goal

pub returns : goal.returns
returns c = int_reads_string c.args.n c.args.moment c.ranges.n
