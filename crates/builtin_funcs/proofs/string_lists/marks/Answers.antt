use Rattle.std.proofs.Common.{refl}
use Rattle.builtin_funcs.proofs.ItemLemmas.{nothing_marked}
use Rattle.builtin_funcs.proofs.string_lists.marks.Goals as goal

pub loop-delimiter-init : goal.loop-delimiter-init
loop-delimiter-init c = (refl, λ byte. nothing_marked 256 byte _)
