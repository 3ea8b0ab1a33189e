use Rattle.std.proofs.Common.{◌∙◌, ap, take}
use Rattle.std.proofs.lemmas.List.{take-take}
use Rattle.pool_text.proofs.short_text.ShortText.from_front.Goals as goal

pub returns : goal.returns
returns c = ap (take c.args.len) c.copy_from_slice.ensures.after ∙ take-take c.args.len 22 c.args.bytes.now c.requires.few
