use Rattle.std.proofs.Common.{arith, ◌+◌, ap, sym, ◌∙◌}
use Rattle.ad_grammar.specs.HeldMarks.{extends, extends_at, front_mark}
use Rattle.ad_grammar.specs.Words.{words}
use Rattle.ad_grammar.proofs.WordLemmas.{mark-at, none-behind, drop-next}
use Rattle.ad_grammar.proofs.reader.Reader.extends_behind_next.Goals as goal

pub returns-then-place-len : goal.returns-then-place-len
returns-then-place-len c =
    let tokens = c.args.self.now.tokens in
    let at = c.args.self.now.at in
    c.extends.ensures ∙ ap extends (mark-at tokens (at + 1) c.mark.result c.mark.ensures ∙ ap front_mark (drop-next (words tokens) at))

pub returns-else-place-len : goal.returns-else-place-len
returns-else-place-len c =
    let tokens = c.args.self.now.tokens in
    let at = c.args.self.now.at in
    ap extends_at (sym (none-behind tokens (at + 1) (omega (arith, c.if-place-len.false, c.len-len.ensures.value))) ∙ drop-next (words tokens) at)
