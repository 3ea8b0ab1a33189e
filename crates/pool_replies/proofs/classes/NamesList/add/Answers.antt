use Rattle.std.proofs.Common.{◌∙◌, ◌<◌, ap, arith, length}
use Rattle.std.proofs.lemmas.Result.{on_ok_weaker}
use Rattle.pool_replies.specs.Classes.{with_member}
use Rattle.pool_replies.proofs.ClassLemmas.{member-behind, member-within}
use Rattle.pool_replies.proofs.classes.NamesList.add.Goals as goal

pub returns-then-i-len : goal.returns-then-i-len
returns-then-i-len c =
    let lists = c.self.inside.lists.items in
    let within : c.args.i < length lists = omega (arith, c.if-i-len.true) in
    on_ok_weaker c.push.result
    (λ grown. member-within lists c.args.i c.args.name c.index_mut.result.now c.push.new.self within c.index_mut.ensures.value grown
    ∙ ap (with_member c.args.i c.args.name) c.self.view_is) c.push.ensures.ok

pub returns-else-i-len : goal.returns-else-i-len
returns-else-i-len c =
    on_ok_weaker c.begin.result
    (λ is. is ∙ member-behind c.args.self.now c.args.i c.args.name (omega (arith, c.if-i-len.false, ap (λ l. length l) c.self.view_is))) c.begin.ensures
