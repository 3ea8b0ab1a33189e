use Rattle.std.proofs.Common.{◌≡◌, ◌++◌, OnOk, Some, slice_get, subst, sym}
use Rattle.std.proofs.lemmas.Result.{on_ok_weaker}
use Rattle.claim_table.specs.Answers.{freed_at}
use Rattle.claim_table.specs.Table.{jobs_of}
use Rattle.claim_table.proofs.ClaimLemmas.{told-one}
use Rattle.claim_table.proofs.table.ClaimTable.tell.Goals as goal

pub returns : goal.returns
returns c =
    let jobs = jobs_of c.args.self.now in
    let i = c.in-Some.i in
    let job = c.at.result.now in
    let at : slice_get jobs i ≡ Some job = c.at.ensures in
    subst (λ o. OnOk c.push.result (c.push.new.self ≡ c.args.freed.now ++ freed_at o jobs)) (sym c.in-Some.is)
    (on_ok_weaker c.push.result (told-one jobs i job at c.in_ok-freed_of.field-0 c.args.freed.now c.push.new.self c.in_ok-freed_of.ensures) c.push.ensures.ok)
