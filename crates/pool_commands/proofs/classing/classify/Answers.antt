use Rattle.std.proofs.Common.{◌∙◌, Some, ap, arith, sym}
use Rattle.ad_store.specs.Store.{stock_of}
use Rattle.claim_table.specs.Table.{jobs_of}
use Rattle.pool_replies.specs.declared.reply.Reply.TheVariants as reply
use Rattle.pool_commands.specs.Classing.{class_names}
use Rattle.pool_commands.proofs.ClassLemmas.{class_keys-next, class_names-next, classes-of_all}
use Rattle.pool_commands.proofs.classing.classify.Goals as goal

pub loop-i-preserved : goal.loop-i-preserved
loop-i-preserved g c =
    let books = c.args.books.now in
    let stock = stock_of books.ads.store in
    let jobs = jobs_of books.claims in
    let request = c.request.result.now in
    let name = c.in_ok-copy.field-0 in
    let named = c.job.ensures ∙ ap Some (sym c.in_ok-copy.ensures.text) in
    record {
      keys = class_keys-next stock.ads stock jobs books.owned c.loop-i.i request c.request.ensures name named c.loop-i.classes c.class_of.new.classes
          c.loop-i.invariant.keys (c.in_ok-number.ensures.classes stock.ads c.in_ok-reach.ensures.names);
      names =
          class_names-next stock.ads stock jobs books.owned c.loop-i.i request c.request.ensures name named c.loop-i.classes c.in_ok-number.number
          c.loop-i.lists c.add.new.self c.loop-i.invariant.keys c.loop-i.invariant.names
          (c.in_ok-number.ensures.number stock.ads c.in_ok-reach.ensures.names) c.in_ok-add.ensures;
    }

pub returns-clause-reply : goal.returns-clause-reply
returns-clause-reply g c =
    let books = c.args.books.now in
    let stock = stock_of books.ads.store in
    sym (ap reply.Classes (c.loop-i.invariant.names ∙ ap class_names (classes-of_all stock.ads stock (jobs_of books.claims) c.loop-i.i
    (omega (arith, c.loop-i-test.false, c.len-i-end.ensures.len)))))
