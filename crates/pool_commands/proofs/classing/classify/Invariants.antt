use Rattle.std.proofs.Common.{◌≡◌}
use Rattle.ad_store.specs.Store.{stock_of}
use Rattle.claim_table.specs.Table.{jobs_of}
use Rattle.pool_commands.specs.Classing.{class_names}
use Rattle.pool_commands.specs.Keyed.{class_keys}
use Rattle.pool_commands.proofs.ClassLemmas.{classes_of_first}
use Rattle.pool_commands.proofs.classing.classify.Given as goal

-- the keys and the names are those of the classes of the jobs so far
abbrev pub invariant-loop-i : goal.invariant-loop-i
invariant-loop-i g l =
    let stock = stock_of l.books.ads.store in
    let first = classes_of_first stock.ads stock (jobs_of l.books.claims) l.i in
    record {
      keys : l.classes ≡ class_keys first;
      names : l.lists ≡ class_names first;
    }
