use Rattle.std.proofs.Common.{sym, ◌∙◌, arith}
use Rattle.ad_parser.specs.Outcomes.{ad_outcome}
use Rattle.ad_parser.proofs.Outcomes.{ad_outcome-has}
use Rattle.claim_table.specs.Settings.{settings_of}
use Rattle.pool_books.specs.Books.{queue_of}
use Rattle.pool_books.specs.Indexed.{ads_of}
use Rattle.pool_books.proofs.HitLemmas.{if_ok}
use Rattle.pool_commands.proofs.GangLemmas.{gang-bad, gang-faulty, gang-narrowest, gang-parsed, gang-undecided}
use Rattle.pool_commands.proofs.gangs.gang.Goals as goal

pub returns-in-Err-clause-reply : goal.returns-in-Err-clause-reply
returns-in-Err-clause-reply g c =
    if_ok c.faulty.result _ _ (λ reply told.
    let block = c.args.block.now in
    let books = c.args.books.now in
    gang-faulty c.args.moment (ads_of books.ads) (settings_of c.args.priorities.now) (queue_of books) (ad_outcome block) c.in-Err.fault
    (c.in-Err.ensures.outcome (ad_outcome block) (ad_outcome-has block)) told.1 ∙ sym told.0)
    c.faulty.ensures.reply

pub returns-in_default-clause-reply : goal.returns-in_default-clause-reply
returns-in_default-clause-reply g c =
    let block = c.args.block.now in
    let books = c.args.books.now in
    let ads = ads_of books.ads in
    let jobs = queue_of books in
    let fits = c.in-Ok.ensures.outcome (ad_outcome block) (ad_outcome-has block) in
    gang-bad c.args.moment ads (settings_of c.args.priorities.now) jobs (ad_outcome block) c.in-Ok.ad fits (sym c.in_ok-ports.ensures.ports ∙ c.in_default.is)

pub returns-clause-reply : goal.returns-clause-reply
returns-clause-reply g c =
    let block = c.args.block.now in
    let books = c.args.books.now in
    let ads = ads_of books.ads in
    let jobs = queue_of books in
    let fits = c.in-Ok.ensures.outcome (ad_outcome block) (ad_outcome-has block) in
    let listed = sym c.in_ok-ports.ensures.ports ∙ c.in-Some.is in
    gang-parsed c.args.moment ads (settings_of c.args.priorities.now) jobs (ad_outcome block) c.in-Ok.ad fits c.in-Some.ports listed c.in_ok-names.field-0
    c.line.result c.in_ok-names.ensures.names c.line.ensures.reply

pub returns-in_err-names-clause-cost : goal.returns-in_err-names-clause-cost
returns-in_err-names-clause-cost g c =
    let block = c.args.block.now in
    let books = c.args.books.now in
    let ads = ads_of books.ads in
    let jobs = queue_of books in
    let fits = c.in-Ok.ensures.outcome (ad_outcome block) (ad_outcome-has block) in
    let listed = sym c.in_ok-ports.ensures.ports ∙ c.in-Some.is in
    omega (
      arith,
      c.gang_names-names.ensures.cost,
      gang-undecided c.args.moment ads (settings_of c.args.priorities.now) jobs (ad_outcome
          block) c.in-Ok.ad fits c.in-Some.ports listed,
    )

pub returns-clause-cost : goal.returns-clause-cost
returns-clause-cost g c =
    let block = c.args.block.now in
    let books = c.args.books.now in
    let ads = ads_of books.ads in
    let jobs = queue_of books in
    let fits = c.in-Ok.ensures.outcome (ad_outcome block) (ad_outcome-has block) in
    let listed = sym c.in_ok-ports.ensures.ports ∙ c.in-Some.is in
    omega (
      arith,
      c.gang_names-names.ensures.cost,
      gang-undecided c.args.moment ads (settings_of c.args.priorities.now) jobs (ad_outcome
          block) c.in-Ok.ad fits c.in-Some.ports listed,
    )

pub returns-in_err-names-clause-looks : goal.returns-in_err-names-clause-looks
returns-in_err-names-clause-looks g c =
    let block = c.args.block.now in
    let books = c.args.books.now in
    let ads = ads_of books.ads in
    let jobs = queue_of books in
    let fits = c.in-Ok.ensures.outcome (ad_outcome block) (ad_outcome-has block) in
    let listed = sym c.in_ok-ports.ensures.ports ∙ c.in-Some.is in
    omega (
      arith,
      c.gang_names-names.ensures.looks,
      gang-narrowest c.args.moment ads (settings_of c.args.priorities.now) jobs (ad_outcome
          block) c.in-Ok.ad fits c.in-Some.ports listed,
    )

pub returns-clause-looks : goal.returns-clause-looks
returns-clause-looks g c =
    let block = c.args.block.now in
    let books = c.args.books.now in
    let ads = ads_of books.ads in
    let jobs = queue_of books in
    let fits = c.in-Ok.ensures.outcome (ad_outcome block) (ad_outcome-has block) in
    let listed = sym c.in_ok-ports.ensures.ports ∙ c.in-Some.is in
    omega (
      arith,
      c.gang_names-names.ensures.looks,
      gang-narrowest c.args.moment ads (settings_of c.args.priorities.now) jobs (ad_outcome
          block) c.in-Ok.ad fits c.in-Some.ports listed,
    )
