use Rattle.std.proofs.Common.{Some, ap, arith, sym, ◌∙◌}
use Rattle.ad_store.specs.Store.{stock_of}
use Rattle.claim_table.specs.Table.{jobs_of}
use Rattle.pool_replies.specs.declared.reply.Reply.TheVariants as reply
use Rattle.pool_books.specs.Books.{queue_of}
use Rattle.pool_commands.proofs.ExplainLemmas.{evaluations-single, explain-gang, explain-single, explain-unknown, no-ports, nobody, small-request}
use Rattle.pool_commands.proofs.explaining.explain.Goals as goal

pub returns-in_default-clause-reply : goal.returns-in_default-clause-reply
returns-in_default-clause-reply g c =
    let books = c.args.books.now in
    let stock = stock_of books.ads.store in
    explain-unknown c.args.moment stock.ads (queue_of books) c.args.job.now
    (nobody stock (jobs_of books.claims) c.args.job.now (sym c.in_default.ensures.number))

pub returns-then-len-gt0-clause-reply : goal.returns-then-len-gt0-clause-reply
returns-then-len-gt0-clause-reply g c =
    let books = c.args.books.now in
    explain-gang (stock_of books.ads.store) (jobs_of books.claims) books.owned c.args.job.now c.in-Some.i (sym c.in-Some.ensures.number)
    c.request-request.result.now c.request-request.ensures
    c.args.moment (omega (arith, c.len.ensures, c.if-len-gt0.true))

pub explain-requires : goal.explain-requires
explain-requires g c = no-ports c.request-request.result.now.ports c.len.result c.len.ensures (omega (arith, c.if-len-gt0.false))

pub returns-in_err-report-clause-cost : goal.returns-in_err-report-clause-cost
returns-in_err-report-clause-cost g c =
    let books = c.args.books.now in
    let request = c.request-request.result.now in
    let single = no-ports request.ports c.len.result c.len.ensures (omega (arith, c.if-len-gt0.false)) in
    omega (
      arith,
      c.explain.ensures.evaluations,
      evaluations-single (stock_of books.ads.store) (jobs_of
          books.claims) books.owned c.args.job.now c.in-Some.i (sym c.in-Some.ensures.number) request c.request-request.ensures single,
    )

pub returns-in_err-report-clause-ratio : goal.returns-in_err-report-clause-ratio
returns-in_err-report-clause-ratio g c =
    let books = c.args.books.now in
    c.explain.ensures.ratio
    (small-request (stock_of books.ads.store) (jobs_of books.claims) books.owned c.args.job.now c.in-Some.i (sym c.in-Some.ensures.number)
    c.request-request.result.now c.request-request.ensures books.small)
    books.ads.small

pub returns-clause-cost : goal.returns-clause-cost
returns-clause-cost g c =
    let books = c.args.books.now in
    let request = c.request-request.result.now in
    let single = no-ports request.ports c.len.result c.len.ensures (omega (arith, c.if-len-gt0.false)) in
    omega (
      arith,
      c.explain.ensures.evaluations,
      evaluations-single (stock_of books.ads.store) (jobs_of
          books.claims) books.owned c.args.job.now c.in-Some.i (sym c.in-Some.ensures.number) request c.request-request.ensures single,
    )

pub returns-clause-ratio : goal.returns-clause-ratio
returns-clause-ratio g c =
    let books = c.args.books.now in
    c.explain.ensures.ratio
    (small-request (stock_of books.ads.store) (jobs_of books.claims) books.owned c.args.job.now c.in-Some.i (sym c.in-Some.ensures.number)
    c.request-request.result.now c.request-request.ensures books.small)
    books.ads.small

pub returns-clause-reply : goal.returns-clause-reply
returns-clause-reply g c =
    let books = c.args.books.now in
    let stock = stock_of books.ads.store in
    let request = c.request-request.result.now in
    let single = no-ports request.ports c.len.result c.len.ensures (omega (arith, c.if-len-gt0.false)) in
    let named = c.job.ensures ∙ ap Some (sym c.in_ok-job.ensures.text) in
    explain-single stock (jobs_of books.claims) books.owned c.args.job.now c.in-Some.i (sym c.in-Some.ensures.number) request c.request-request.ensures
    c.args.moment c.in_ok-job.job single named
    ∙ (λ k. reply.Why c.in_ok-job.job ((sym c.in_ok-names.ensures) k) ((sym c.in_ok-report.ensures.report) k))
