use Rattle.std.proofs.Common.{sym, ◌∙◌, arith}
use Rattle.ad_parser.specs.Outcomes.{ad_outcome}
use Rattle.ad_parser.proofs.Outcomes.{ad_outcome-has}
use Rattle.pool_books.specs.Indexed.{ads_of}
use Rattle.pool_books.proofs.HitLemmas.{if_ok}
use Rattle.pool_commands.proofs.StepLemmas.{narrowest-parsed, query-faulty, query-parsed, undecided-parsed}
use Rattle.pool_commands.proofs.queries.query.Goals as goal

pub returns-in-Err-clause-reply : goal.returns-in-Err-clause-reply
returns-in-Err-clause-reply g c =
    if_ok c.faulty.result _ _ (λ reply told.
    let block = c.args.block.now in
    query-faulty c.args.moment (ads_of c.args.ads.now) (ad_outcome block) c.in-Err.fault (c.in-Err.ensures.outcome (ad_outcome block) (ad_outcome-has block))
    told.1 ∙ sym told.0)
    c.faulty.ensures.reply

pub returns-clause-reply : goal.returns-clause-reply
returns-clause-reply g c =
    let ads = ads_of c.args.ads.now in
    let block = c.args.block.now in
    query-parsed c.args.moment ads (ad_outcome block) c.in-Ok.ad c.in_ok-rows.field-0 (c.in-Ok.ensures.outcome (ad_outcome block) (ad_outcome-has block))
    c.in_ok-rows.ensures.rows

pub returns-clause-cost : goal.returns-clause-cost
returns-clause-cost g c =
    let ads = ads_of c.args.ads.now in
    let block = c.args.block.now in
    omega (
      arith,
      c.hit_rows-rows.ensures.cost,
      undecided-parsed ads (ad_outcome block) c.in-Ok.ad (c.in-Ok.ensures.outcome (ad_outcome block)
          (ad_outcome-has block)),
    )

pub returns-clause-looks : goal.returns-clause-looks
returns-clause-looks g c =
    let ads = ads_of c.args.ads.now in
    let block = c.args.block.now in
    omega (
      arith,
      c.hit_rows-rows.ensures.looks,
      narrowest-parsed ads (ad_outcome block) c.in-Ok.ad (c.in-Ok.ensures.outcome (ad_outcome block)
          (ad_outcome-has block)),
    )

pub returns-in_err-rows-clause-cost : goal.returns-in_err-rows-clause-cost
returns-in_err-rows-clause-cost g c =
    let ads = ads_of c.args.ads.now in
    let block = c.args.block.now in
    omega (
      arith,
      c.hit_rows-rows.ensures.cost,
      undecided-parsed ads (ad_outcome block) c.in-Ok.ad (c.in-Ok.ensures.outcome (ad_outcome block)
          (ad_outcome-has block)),
    )

pub returns-in_err-rows-clause-looks : goal.returns-in_err-rows-clause-looks
returns-in_err-rows-clause-looks g c =
    let ads = ads_of c.args.ads.now in
    let block = c.args.block.now in
    omega (
      arith,
      c.hit_rows-rows.ensures.looks,
      narrowest-parsed ads (ad_outcome block) c.in-Ok.ad (c.in-Ok.ensures.outcome (ad_outcome block)
          (ad_outcome-has block)),
    )
