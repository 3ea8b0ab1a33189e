use Rattle.std.proofs.Common.{◌≡◌, List, Contains, All, map, length, sym, subst, arith}
use Rattle.ad_store.specs.Store.{stock_of}
use Rattle.ad_tree.specs.Ad.{ad_frames}
use Rattle.bilateral_match.specs.Answers.{answers}
use Rattle.bilateral_match.specs.declared.hit.Hit.{Hit}
use Rattle.pool_books.proofs.AdLemmas.{stock-length}
use Rattle.pool_books.proofs.HitLemmas.{if_ok}
use Rattle.pool_commands.specs.Queries.{hit_row}
use Rattle.pool_commands.proofs.HitLemmas.{answers-within, hits-held}
use Rattle.pool_commands.proofs.queries.hit_rows.Goals as goal

pub rows_of-requires : goal.rows_of-requires
rows_of-requires g c =
    let stock = stock_of c.args.ads.now.store in
    let request = ad_frames c.args.request.now.ad in
    let found = answers c.args.moment request stock.ads in
    let within =
    answers-within c.args.moment request stock.ads found (length stock.slots) (c.answers_are_all_matches_in_order.ensures.are stock.ads)
    (omega (arith, stock-length c.args.ads.now.store)) in
    subst (λ (hits : List Hit). All (λ hit. Contains stock.slots hit.slot) hits) (sym c.in_ok-hits.ensures.hits) (hits-held stock.slots found within)

pub returns-clause-rows : goal.returns-clause-rows
returns-clause-rows g c =
    let stock = stock_of c.args.ads.now.store in
    let request = ad_frames c.args.request.now.ad in
    let found = answers c.args.moment request stock.ads in
    let within =
    answers-within c.args.moment request stock.ads found (length stock.slots) (c.answers_are_all_matches_in_order.ensures.are stock.ads)
    (omega (arith, stock-length c.args.ads.now.store)) in
    if_ok c.rows_of.result _ (λ rows. rows ≡ map (hit_row stock.ads) found) (λ rows is. is found (within, c.in_ok-hits.ensures.hits)) c.rows_of.ensures
