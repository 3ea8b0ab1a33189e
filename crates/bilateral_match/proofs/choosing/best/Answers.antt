use Rattle.ad_store.specs.Store.{stock_of}
use Rattle.bilateral_match.proofs.choosing.best.Goals as goal

pub best_knowing-requires-clause-known : goal.best_knowing-requires-clause-known
best_knowing-requires-clause-known g c = c.new-known.ensures c.args.moment (stock_of c.args.store.now).ads
