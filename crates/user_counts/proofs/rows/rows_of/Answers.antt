use Rattle.user_counts.proofs.rows.rows_of.Goals as goal

pub returns-clause-found : goal.returns-clause-found
returns-clause-found c = c.into_iter-key-iterator.ensures.into_iter_gives.6
