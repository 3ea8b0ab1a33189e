-- The resources of a store as jobs hold them.
use Rattle.std.specs.Prelude.{ℕ, Bool, ◌&&◌, List, count_by, is_none, is_some}
use Rattle.ad_store.specs.Stock.{Stock}
use Rattle.dock_match.specs.Pool.{Pool, pool_of}
use Rattle.claim_table.specs.declared.job.Job.{Job}
use Rattle.claim_table.specs.Holders.{holder_of}
use Rattle.claim_table.specs.Jobs.{claimed_by, offered_to}
use Rattle.claim_table.specs.Priorities.{Setting}

-- the resources as the jobs hold them
abbrev pub pool_for : ℕ → Stock → List Setting → List Job → Pool
pool_for moment stock settings jobs = pool_of moment stock (λ slot. is_some (offered_to slot jobs)) (holder_of settings jobs)

-- a resource is free that is neither offered nor claimed
abbrev pub is_free : List Job → ℕ → Bool
is_free jobs slot = is_none (offered_to slot jobs) && is_none (claimed_by slot jobs)

-- how many resources are free
abbrev pub free_among : Stock → List Job → ℕ
free_among stock jobs = count_by (is_free jobs) stock.slots
