-- How much the searches of a cycle may count, where each job is searched for at most once.
use Rattle.std.specs.Prelude.{◌≡◌, ℕ, ◌+◌, ◌*◌, ◌≤◌, Bool, true, false, not, ◌&&◌, List, [], ◌∷◌, filter, length, slice_get}
use Rattle.std.specs.Prelude.{slice_index_or, sum_by, None, if◌then◌else◌}
use Rattle.std.specs.List.{range_with_len}
use Rattle.std.specs.Option.{option_map_or}
use Rattle.pool_steps.specs.declared.meter.Meter.{Meter}
use Rattle.ad_tree.specs.Ad.{ad_frames}
use Rattle.ad_tree.specs.Frames.{Frame}
use Rattle.ad_tree.specs.declared.request.Port.{Port}
use Rattle.ad_tree.specs.declared.request.Request.{Request}
use Rattle.ad_store.specs.Stock.{Advert, Stock}
use Rattle.ad_candidates.specs.Counts.{least_left}
use Rattle.dock_match.specs.Pool.{Pool}
use Rattle.bilateral_match.specs.Counts.{entered_for, open_count}
use Rattle.claim_table.specs.declared.job.Job.{Job}
use Rattle.claim_table.specs.Priorities.{Setting}
use Rattle.conjunct_plan.specs.Tests.{tests_of}
use Rattle.gang_ports.specs.Gangs.{attributes_open, docks_open, looks_most}
use Rattle.job_clusters.specs.declared.clusters.Clusters.{Clusters}
use Rattle.job_clusters.specs.Pools.{pool_for}
use Rattle.negotiator.specs.Markets.{found, is_idle}

-- ---- one search

-- how many docks of a request no test decides
abbrev pub open_by : Pool → List Frame → List Port → ℕ
open_by pool request [] = open_count pool request
open_by pool request (port ∷ ports) = docks_open pool request (port ∷ ports)

-- how many evaluations a search may take, and how many attributes may be entered in them
abbrev pub evaluations_by : Pool → List Frame → List Port → ℕ
evaluations_by pool request [] = 5 * open_count pool request
evaluations_by pool request (port ∷ ports) = 3 * docks_open pool request (port ∷ ports)

abbrev pub entries_by : Pool → List Frame → List Port → ℕ
entries_by pool request [] = entered_for pool request
entries_by pool request (port ∷ ports) = attributes_open pool request (port ∷ ports)

-- how many ads it may look at: nine times those that the narrowest test of a single request leaves, and once for each port of a gang
-- those that the narrowest test of the port leaves
abbrev pub looks_by : List Advert → List Frame → List Port → ℕ
looks_by ads request [] = 9 * least_left ads (tests_of request 0 [])
looks_by ads request (port ∷ ports) = looks_most ads request (port ∷ ports)

-- the same for a job among others
abbrev pub open_for : ℕ → Stock → List Setting → List Job → Request → ℕ
open_for moment stock settings jobs request = open_by (pool_for moment stock settings jobs) (ad_frames request.ad) request.ports

abbrev pub evaluations_for : ℕ → Stock → List Setting → List Job → Request → ℕ
evaluations_for moment stock settings jobs request = evaluations_by (pool_for moment stock settings jobs) (ad_frames request.ad) request.ports

abbrev pub entries_for : ℕ → Stock → List Setting → List Job → Request → ℕ
entries_for moment stock settings jobs request = entries_by (pool_for moment stock settings jobs) (ad_frames request.ad) request.ports

abbrev pub looks_for : Stock → List Job → Request → ℕ
looks_for stock jobs request = looks_by stock.ads (ad_frames request.ad) request.ports

-- ---- all searches

-- the sum over the idle jobs
abbrev pub over_idle : (List Job → Request → ℕ) → List Job → ℕ
over_idle price jobs = sum_by (λ job. price jobs job.request) (filter (λ job. is_idle job.standing) jobs)

-- ---- what is left to be counted, where jobs that found nothing are marked

abbrev pub is_idle_at : List Job → ℕ → Bool
is_idle_at jobs i = option_map_or (λ job. is_idle job.standing) (slice_get jobs i) false

abbrev pub is_marked : List Bool → ℕ → Bool
is_marked failed i = slice_index_or failed i false

-- each job that is marked finds nothing
abbrev pub AreFailing : ℕ → Stock → List Setting → List Job → List Bool → Type 0
AreFailing moment stock settings jobs failed = (i : ℕ) → is_marked failed i ≡ true → found moment stock settings jobs i ≡ None

abbrev pub price_at : (List Job → Request → ℕ) → List Job → ℕ → ℕ
price_at price jobs i = option_map_or (λ job. price jobs job.request) (slice_get jobs i) 0

-- a job may still be searched for where it is idle and has no mark
abbrev pub is_due : List Job → List Bool → ℕ → Bool
is_due jobs failed i = is_idle_at jobs i && not (is_marked failed i)

abbrev pub due : (List Job → Request → ℕ) → List Job → List Bool → ℕ → ℕ
due price jobs failed i = if is_due jobs failed i then price_at price jobs i else 0

abbrev pub budget : (List Job → Request → ℕ) → List Job → List Bool → ℕ
budget price jobs failed = sum_by (due price jobs failed) (range_with_len 0 (length jobs))

-- the three counts
pub record Counts : Type 0 where
  pub tops : ℕ
  pub entry : ℕ
  pub touch : ℕ

abbrev pub counts : ℕ → ℕ → ℕ → Counts
counts tops entry touch = record { tops = tops; entry = entry; touch = touch }

-- what a meter counted, where the looks that the clusters saved count as spent
abbrev pub counted_with : {F E T : Type 0} → Meter F E T → Clusters → Counts
counted_with meter clusters = counts meter.tops.now meter.entry.now (meter.touch.now + clusters.looks.saved)

-- the counts rose by no more than one search for the job at a place may count
pub record IsSearched (moment : ℕ) (stock : Stock) (settings : List Setting) (jobs : List Job) (i : ℕ) (before after : Counts) : Type 0 where
  pub tops : after.tops ≤ before.tops + price_at (evaluations_for moment stock settings) jobs i
  pub entry : after.entry ≤ before.entry + price_at (entries_for moment stock settings) jobs i
  pub touch : after.touch ≤ before.touch + price_at (looks_for stock) jobs i

-- a job that isn't due stays so, and as idle as it is
abbrev pub AreLeft : List Job → List Bool → List Job → List Bool → Type 0
AreLeft jobs failed later marked =
    (i : ℕ) → is_due jobs failed i ≡ false → (is_due later marked i ≡ false) × (is_idle_at later i ≡ is_idle_at jobs i)

-- the counts rose by no more than what was due and isn't due any more, and what wasn't due is left alone
pub record ArePaid (moment : ℕ) (stock : Stock) (settings : List Setting) (jobs later : List Job) (failed marked : List Bool) (before after : Counts) : Type
    0 where
  pub tops : after.tops + budget (evaluations_for moment stock settings) later marked
      ≤ before.tops + budget (evaluations_for moment stock settings) jobs failed
  pub entry : after.entry + budget (entries_for moment stock settings) later marked ≤ before.entry + budget (entries_for moment stock settings) jobs failed
  pub touch : after.touch + budget (looks_for stock) later marked ≤ before.touch + budget (looks_for stock) jobs failed
  pub others : AreLeft jobs failed later marked

-- the counts rose by no more than what was due
pub record AreWithin (moment : ℕ) (stock : Stock) (settings : List Setting) (jobs : List Job) (failed : List Bool) (before after : Counts) : Type 0 where
  pub tops : after.tops ≤ before.tops + budget (evaluations_for moment stock settings) jobs failed
  pub entry : after.entry ≤ before.entry + budget (entries_for moment stock settings) jobs failed
  pub touch : after.touch ≤ before.touch + budget (looks_for stock) jobs failed
