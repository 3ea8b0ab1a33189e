-- How many ads the tests of a request leave.
use Rattle.std.specs.Prelude.{ℕ, not, List, length, min, count_by, fold}
use Rattle.ad_store.specs.Stock.{Advert}
use Rattle.conjunct_plan.specs.declared.test.Test.{Test}
use Rattle.conjunct_plan.specs.Decided.{is_decided}

-- how many ads a test leaves: those whose root doesn't decide against it
abbrev pub left_by : List Advert → Test → ℕ
left_by ads test = count_by (λ advert. not (is_decided test advert.ad 0)) ads

-- the least number of ads that one of the tests leaves, or the most that is asked for where it is more
abbrev pub least_within : ℕ → List Advert → List Test → ℕ
least_within most ads tests = fold (λ least test. min least (left_by ads test)) most tests

-- the least number of ads that one of the tests leaves; all ads where there is no test
abbrev pub least_left : List Advert → List Test → ℕ
least_left ads tests = least_within (length ads) ads tests
