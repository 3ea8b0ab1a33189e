-- How a resource is taken for a job from its holder.
use Rattle.std.specs.Prelude.{ℕ, ℤ, ◌*◌, Bool, false, true, int_lt, nat_le, Option, None, Some, if◌then◌else◌}
use Rattle.std.specs.Option.{option_map_or}
use Rattle.std.specs.Ordering.{int_cmp, match_ordering}
use Rattle.dock_match.specs.declared.preemption.Preemption.{Preemption}
use Rattle.dock_match.specs.Pool.{Hold, regard_in}

-- a resource that ranks a job so is taken from its holder: it ranks the holder strictly lower, or equal where the holder's user
-- has at least twice the number of the job's
abbrev pub is_taken : ℕ → ℤ → Hold → Bool
is_taken number regard hold = match_ordering (int_cmp (regard_in hold.world) regard) true (nat_le (2 * number) hold.number) false

-- it is yielded to the job: it is unclaimed, or it is taken from its holder
abbrev pub is_yielded : ℕ → ℤ → Option Hold → Bool
is_yielded number regard hold = option_map_or (is_taken number regard) hold true

-- whether a resource that is yielded to a job, which it ranks so, is taken from a holder, and why: by the resource's rank, or by the users' priorities
abbrev pub preemption_of : ℤ → Option Hold → Preemption
preemption_of regard None = Preemption.No
preemption_of regard (Some hold) = if int_lt (regard_in hold.world) regard then Preemption.ByRank else Preemption.ByPriority

-- how a resource is taken, where it is yielded to a job of a user with this number, which it ranks so
abbrev pub won_from : ℕ → ℤ → Option Hold → Option Preemption
won_from number regard hold = if is_yielded number regard hold then Some (preemption_of regard hold) else None

-- how it is taken from a holder to whom it gave a rank, and whose user has the number `held`
abbrev pub taken_by : ℤ → ℤ → ℕ → ℕ → Option Preemption
taken_by given regard held number =
    match_ordering (int_cmp given regard) (Some Preemption.ByRank) (if nat_le (2 * number) held then Some Preemption.ByPriority else None) None

-- a resource that is unclaimed comes first, then one that is taken by its rank, then one that is taken by priority
abbrev pub order_of : Preemption → ℕ
order_of Preemption.No = 0
order_of Preemption.ByRank = 1
order_of Preemption.ByPriority = 2
