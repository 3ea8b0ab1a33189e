-- What a command makes of the state, and the reply to it.
use Rattle.std.specs.Prelude.{ℕ, ◌-◌, ◌*◌, length, nat_lt, if◌then◌else◌}
use Rattle.ad_parser.specs.Outcomes.{ad_outcome, expr_outcome}
use Rattle.pool_script.specs.declared.command.Command.{Command}
use Rattle.pool_replies.specs.declared.reply.Reply.{Reply}
use Rattle.pool_script.specs.declared.command.Command.TheVariants as command
use Rattle.pool_replies.specs.declared.refusal.Refusal.TheVariants as why
use Rattle.pool_replies.specs.declared.reply.Reply.TheVariants as reply
use Rattle.pool_books.specs.Claiming.{claim, offered_for_claim, release, undecided_for_claim}
use Rattle.pool_books.specs.Expiry.{has_expired, live_ads}
use Rattle.pool_books.specs.Negotiation.{looks_for_jobs, negotiate, undecided_for_jobs}
use Rattle.pool_books.specs.Queue.{without_resources}
use Rattle.pool_books.specs.State.{State, refused}
use Rattle.pool_commands.specs.Ads.{advertise, list, show, withdraw}
use Rattle.pool_commands.specs.Classing.{classify}
use Rattle.pool_commands.specs.Explaining.{explain, explained_evaluations}
use Rattle.pool_commands.specs.Expressions.{eval, eval_in}
use Rattle.pool_commands.specs.Gangs.{gang, narrowest_for_gang, undecided_for_gang}
use Rattle.pool_commands.specs.Jobs.{remove, set_priority, submit}
use Rattle.pool_commands.specs.Queries.{narrowest, query, undecided_docks}
use Rattle.pool_commands.specs.Status.{jobs, show_job, users}

-- `clock N`: the clock doesn't go back, and the ads that are no longer live leave
abbrev pub clock : State → ℕ → State × Reply
clock s n =
    if nat_lt n s.moment then refused s why.ClockBack
    else (
      record s { moment = n; ads = live_ads n s.ads; jobs = without_resources (has_expired n s.ads) s.jobs },
      reply.Clock n (length s.ads - length (live_ads n s.ads)),
    )

-- ---- one step

-- the state behind a command, and the reply to it; nobody listens to a pool that stands alone
unfoldable pub step : State → Command → State × Reply
step s (command.Clock n) = clock s n
step s (command.Advertise name lifetime block) = advertise s name lifetime (length block) (ad_outcome block)
step s (command.Withdraw name) = withdraw s name
step s (command.Show name) = (s, show name s.ads)
step s command.List = (s, list s.jobs s.ads)
step s (command.Eval expr) = (s, eval s.moment (expr_outcome expr))
step s (command.EvalIn name expr) = (s, eval_in s.moment s.ads name (expr_outcome expr))
step s (command.Query block) = (s, query s.moment s.ads (ad_outcome block))
step s (command.Submit job user block) = submit s job user (length block) (ad_outcome block)
step s (command.Remove job) = remove s job
step s (command.Priority user n) = set_priority s user n
step s (command.Gang block) = (s, gang s.moment s.ads s.priorities s.jobs (ad_outcome block))
step s command.Negotiate = negotiate s
step s (command.Claim job) = claim s job
step s (command.Release job) = release s job
step s command.Jobs = (s, jobs s.jobs)
step s (command.Job job) = (s, show_job job s.jobs)
step s command.Users = (s, users s.priorities s.jobs)
step s (command.Why job) = (s, explain s.moment s.ads s.jobs job)
step s command.Classes = (s, classify s.ads s.jobs)
step s (command.Unlisten name) = refused s why.UnknownName
step s (command.Bad number) = refused s (why.Line number)

-- how many docks a command meets in a state that literal attributes leave undecided
unfoldable pub undecided : State → Command → ℕ
undecided s (command.Query block) = undecided_docks s.ads (ad_outcome block)
undecided s (command.Gang block) = undecided_for_gang s.moment s.ads s.priorities s.jobs (ad_outcome block)
undecided s command.Negotiate = undecided_for_jobs s
undecided s (command.Claim job) = undecided_for_claim s job
undecided s other = 0

-- how many whole evaluations a command may make in a state
unfoldable pub allowance : State → Command → ℕ
allowance s (command.Eval expr) = 1
allowance s (command.EvalIn name expr) = 1
allowance s (command.Why job) = explained_evaluations s.ads s.jobs job
allowance s (command.Gang block) = 3 * undecided s (command.Gang block)
allowance s other = 5 * undecided s other

-- how many ads of the store a command may look into in a state
unfoldable pub looks : State → Command → ℕ
looks s (command.Clock n) = length s.ads - length (live_ads n s.ads)
looks s (command.Advertise name lifetime block) = 2
looks s (command.Withdraw name) = 1
looks s (command.Show name) = 1
looks s (command.EvalIn name expr) = 1
looks s (command.Why job) = length s.ads
looks s command.Classes = length s.ads
looks s (command.Query block) = narrowest s.ads (ad_outcome block)
looks s (command.Gang block) = narrowest_for_gang s.ads (ad_outcome block)
looks s command.Negotiate = looks_for_jobs s
looks s (command.Claim job) = 9 * offered_for_claim s job
looks s other = 0
