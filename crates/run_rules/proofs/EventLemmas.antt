-- Commands one after the other.
use Rattle.std.proofs.Common.{◌≡◌, ℕ, ◌+◌, ◌≤◌, List, [], ◌∷◌, ◌++◌, sum_by, refl, ◌∙◌, ap, inl, inr, arith, subst, sym}
use Rattle.std.specs.List.{AllZip}
use Rattle.std.proofs.lemmas.Bool.{cases_Bool}
use Rattle.std.proofs.lemmas.Grind.{flat_map-append}
use Rattle.std.proofs.lemmas.List.Sums.{sum_by-append}
use Rattle.pool_script.specs.declared.command.Command.{Command}
use Rattle.pool_replies.specs.declared.reply.Reply.{Reply}
use Rattle.pool_replies.specs.Replies.{is_refused, refusal_count}
use Rattle.run_rules.specs.Events.{Event, Posted, allowed_of, event_of, events_of, looks_of, posts_of_event, posts_of_events, refusals_of}
use Rattle.notice_desk.specs.Desk.{Row}
use Rattle.pool_state.specs.Heard.{Heard, kept, step_heard}
use Rattle.pool_state.specs.Posting.{Post, RowAfter}
use Rattle.pool_state.specs.Step.{allowance, looks}
use Rattle.script_run.specs.Rules.{after}
use Rattle.run_rules.specs.PoolRules.{pool_rules}
use Rattle.pool_state.proofs.HeardLemmas.{kept-append, kept-zip}
use Rattle.pool_state.proofs.PostingLemmas.{rows_both, rows_none}

pub events_of-append : (s : Heard) (a b : List Command) → events_of s (a ++ b) ≡ events_of s a ++ events_of (after pool_rules s a) b
events_of-append s [] b = refl
events_of-append s (c ∷ a) b = ap (λ (events : List Event). event_of s c ∷ events) (events_of-append (step_heard s c).0 a b)

pub refusals_of-append : (a b : List Event) → refusals_of (a ++ b) ≡ refusals_of a + refusals_of b
refusals_of-append [] b = omega arith
refusals_of-append (x ∷ a) b = let more = refusals_of-append a b in omega arith

-- a reply is one refusal at most
pub refusal_count-le : (reply : Reply) → refusal_count reply ≤ 1
refusal_count-le reply =
    elim (cases_Bool (is_refused reply)) [
      | inl is ↦ rw is (omega arith)
      | inr is ↦ rw is (omega arith)
    ]

-- what the commands may count by any measure of events
pub sum-append : (f : Event → ℕ) (s : Heard) (a b : List Command)
    → sum_by f (events_of s (a ++ b)) ≡ sum_by f (events_of s a) + sum_by f (events_of (after pool_rules s a) b)
sum-append f s a b = ap (sum_by f) (events_of-append s a b) ∙ sum_by-append f (events_of s a) (events_of (after pool_rules s a) b)

pub allowed-append : (s : Heard) (a b : List Command)
    → allowed_of (events_of s (a ++ b)) ≡ allowed_of (events_of s a) + allowed_of (events_of (after pool_rules s a) b)
allowed-append = sum-append (λ event. allowance event.before.pool event.command)

pub looks-append : (s : Heard) (a b : List Command) → looks_of (events_of s (a ++ b)) ≡ looks_of (events_of s a) + looks_of (events_of (after pool_rules s a) b)
looks-append = sum-append (λ event. looks event.before.pool event.command)

-- ---- posts

pub Posted-none : (s : Heard) (rows : List Row) → Posted s [] rows rows
Posted-none s rows = rows_none rows

pub posts-append : (s : Heard) (a b : List Command)
    → posts_of_events (events_of s (a ++ b)) ≡ posts_of_events (events_of s a) ++ posts_of_events (events_of (after pool_rules s a) b)
posts-append s a b = ap posts_of_events (events_of-append s a b) ∙ flat_map-append posts_of_event (events_of s a) (events_of (after pool_rules s a) b)

-- the posts of commands and then of more
pub Posted-append : (s : Heard) (a b : List Command) (x y z : List Row) → Posted s a x y → Posted (after pool_rules s a) b y z → Posted s (a ++ b) x z
Posted-append s a b x y z first second =
    let pa : List Post = posts_of_events (events_of s a) in
    let pb : List Post = posts_of_events (events_of (after pool_rules s a) b) in
    let both : AllZip (RowAfter (pa ++ pb)) (kept b (kept a x)) z =
    rows_both pa pb (kept b (kept a x)) (kept b y) z (kept-zip pa b (kept a x) y first) second in
    subst (λ (l : List Post). AllZip (RowAfter l) (kept (a ++ b) x) z) (sym (posts-append s a b))
    (subst (λ (rows : List Row). AllZip (RowAfter (pa ++ pb)) rows z) (sym (kept-append a b x)) both)
