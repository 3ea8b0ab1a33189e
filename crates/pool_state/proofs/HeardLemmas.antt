-- Names that listen, and the rows of a desk that commands leave on it.
use Rattle.std.proofs.Common.{◌≡◌, ◌≢◌, ◌↔◌, ℕ, Bool, true, false, not, ◌||◌, cond, List, [], ◌∷◌, ◌++◌, filter, Option, None, Some, is_some, IsSome, IsTrue}
use Rattle.std.proofs.Common.{IfOk, OnOk, Result, Ok, Err, bytes_eq, refl, true≢false, sym, ◌∙◌, ap, subst}
use Rattle.std.specs.List.{AllZip}
use Rattle.notice_desk.specs.Desk.{Row, failures_under, leaves_with, names_of, without}
use Rattle.pool_script.specs.declared.command.Command.{Command}
use Rattle.pool_replies.specs.declared.reply.Reply.{Reply}
use Rattle.pool_text.specs.declared.memory.OutOfMemory.{OutOfMemory}
use Rattle.pool_script.specs.declared.command.Command.TheVariants as command
use Rattle.pool_replies.specs.declared.refusal.Refusal.TheVariants as why
use Rattle.pool_replies.specs.declared.reply.Reply.TheVariants as reply
use Rattle.pool_books.specs.State.{State}
use Rattle.pool_state.specs.Heard.{Heard, heard, is_unlisten, kept, kept_by, listens, off_by, others, step_heard, step_pool, unlisten}
use Rattle.pool_state.specs.Notices.{granted, notices, stale, told}
use Rattle.pool_state.specs.Posting.{ArePosted, DeskState, Post, RowAfter, desk_of, posts_of_all}
use Rattle.pool_state.specs.Step.{step}
use Rattle.pool_state.specs.declared.posting.Notice.{Notice}
use Rattle.pool_state.proofs.PostingLemmas.{rows_none}

-- ---- names

-- a name listens exactly where failures are kept for it
pub listens-known : (name : List ℕ) (rows : List Row) → listens name (names_of rows) ≡ is_some (failures_under name rows)
listens-known name [] = refl
listens-known name (row ∷ rows) = by (bytes_eq row.name name) (listens-known name rows)
  where
    by : (b : Bool) → listens name (names_of rows) ≡ is_some (failures_under name rows)
        → (b || listens name (names_of rows)) ≡ is_some (cond b (Some row.failures) (failures_under name rows))
    by true rest = refl
    by false rest = rest

-- the names of the rows without one
pub names-without : (name : List ℕ) (rows : List Row) → names_of (without name rows) ≡ others name (names_of rows)
names-without name [] = refl
names-without name (row ∷ rows) = by (bytes_eq row.name name) (names-without name rows)
  where
    by : (b : Bool) → names_of (without name rows) ≡ others name (names_of rows)
        → names_of (cond (not b) (row ∷ without name rows) (without name rows))
        ≡ cond (not b) (row.name ∷ others name (names_of rows)) (others name (names_of rows))
    by true rest = rest
    by false rest = ap (λ (names : List (List ℕ)). row.name ∷ names) rest

-- a name that doesn't listen isn't taken out
pub others-none : (name : List ℕ) (names : List (List ℕ)) → listens name names ≡ false → others name names ≡ names
others-none name [] none = refl
others-none name (other ∷ names) none = by (bytes_eq other name) none (λ later. others-none name names later)
  where
    by : (b : Bool) → (b || listens name names) ≡ false → (listens name names ≡ false → others name names ≡ names)
        → cond (not b) (other ∷ others name names) (others name names) ≡ other ∷ names
    by true is later = absurd (cc)
    by false is later = ap (λ (l : List (List ℕ)). other ∷ l) (later is)

-- posts leave the names
pub names-after : (posts : List Post) (xs ys : List Row) → AllZip (RowAfter posts) xs ys → names_of ys ≡ names_of xs
names-after posts [] [] all = refl
names-after posts [] (y ∷ ys) all = absurd all
names-after posts (x ∷ xs) [] all = absurd all
names-after posts (x ∷ xs) (y ∷ ys) all = (λ i. all.0.name i ∷ names-after posts xs ys all.1 i)

-- ---- `unlisten`

pub unlisten-known : (pool : State) (name named : List ℕ) (old new : List Row) → named ≡ name → is_some (failures_under name old) ≡ true
    → new ≡ without name old → ◌≡◌ {A = Heard × Reply} (unlisten (heard pool old) name) (heard pool new, reply.Unlistened named)
unlisten-known pool name named old new is known left =
    ap (λ b. let p : Heard × Reply =
    cond b (record { pool = pool; listeners = others name (names_of old) }, reply.Unlistened name) (heard pool old, reply.Refused why.UnknownName) in p)
    (listens-known name old ∙ known)
    ∙ (λ i. (record { pool = pool; listeners = (sym (ap names_of left ∙ names-without name old)) i }, reply.Unlistened ((sym is) i)))

pub unlisten-unknown : (pool : State) (name : List ℕ) (old new : List Row) → is_some (failures_under name old) ≡ false → new ≡ without name old
    → ◌≡◌ {A = Heard × Reply} (unlisten (heard pool old) name) (heard pool new, reply.Refused why.UnknownName)
unlisten-unknown pool name old new unknown left =
    let none : listens name (names_of old) ≡ false = listens-known name old ∙ unknown in
    ap (λ b. let p : Heard × Reply =
    cond b (record { pool = pool; listeners = others name (names_of old) }, reply.Unlistened name) (heard pool old, reply.Refused why.UnknownName) in p)
    none
    ∙ (λ i. (
      record { pool = pool; listeners = (sym (ap names_of left ∙ names-without name old ∙ others-none name (names_of old) none)) i },
      reply.Refused why.UnknownName,
    ))

pub unknown-is : (o : Option ℕ) → (IsTrue false ↔ IsSome o) → is_some o ≡ false
unknown-is None iff = refl
unknown-is (Some n) iff = absurd (true≢false (sym (iff.1 refl)))

pub step-unlisten : (s : State) (name : List ℕ) (c : Command) (old new : List Row) (result : Result Reply OutOfMemory) → c ≡ command.Unlisten name
    → IfOk result (λ r. (pool : State) → ◌≡◌ {A = Heard × Reply} (unlisten (heard pool old) name) (heard pool new, r))
    → IfOk result (λ r. ◌≡◌ {A = Heard × Reply} (step_heard (heard s old) c) (heard s new, r))
unfolding step_heard
step-unlisten s name c old new (Ok r) is taken = ap (step_heard (heard s old)) is ∙ taken s
step-unlisten s name c old new (Err fault) is taken = tt

-- `unlisten` tells nothing
pub notices-unlisten : (s : State) (name : List ℕ) (c : Command) → c ≡ command.Unlisten name → notices s c ≡ []
unfolding notices step
notices-unlisten s name c is = ap (notices s) is

pub rows-unlisten : (s : State) (name : List ℕ) (c : Command) (old new : List Row) (result : Result Reply OutOfMemory) → c ≡ command.Unlisten name
    → OnOk result (new ≡ without name old)
    → OnOk result (AllZip (RowAfter (posts_of_all (notices s c))) (kept_by c old) new)
unfolding kept_by
rows-unlisten s name c old new (Ok r) is taken =
    rw (notices-unlisten s name c is, is, taken) (rows_none (without name old))
rows-unlisten s name c old new (Err fault) is taken = tt

pub told-unlisten : (s : State) (name : List ℕ) (c : Command) (old new : DeskState) (result : Result Reply OutOfMemory) → c ≡ command.Unlisten name
    → OnOk result (new.rows ≡ without name old.rows) → OnOk result (new.left ≡ old.left ++ filter (leaves_with name) old.rows)
    → OnOk result (ArePosted (posts_of_all (notices s c)) (off_by c old) new)
unfolding off_by
told-unlisten s name c old new (Ok r) is rows left = rw (notices-unlisten s name c is, is) (λ i. desk_of (rows i) (left i))
told-unlisten s name c old new (Err fault) is rows left = tt

-- ---- the notices of a step that was answered so

pub notices-by : (s t : State) (c : Command) (r : Reply) (gave lost : List Notice) → ◌≡◌ {A = State × Reply} (step s c) (t, r) → gave ≡ granted s.ads s.jobs c
    → lost ≡ stale s.jobs c → told r gave lost ≡ notices s c
unfolding notices
notices-by s t c r gave lost is first second = (λ i. told ((sym is) i).1 (first i) (second i))

-- ---- other commands

pub heard-other : (h : Heard) (c : Command) → is_unlisten c ≡ false → step_heard h c ≡ step_pool h c
unfolding step_heard
heard-other h (command.Clock n) other = refl
heard-other h (command.Advertise name lifetime block) other = refl
heard-other h (command.Withdraw name) other = refl
heard-other h (command.Show name) other = refl
heard-other h command.List other = refl
heard-other h (command.Eval text) other = refl
heard-other h (command.EvalIn name text) other = refl
heard-other h (command.Query block) other = refl
heard-other h (command.Submit job user block) other = refl
heard-other h (command.Remove job) other = refl
heard-other h (command.Priority user n) other = refl
heard-other h (command.Gang block) other = refl
heard-other h command.Negotiate other = refl
heard-other h (command.Claim job) other = refl
heard-other h (command.Release job) other = refl
heard-other h command.Jobs other = refl
heard-other h (command.Job job) other = refl
heard-other h command.Users other = refl
heard-other h (command.Why job) other = refl
heard-other h command.Classes other = refl
heard-other h (command.Unlisten name) other = absurd (cc)
heard-other h (command.Bad number) other = refl

pub kept-other : (c : Command) (rows : List Row) → is_unlisten c ≡ false → kept_by c rows ≡ rows
unfolding kept_by
kept-other (command.Clock n) rows other = refl
kept-other (command.Advertise name lifetime block) rows other = refl
kept-other (command.Withdraw name) rows other = refl
kept-other (command.Show name) rows other = refl
kept-other command.List rows other = refl
kept-other (command.Eval text) rows other = refl
kept-other (command.EvalIn name text) rows other = refl
kept-other (command.Query block) rows other = refl
kept-other (command.Submit job user block) rows other = refl
kept-other (command.Remove job) rows other = refl
kept-other (command.Priority user n) rows other = refl
kept-other (command.Gang block) rows other = refl
kept-other command.Negotiate rows other = refl
kept-other (command.Claim job) rows other = refl
kept-other (command.Release job) rows other = refl
kept-other command.Jobs rows other = refl
kept-other (command.Job job) rows other = refl
kept-other command.Users rows other = refl
kept-other (command.Why job) rows other = refl
kept-other command.Classes rows other = refl
kept-other (command.Unlisten name) rows other = absurd (cc)
kept-other (command.Bad number) rows other = refl

off-other : (c : Command) (desk : DeskState) → is_unlisten c ≡ false → off_by c desk ≡ desk
unfolding off_by
off-other (command.Clock n) desk other = refl
off-other (command.Advertise name lifetime block) desk other = refl
off-other (command.Withdraw name) desk other = refl
off-other (command.Show name) desk other = refl
off-other command.List desk other = refl
off-other (command.Eval text) desk other = refl
off-other (command.EvalIn name text) desk other = refl
off-other (command.Query block) desk other = refl
off-other (command.Submit job user block) desk other = refl
off-other (command.Remove job) desk other = refl
off-other (command.Priority user n) desk other = refl
off-other (command.Gang block) desk other = refl
off-other command.Negotiate desk other = refl
off-other (command.Claim job) desk other = refl
off-other (command.Release job) desk other = refl
off-other command.Jobs desk other = refl
off-other (command.Job job) desk other = refl
off-other command.Users desk other = refl
off-other (command.Why job) desk other = refl
off-other command.Classes desk other = refl
off-other (command.Unlisten name) desk other = absurd (cc)
off-other (command.Bad number) desk other = refl

-- a command that takes no name off
pub not-unlisten : (c : Command) → ((name : List ℕ) → c ≢ command.Unlisten name) → is_unlisten c ≡ false
not-unlisten (command.Clock n) other = refl
not-unlisten (command.Advertise name lifetime block) other = refl
not-unlisten (command.Withdraw name) other = refl
not-unlisten (command.Show name) other = refl
not-unlisten command.List other = refl
not-unlisten (command.Eval text) other = refl
not-unlisten (command.EvalIn name text) other = refl
not-unlisten (command.Query block) other = refl
not-unlisten (command.Submit job user block) other = refl
not-unlisten (command.Remove job) other = refl
not-unlisten (command.Priority user n) other = refl
not-unlisten (command.Gang block) other = refl
not-unlisten command.Negotiate other = refl
not-unlisten (command.Claim job) other = refl
not-unlisten (command.Release job) other = refl
not-unlisten command.Jobs other = refl
not-unlisten (command.Job job) other = refl
not-unlisten command.Users other = refl
not-unlisten (command.Why job) other = refl
not-unlisten command.Classes other = refl
not-unlisten (command.Unlisten name) other = absurd (other name refl)
not-unlisten (command.Bad number) other = refl

-- what a pool answers is what a pool with listeners answers
pub heard-step : (s t : State) (c : Command) (r : Reply) (old new : List Row) → is_unlisten c ≡ false → ◌≡◌ {A = State × Reply} (step s c) (t, r)
    → names_of new ≡ names_of old → ◌≡◌ {A = Heard × Reply} (step_heard (heard s old) c) (heard t new, r)
heard-step s t c r old new other is same =
    heard-other (heard s old) c other ∙ (λ i. (record { pool = (is i).0; listeners = (sym same) i }, (is i).1))

pub answered-heard : (s t : State) (c : Command) (old new : List Row) (posts : List Post) (result : Result Reply OutOfMemory) → is_unlisten c ≡ false
    → IfOk result (λ r. ◌≡◌ {A = State × Reply} (step s c) (t, r)) → OnOk result (AllZip (RowAfter posts) old new)
    → IfOk result (λ r. ◌≡◌ {A = Heard × Reply} (step_heard (heard s old) c) (heard t new, r))
answered-heard s t c old new posts (Ok r) other is posted = heard-step s t c r old new other is (names-after posts old new posted)
answered-heard s t c old new posts (Err fault) other is posted = tt

pub posted-heard : (c : Command) (old new : List Row) (posts : List Post) (result : Result Reply OutOfMemory) → is_unlisten c ≡ false
    → OnOk result (AllZip (RowAfter posts) old new) → OnOk result (AllZip (RowAfter posts) (kept_by c old) new)
posted-heard c old new posts (Ok r) other posted = subst (λ (rows : List Row). AllZip (RowAfter posts) rows new) (sym (kept-other c old other)) posted
posted-heard c old new posts (Err fault) other posted = tt

pub told-heard : (c : Command) (old new : DeskState) (posts : List Post) (result : Result Reply OutOfMemory) → is_unlisten c ≡ false
    → OnOk result (ArePosted posts old new) → OnOk result (ArePosted posts (off_by c old) new)
told-heard c old new posts (Ok r) other told = subst (λ (desk : DeskState). ArePosted posts desk new) (sym (off-other c old other)) told
told-heard c old new posts (Err fault) other told = tt

-- ---- rows that commands leave

without-zip : (posts : List Post) (name : List ℕ) (xs ys : List Row) → AllZip (RowAfter posts) xs ys
    → AllZip (RowAfter posts) (without name xs) (without name ys)
without-zip posts name [] [] all = tt
without-zip posts name [] (y ∷ ys) all = absurd all
without-zip posts name (x ∷ xs) [] all = absurd all
without-zip posts name (x ∷ xs) (y ∷ ys) all =
    subst (λ (b : Bool). AllZip (RowAfter posts) (cond (not (bytes_eq x.name name)) (x ∷ without name xs) (without name xs))
    (cond (not b) (y ∷ without name ys) (without name ys))) (ap (λ n. bytes_eq n name) (sym all.0.name))
    (by (bytes_eq x.name name) (without-zip posts name xs ys all.1))
  where
    by : (b : Bool) → AllZip (RowAfter posts) (without name xs) (without name ys)
        → AllZip (RowAfter posts) (cond (not b) (x ∷ without name xs) (without name xs)) (cond (not b) (y ∷ without name ys) (without name ys))
    by true rest = rest
    by false rest = (all.0, rest)

kept_by-zip : (posts : List Post) (c : Command) (xs ys : List Row) → AllZip (RowAfter posts) xs ys → AllZip (RowAfter posts) (kept_by c xs) (kept_by c ys)
unfolding kept_by
kept_by-zip posts c xs ys all = by c refl
  where
    same : is_unlisten c ≡ false → AllZip (RowAfter posts) (kept_by c xs) (kept_by c ys)
    same other =
        subst (λ (rows : List Row). AllZip (RowAfter posts) (kept_by c xs) rows) (sym (kept-other c ys other))
        (subst (λ (rows : List Row). AllZip (RowAfter posts) rows ys) (sym (kept-other c xs other)) all)

    taken : (name : List ℕ) → c ≡ command.Unlisten name → AllZip (RowAfter posts) (kept_by c xs) (kept_by c ys)
    taken name is = subst (λ (d : Command). AllZip (RowAfter posts) (kept_by d xs) (kept_by d ys)) (sym is) (without-zip posts name xs ys all)

    by : (d : Command) → c ≡ d → AllZip (RowAfter posts) (kept_by c xs) (kept_by c ys)
    by (command.Unlisten name) is = taken name is
    by (command.Clock n) is = same (ap is_unlisten is)
    by (command.Advertise name lifetime block) is = same (ap is_unlisten is)
    by (command.Withdraw name) is = same (ap is_unlisten is)
    by (command.Show name) is = same (ap is_unlisten is)
    by command.List is = same (ap is_unlisten is)
    by (command.Eval text) is = same (ap is_unlisten is)
    by (command.EvalIn name text) is = same (ap is_unlisten is)
    by (command.Query block) is = same (ap is_unlisten is)
    by (command.Submit job user block) is = same (ap is_unlisten is)
    by (command.Remove job) is = same (ap is_unlisten is)
    by (command.Priority user n) is = same (ap is_unlisten is)
    by (command.Gang block) is = same (ap is_unlisten is)
    by command.Negotiate is = same (ap is_unlisten is)
    by (command.Claim job) is = same (ap is_unlisten is)
    by (command.Release job) is = same (ap is_unlisten is)
    by command.Jobs is = same (ap is_unlisten is)
    by (command.Job job) is = same (ap is_unlisten is)
    by command.Users is = same (ap is_unlisten is)
    by (command.Why job) is = same (ap is_unlisten is)
    by command.Classes is = same (ap is_unlisten is)
    by (command.Bad number) is = same (ap is_unlisten is)

pub kept-zip : (posts : List Post) (commands : List Command) (xs ys : List Row) → AllZip (RowAfter posts) xs ys
    → AllZip (RowAfter posts) (kept commands xs) (kept commands ys)
kept-zip posts [] xs ys all = all
kept-zip posts (c ∷ commands) xs ys all = kept-zip posts commands (kept_by c xs) (kept_by c ys) (kept_by-zip posts c xs ys all)

pub kept-append : (a b : List Command) (rows : List Row) → kept (a ++ b) rows ≡ kept b (kept a rows)
kept-append [] b rows = refl
kept-append (c ∷ a) b rows = kept-append a b (kept_by c rows)
