-- Jobs that are submitted and removed, as steps of the pool.
use Rattle.std.proofs.Common.{◌≡◌, ℕ, ◌+◌, ◌≤◌, ◌<◌, true, false, not, cond, leb, ltb, List, [], ◌∷◌, ◌++◌, length, map, Option, None, Some, is_some}
use Rattle.std.proofs.Common.{option_map, Result, Ok, Err, refl, sym, ◌∙◌, ap, inl, inr, arith}
use Rattle.std.proofs.lemmas.Bool.Decides.{nat_tests}
use Rattle.std.proofs.lemmas.List.Sums.{sum_by-cons}
use Rattle.ad_tree.specs.declared.ad.Ad.{Ad}
use Rattle.ad_tree.specs.Ad.{ad_frames}
use Rattle.ad_tree.specs.Frames.{Frame}
use Rattle.ad_tree.specs.Inline.{Inline}
use Rattle.ad_parser.specs.declared.fault.ParseFault.{ParseFault}
use Rattle.ad_parser.specs.Outcomes.{IsAdAnswer}
use Rattle.ad_store.specs.Stock.{Advert, Stock}
use Rattle.ad_store.proofs.HeldLemmas.{neither}
use Rattle.claim_table.specs.declared.job.Job.{Job}
use Rattle.claim_table.specs.Jobs.{is_named, job_named, text_of}
use Rattle.claim_table.specs.Priorities.{Setting, lacks_place, with_setting}
use Rattle.pool_replies.specs.Refusals.{is_fault_of_text}
use Rattle.pool_replies.specs.declared.refusal.Refusal.{Refusal}
use Rattle.pool_replies.specs.declared.reply.Reply.{Reply}
use Rattle.pool_replies.specs.declared.refusal.Refusal.TheVariants as why
use Rattle.pool_replies.specs.declared.refusal.Room.TheVariants as room
use Rattle.pool_replies.specs.declared.reply.Reply.TheVariants as reply
use Rattle.pool_books.specs.Books.{queued}
use Rattle.pool_books.specs.Ports.{has_bad_ports}
use Rattle.pool_books.specs.Queue.{has_job, is_job, job_refusal, job_text, without_job}
use Rattle.pool_books.specs.State.{QueuedJob, State, idle, refused}
use Rattle.pool_books.proofs.JobLemmas.{found-any, found-first, has-queued}
use Rattle.pool_commands.specs.Jobs.{remove, set_priority, submit, take_job}
use Rattle.pool_commands.proofs.StepLemmas.{no_fault, with_books}

-- ---- why a job is refused

queued-length : (stock : Stock) (jobs : List Job) → length (map (queued stock) jobs) ≡ length jobs
queued-length stock [] = refl
queued-length stock (job ∷ jobs) = let rest = queued-length stock jobs in omega arith

queued-text : (stock : Stock) (jobs : List Job) → job_text (map (queued stock) jobs) ≡ text_of jobs
queued-text stock [] = refl
queued-text stock (job ∷ jobs) =
    let rest = queued-text stock jobs in
    omega (arith, rest, sum_by-cons (λ (j : QueuedJob). j.size) (queued stock job) (map (queued stock) jobs), sum_by-cons (λ (j : Job). j.text_len) job jobs)

-- a job has the name exactly where the table tells its state
pub known-queued : {A : Type 0} (f : Job → A) (stock : Stock) (name : List ℕ) (jobs : List Job)
    → is_some (option_map f (job_named name jobs)) ≡ has_job name (map (queued stock) jobs)
known-queued f stock name jobs =
    told (job_named name jobs) ∙ ap is_some (found-first (is_named name) jobs) ∙ found-any (is_named name) jobs ∙ sym (has-queued stock name jobs)
  where
    told : (o : Option Job) → is_some (option_map f o) ≡ is_some o
    told None = refl
    told (Some job) = refl

module _ (stock : Stock) (name : List ℕ) (size : ℕ) (jobs : List Job) where
  abbrev queue : List QueuedJob
  queue = map (queued stock) jobs

  pub refusal-name : has_job name queue ≡ true → job_refusal name size queue ≡ Some why.NameInUse
  refusal-name held = rw held refl

  pub refusal-full : has_job name queue ≡ false → 10000 ≤ length jobs → job_refusal name size queue ≡ Some (why.Full room.Jobs)
  refusal-full new full =
      let tested : leb 10000 (length queue) ≡ true = grind (arith, nat_tests, queued-length stock jobs) in
      rw (new, tested) refl

  pub refusal-text : has_job name queue ≡ false → length jobs < 10000 → 33554432 < text_of jobs + size
      → job_refusal name size queue ≡ Some (why.Full room.JobText)
  refusal-text new few long =
      let tested : leb 10000 (length queue) ≡ false = grind (arith, nat_tests, queued-length stock jobs) in
      let over : ltb 33554432 (job_text queue + size) ≡ true = grind (arith, nat_tests, queued-text stock jobs) in
      rw (new, tested, over) refl

  pub refusal-none : has_job name queue ≡ false → length jobs < 10000 → text_of jobs + size ≤ 33554432 → job_refusal name size queue ≡ None
  refusal-none new few short =
      let tested : leb 10000 (length queue) ≡ false = grind (arith, nat_tests, queued-length stock jobs) in
      let over : ltb 33554432 (job_text queue + size) ≡ false = grind (arith, nat_tests, queued-text stock jobs) in
      rw (new, tested, over) refl

-- ---- submit

pub submit-parsed : (s : State) (name user : List ℕ) (size : ℕ) (outcome : Result Inline ParseFault) (ad : Ad) → IsAdAnswer outcome (Ok ad)
    → ◌≡◌ {A = State × Reply} (submit s name user size outcome)
    (take_job s (record { name = name; user = user; size = size; ad = ad_frames ad; standing = idle }) (job_refusal name size s.jobs))
submit-parsed s name user size (Ok x) ad fits =
    ap (λ (frames : List Frame). take_job s (record { name = name; user = user; size = size; ad = frames; standing = idle }) (job_refusal name size s.jobs))
    (sym fits)
submit-parsed s name user size (Err wrong) ad fits = absurd fits

pub submit-faulty : (s : State) (name user : List ℕ) (size : ℕ) (outcome : Result Inline ParseFault) (fault : ParseFault) → IsAdAnswer outcome (Err fault)
    → is_fault_of_text fault ≡ true → ◌≡◌ {A = State × Reply} (submit s name user size outcome) (refused s (why.AdText fault))
submit-faulty s name user size (Ok x) fault fits told = absurd (no_fault fault told fits)
submit-faulty s name user size (Err wrong) fault (inl same) told = ap (λ (f : ParseFault). refused s (why.AdText f)) (sym same)
submit-faulty s name user size (Err wrong) fault (inr none) told = absurd (no_fault fault told none)

abbrev pub queued_job : List ℕ → List ℕ → ℕ → List Frame → QueuedJob
queued_job name user size frames = record { name = name; user = user; size = size; ad = frames; standing = idle }

abbrev pub new_job : List ℕ → List ℕ → ℕ → Ad → QueuedJob
new_job name user size ad = queued_job name user size (ad_frames ad)

module _ (s : State) (name user used owner : List ℕ) (size : ℕ) (outcome : Result Inline ParseFault) (ad : Ad) (fits : IsAdAnswer outcome (Ok ad))
    (is : used ≡ name) (owned : owner ≡ user) where
  used_as : ◌≡◌ {A = State × Reply} (submit s name user size outcome) (take_job s (new_job used owner size ad) (job_refusal used size s.jobs))
  used_as = submit-parsed s name user size outcome ad fits ∙ (λ i. take_job s (new_job (sym is i) (sym owned i) size ad) (job_refusal (sym is i) size s.jobs))

  pub submit-refused : (reason : Refusal) → job_refusal used size s.jobs ≡ Some reason
      → ◌≡◌ {A = State × Reply} (submit s name user size outcome) (refused s reason)
  submit-refused reason told = used_as ∙ ap (take_job s (new_job used owner size ad)) told

  pub submit-bad : job_refusal used size s.jobs ≡ None → has_bad_ports (ad_frames ad) ≡ true
      → ◌≡◌ {A = State × Reply} (submit s name user size outcome) (refused s why.BadPorts)
  submit-bad free bad =
      let gone : ◌≡◌ {A = State × Reply} (take_job s (new_job used owner size ad) None) (refused s why.BadPorts) = rw bad refl in
      used_as ∙ ap (take_job s (new_job used owner size ad)) free ∙ gone

  -- the frames of the request that is kept are those of the ad
  pub submit-taken : (told : List ℕ) (kept : List Frame) (after : List Advert) (queue : List QueuedJob) → told ≡ name → job_refusal used size s.jobs ≡ None
      → has_bad_ports (ad_frames ad) ≡ false → kept ≡ ad_frames ad → after ≡ s.ads → queue ≡ s.jobs ++ queued_job used owner size kept ∷ []
      → ◌≡◌ {A = State × Reply} (submit s name user size outcome) (with_books s after queue, reply.Submitted told)
  submit-taken told kept after queue same free good frames ads jobs =
      let taken : ◌≡◌ {A = State × Reply} (take_job s (new_job used owner size ad) None)
      (with_books s s.ads (s.jobs ++ new_job used owner size ad ∷ []), reply.Submitted used) = rw good refl in
      let all : queue ≡ s.jobs ++ new_job used owner size ad ∷ [] = jobs ∙ ap (λ (fs : List Frame). s.jobs ++ queued_job used owner size fs ∷ []) frames in
      used_as ∙ ap (take_job s (new_job used owner size ad)) free ∙ taken ∙ (λ i. (with_books s (sym ads i) (sym all i), reply.Submitted ((is ∙ sym same) i)))

-- ---- remove

pub remove-held : (s : State) (name told : List ℕ) (after : List Advert) (queue : List QueuedJob) → has_job name s.jobs ≡ true → after ≡ s.ads
    → queue ≡ without_job name s.jobs → told ≡ name → ◌≡◌ {A = State × Reply} (remove s name) (with_books s after queue, reply.Removed told)
remove-held s name told after queue held ads jobs is =
    let left : ◌≡◌ {A = State × Reply} (remove s name) (with_books s s.ads (without_job name s.jobs), reply.Removed name) = rw held refl in
    left ∙ (λ i. (with_books s (sym ads i) (sym jobs i), reply.Removed ((sym is) i)))

none_left : (name : List ℕ) (jobs : List QueuedJob) → has_job name jobs ≡ false → without_job name jobs ≡ jobs
none_left name [] none = refl
none_left name (job ∷ jobs) none =
    let parts = neither (is_job name job) (has_job name jobs) none in
    ap (λ b. cond (not b) (job ∷ without_job name jobs) (without_job name jobs)) parts.0 ∙ ap (λ l. job ∷ l) (none_left name jobs parts.1)

pub remove-unknown : (s : State) (name : List ℕ) (after : List Advert) (queue : List QueuedJob) → has_job name s.jobs ≡ false → after ≡ s.ads
    → queue ≡ without_job name s.jobs → ◌≡◌ {A = State × Reply} (remove s name) (with_books s after queue, reply.Refused why.UnknownName)
remove-unknown s name after queue none ads jobs =
    let stays : ◌≡◌ {A = State × Reply} (remove s name) (s, reply.Refused why.UnknownName) = rw none refl in
    stays ∙ (λ i. (with_books s (sym ads i) ((sym (jobs ∙ none_left name s.jobs none)) i), reply.Refused why.UnknownName))

-- ---- priorities

-- a state with other priorities
abbrev pub with_priorities : State → List Setting → State
with_priorities s priorities = record { moment = s.moment; ads = s.ads; jobs = s.jobs; priorities = priorities }

pub priority-set : (s : State) (user used told : List ℕ) (n : ℕ) (after : List Setting) → used ≡ user → told ≡ user → lacks_place used s.priorities ≡ false
    → after ≡ with_setting (record { user = used; number = n }) s.priorities
    → ◌≡◌ {A = State × Reply} (set_priority s user n) (with_priorities s after, reply.Priority told n)
priority-set s user used told n after is same free stored =
    let changed : ◌≡◌ {A = State × Reply} (set_priority s used n)
    (with_priorities s (with_setting (record { user = used; number = n }) s.priorities), reply.Priority used n) = rw free refl in
    ap (λ (u : List ℕ). set_priority s u n) (sym is) ∙ changed ∙ (λ i. (with_priorities s (sym stored i), reply.Priority ((is ∙ sym same) i) n))

pub priority-full : (s : State) (user used : List ℕ) (n : ℕ) (after : List Setting) → used ≡ user → lacks_place used s.priorities ≡ true → after ≡ s.priorities
    → ◌≡◌ {A = State × Reply} (set_priority s user n) (with_priorities s after, reply.Refused (why.Full room.Users))
priority-full s user used n after is full same =
    let stays : ◌≡◌ {A = State × Reply} (set_priority s used n) (s, reply.Refused (why.Full room.Users)) = rw full refl in
    ap (λ (u : List ℕ). set_priority s u n) (sym is) ∙ stays ∙ (λ i. (with_priorities s (sym same i), reply.Refused (why.Full room.Users)))
