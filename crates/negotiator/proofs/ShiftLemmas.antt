-- The market of a pool once some offers are made, and the market of jobs that stand so.
use Rattle.std.proofs.Common.{◌≡◌, ◌==◌, ℕ, zero, suc, Bool, true, false, not, ◌&&◌, ◌||◌, List, [], ◌∷◌, ◌++◌, All, filter, fold}
use Rattle.std.proofs.Common.{get_or, length, map, slice_get, slice_set, Option, None, Some, bytes_eq, refl, ap, sym, ◌∙◌, arith, append_assoc}
use Rattle.std.specs.Prelude.{option_map}
use Rattle.std.specs.BTreeSet.{insert_key}
use Rattle.std.specs.List.{range_with_len}
use Rattle.std.specs.Option.{option_map_or}
use Rattle.std.proofs.lemmas.Bool.Decides.{nat_tests}
use Rattle.std.proofs.lemmas.List.{append-nil, length-map, map-id}
use Rattle.std.proofs.lemmas.List.Elements.{All-cons, All-head, All-nil, All-tail}
use Rattle.std.proofs.lemmas.Option.{none-some, same_Some}
use Rattle.ad_store.specs.Stock.{Stock}
use Rattle.claim_table.specs.declared.job.Job.{Job}
use Rattle.claim_table.specs.declared.job.Stage.{Stage}
use Rattle.claim_table.specs.Jobs.{wanted, with_standing}
use Rattle.claim_table.proofs.ListLemmas.{map-set_same}
use Rattle.job_clusters.specs.Pools.{free_among}
use Rattle.negotiator.specs.declared.queues.Queue.{Queue}
use Rattle.negotiator.specs.Budget.{is_idle_at}
use Rattle.negotiator.specs.Cycle.{Market, Offer, PlainSpin, PlainTurn, Waiting, all_users, is_given, is_of, is_waiting, places, spin, turn, waiting_count}
use Rattle.negotiator.specs.Cycle.{wants_of}
use Rattle.negotiator.specs.Mapped.{offer_mapped, turn_mapped}
use Rattle.negotiator.specs.Markets.{found, is_idle, market_of, waiting_of, with_offers}
use Rattle.claim_table.specs.Priorities.{Setting, priority_of, user_order}
use Rattle.negotiator.specs.Queues.{AreQueues}
use Rattle.negotiator.proofs.AlikeLemmas.{IsAlike, count-same, filter-same, spin-alike, turn-alike}
use Rattle.negotiator.proofs.CycleLemmas.{any-append}
use Rattle.negotiator.proofs.JobLemmas.{idle-set}

-- ---- what offers keep

module _ {A : Type 0} (f : Job → A) (same : (job : Job) (s : Stage) → f (record job { standing = s }) ≡ f job) where
  pub kept-one : (jobs : List Job) (i : ℕ) (s : Stage) → map f (with_standing jobs i s) ≡ map f jobs
  kept-one jobs i s = by (slice_get jobs i) refl
    where
      by : (o : Option Job) → slice_get jobs i ≡ o
          → map f (option_map_or (λ (job : Job). slice_set jobs i (record job { standing = s })) o jobs) ≡ map f jobs
      by None at = refl
      by (Some job) at = map-set_same f jobs i job (record job { standing = s }) at (same job s)

  pub kept-all : (made : List (Offer ℕ)) (jobs : List Job) → map f (with_offers made jobs) ≡ map f jobs
  kept-all [] jobs = refl
  kept-all (o ∷ os) jobs = kept-all os (with_standing jobs o.job (Stage.Matched o.resources)) ∙ kept-one jobs o.job (Stage.Matched o.resources)

pub offers-ahead : (front rest : List (Offer ℕ)) (jobs : List Job) → with_offers (front ++ rest) jobs ≡ with_offers rest (with_offers front jobs)
offers-ahead [] rest jobs = refl
offers-ahead (o ∷ os) rest jobs = offers-ahead os rest (with_standing jobs o.job (Stage.Matched o.resources))

out-of-range : (jobs : List Job) (i : ℕ) → slice_get jobs i ≡ None → is_idle_at jobs i ≡ false
out-of-range jobs i e = ap (λ o. option_map_or (λ (job : Job). is_idle job.standing) o false) e

idle-one : (jobs : List Job) (i : ℕ) (slots : List ℕ) (k : ℕ)
    → is_idle_at (with_standing jobs i (Stage.Matched slots)) k ≡ (is_idle_at jobs k && not (i == k))
idle-one jobs i slots k = by (slice_get jobs i) refl
  where
    none : (b : Bool) → i == k ≡ b → is_idle_at jobs i ≡ false → is_idle_at jobs k ≡ (is_idle_at jobs k && not b)
    none true e out =
        let same : i ≡ k = grind (arith, nat_tests) in
        let here : is_idle_at jobs k ≡ false = ap (is_idle_at jobs) (sym same) ∙ out in
        here ∙ sym (ap (λ b. b && false) here)
    none false e out = by_bool (is_idle_at jobs k)
      where
        by_bool : (b : Bool) → b ≡ (b && true)
        by_bool true = refl
        by_bool false = refl

    by : (o : Option Job) → slice_get jobs i ≡ o
        → is_idle_at (option_map_or (λ (job : Job). slice_set jobs i (record job { standing = Stage.Matched slots })) o jobs) k
        ≡ (is_idle_at jobs k && not (i == k))
    by None at = none (i == k) refl (out-of-range jobs i at)
    by (Some job) at = idle-set jobs i k job (record job { standing = Stage.Matched slots }) at refl

pub idle-all : (made : List (Offer ℕ)) (jobs : List Job) (k : ℕ) → is_idle_at (with_offers made jobs) k ≡ (is_idle_at jobs k && not (is_given made k))
idle-all [] jobs k = by (is_idle_at jobs k)
  where
    by : (b : Bool) → b ≡ (b && true)
    by true = refl
    by false = refl
idle-all (o ∷ os) jobs k =
    idle-all os (with_standing jobs o.job (Stage.Matched o.resources)) k
    ∙ ap (λ b. b && not (is_given os k)) (idle-one jobs o.job o.resources k)
    ∙ both (is_idle_at jobs k) (o.job == k) (is_given os k)
  where
    both : (a b c : Bool) → ((a && not b) && not c) ≡ (a && not (b || c))
    both true true c = refl
    both true false c = refl
    both false b c = refl

-- ---- the market of a pool

module _ (moment : ℕ) (stock : Stock) (settings : List Setting) where
  abbrev market : List Job → Market ℕ
  market jobs = market_of moment stock settings jobs

  pub waiting-is : (jobs : List Job) (made : List (Offer ℕ)) (k : ℕ) → is_waiting (market jobs) made k ≡ (is_idle_at jobs k && not (is_given made k))
  waiting-is jobs made k = ap (λ b. b && not (is_given made k)) (by jobs k)
    where
      by : (js : List Job) (k : ℕ) → option_map_or (λ (w : Waiting). w.is_idle) (slice_get (map waiting_of js) k) false ≡ is_idle_at js k
      by [] k = refl
      by (j ∷ js) zero = refl
      by (j ∷ js) (suc k) = by js k

  of-is : (jobs : List Job) (user : List ℕ) (k : ℕ)
      → is_of (market jobs) user k ≡ option_map_or (bytes_eq user) (slice_get (map (λ (job : Job). job.user) jobs) k) false
  of-is jobs user k = by jobs k
    where
      by : (js : List Job) (k : ℕ)
          → option_map_or (λ (w : Waiting). bytes_eq user w.user) (slice_get (map waiting_of js) k) false
          ≡ option_map_or (bytes_eq user) (slice_get (map (λ (job : Job). job.user) js) k) false
      by [] k = refl
      by (j ∷ js) zero = refl
      by (j ∷ js) (suc k) = by js k

  pub wants-is : (jobs : List Job) (k : ℕ)
      → wants_of (market jobs) k ≡ option_map_or (λ (n : ℕ). n) (slice_get (map (λ (job : Job). wanted job.request) jobs) k) 0
  wants-is jobs k = by jobs k
    where
      by : (js : List Job) (k : ℕ)
          → option_map_or (λ (w : Waiting). w.wants) (slice_get (map waiting_of js) k) 0
          ≡ option_map_or (λ (n : ℕ). n) (slice_get (map (λ (job : Job). wanted job.request) js) k) 0
      by [] k = refl
      by (j ∷ js) zero = refl
      by (j ∷ js) (suc k) = by js k

  users-is : (jobs : List Job)
      → all_users (market jobs) ≡ fold (λ us u. insert_key (user_order (λ user. priority_of user settings)) us u) [] (map (λ (job : Job). job.user) jobs)
  users-is jobs = by [] jobs
    where
      by : (us : List (List ℕ)) (js : List Job)
          → fold (λ us (w : Waiting). insert_key (user_order (λ user. priority_of user settings)) us w.user) us (map waiting_of js)
          ≡ fold (λ us u. insert_key (user_order (λ user. priority_of user settings)) us u) us (map (λ (job : Job). job.user) js)
      by us [] = refl
      by us (j ∷ js) = by (insert_key (user_order (λ user. priority_of user settings)) us j.user) js

  module _ (jobs : List Job) (base : List (Offer ℕ)) where
    abbrev pub behind : List Job
    behind = with_offers base jobs

    size : length (map waiting_of jobs) ≡ length (map waiting_of behind)
    size =
        length-map jobs waiting_of
        ∙ sym (length-map jobs (λ (job : Job). job.user))
        ∙ ap length (sym (kept-all (λ (job : Job). job.user) (λ job s. refl) base jobs))
        ∙ length-map behind (λ (job : Job). job.user)
        ∙ sym (length-map behind waiting_of)

    same-of : (user : List ℕ) (k : ℕ) → is_of (market jobs) user k ≡ is_of (market behind) user k
    same-of user k =
        of-is jobs user k
        ∙ ap (λ us. option_map_or (bytes_eq user) (slice_get us k) false) (sym (kept-all (λ (job : Job). job.user) (λ job s. refl) base jobs))
        ∙ sym (of-is behind user k)

    same-users : all_users (market jobs) ≡ all_users (market behind)
    same-users =
        users-is jobs
        ∙ ap (λ us. fold (λ us u. insert_key (user_order (λ user. priority_of user settings)) us u) [] us)
        (sym (kept-all (λ (job : Job). job.user) (λ job s. refl) base jobs))
        ∙ sym (users-is behind)

    same-resources : (o : Option (List ℕ)) → o ≡ option_map (map (λ (slot : ℕ). slot)) o
    same-resources None = refl
    same-resources (Some slots) = ap Some (sym (map-id slots))

    shifted : IsAlike (λ (slot : ℕ). slot) (market behind) (market jobs) (λ made. base ++ made) (λ made. Unit {0})
    shifted = record {
      ahead =
          λ made o. sym (append_assoc base made (o ∷ [])) ∙ ap (λ slots. let p : Offer ℕ =
          record { job = o.job; resources = slots } in base ++ made ++ p ∷ []) (sym (map-id o.resources));
      size = size;
      of = same-of;
      waiting = λ made k.
          waiting-is jobs (base ++ made) k
          ∙ ap (λ b. is_idle_at jobs k && not b) (any-append (λ (o : Offer ℕ). o.job == k) base made)
          ∙ both (is_idle_at jobs k) (is_given base k) (is_given made k)
          ∙ sym (ap (λ b. b && not (is_given made k)) (idle-all base jobs k))
          ∙ sym (waiting-is behind made k);
      wants = λ k.
          wants-is jobs k
          ∙ ap (λ ns. option_map_or (λ (n : ℕ). n) (slice_get ns k) 0) (sym (kept-all (λ (job : Job). wanted job.request) (λ job s. refl) base jobs))
          ∙ sym (wants-is behind k);
      users = same-users;
      priority = λ user. refl;
      free = λ made p. ap (free_among stock) (offers-ahead base made jobs);
      find = λ made k p. ap (λ js. found moment stock settings js k) (offers-ahead base made jobs)
          ∙ same-resources (found moment stock settings (with_offers made behind) k);
      step = λ user made k slots p w f. tt;
    }
      where
        both : (a b c : Bool) → (a && not (b || c)) ≡ ((a && not b) && not c)
        both true true c = refl
        both true false c = refl
        both false b c = refl

    offers-id : (os : List (Offer ℕ)) → map (offer_mapped (λ (slot : ℕ). slot)) os ≡ os
    offers-id [] = refl
    offers-id (o ∷ os) =
        ap (λ slots. let p : Offer ℕ = record { job = o.job; resources = slots } in p ∷ map (offer_mapped (λ (slot : ℕ). slot)) os) (map-id o.resources)
        ∙ ap (λ l. o ∷ l) (offers-id os)

    turns-id : (ts : List (PlainTurn ℕ)) → map (turn_mapped (λ (slot : ℕ). slot)) ts ≡ ts
    turns-id [] = refl
    turns-id (t ∷ ts) =
        ap (λ os. let u : PlainTurn ℕ = record { user = t.user; slice = t.slice; offers = os } in u ∷ map (turn_mapped (λ (slot : ℕ). slot)) ts)
        (offers-id t.offers)
        ∙ ap (λ l. t ∷ l) (turns-id ts)

    -- a turn among jobs that stand so is the turn once the offers are made
    pub shift-turn : (user : List ℕ) (is : List ℕ) (left : ℕ) (given : Bool)
        → turn (market behind) user is left given [] ≡ turn (market jobs) user is left given base
    shift-turn user is left given =
        sym (ap (turn (market jobs) user is left given) (sym (append-nil base))
        ∙ (turn-alike (λ (slot : ℕ). slot) (market behind) (market jobs) (λ made. base ++ made) (λ made. Unit {0}) shifted user is left given [] tt).same
        ∙ offers-id (turn (market behind) user is left given []))

    pub shift-count : waiting_count (market behind) [] ≡ waiting_count (market jobs) base
    shift-count =
        sym (ap (waiting_count (market jobs)) (sym (append-nil base))
        ∙ count-same (λ (slot : ℕ). slot) (market behind) (market jobs) (λ made. base ++ made) (λ made. Unit {0}) shifted [])

    pub shift-spin : spin (market behind) [] ≡ spin (market jobs) base
    shift-spin =
        sym (ap (spin (market jobs)) (sym (append-nil base))
        ∙ (spin-alike (λ (slot : ℕ). slot) (market behind) (market jobs) (λ made. base ++ made) (λ made. Unit {0}) shifted [] tt).same
        ∙ ap (λ ts. let s : PlainSpin ℕ = record { free = (spin (market behind) []).free; turns = ts } in s) (turns-id (spin (market behind) []).turns))

    pub shift-own : (user : List ℕ)
        → filter (is_of (market behind) user) (places (market behind).jobs) ≡ filter (is_of (market jobs) user) (places (market jobs).jobs)
    shift-own user =
        ap (λ n. filter (is_of (market behind) user) (range_with_len 0 n)) (sym size)
        ∙ filter-same (is_of (market behind) user) (is_of (market jobs) user) (λ k. sym (same-of user k)) (places (market jobs).jobs)

    pub shift-places : places (market behind).jobs ≡ places (market jobs).jobs
    shift-places = ap (range_with_len 0) (sym size)

    pub shift-queues : (queues : List Queue) → AreQueues (market jobs) queues → AreQueues (market behind) queues
    shift-queues queues are = record {
      users = are.users ∙ same-users;
      numbers = are.numbers;
      places = moved queues are.places;
    }
      where
        moved : (qs : List Queue) → All (λ (q : Queue). q.places ≡ filter (is_of (market jobs) q.user) (places (market jobs).jobs)) qs
            → All (λ (q : Queue). q.places ≡ filter (is_of (market behind) q.user) (places (market behind).jobs)) qs
        moved [] h = All-nil (λ (q : Queue). q.places ≡ filter (is_of (market behind) q.user) (places (market behind).jobs))
        moved (q ∷ qs) h =
            All-cons (λ (q : Queue). q.places ≡ filter (is_of (market behind) q.user) (places (market behind).jobs)) q qs
            (All-head (λ (q : Queue). q.places ≡ filter (is_of (market jobs) q.user) (places (market jobs).jobs)) q qs h ∙ sym (shift-own q.user))
            (moved qs (All-tail (λ (q : Queue). q.places ≡ filter (is_of (market jobs) q.user) (places (market jobs).jobs)) q qs h))

-- ---- a job as it waits

pub user-of : (jobs : List Job) (i : ℕ) (user : List ℕ) (d : Waiting) → option_map (λ (job : Job). job.user) (slice_get jobs i) ≡ Some user
    → (get_or (map waiting_of jobs) i d).user ≡ user
user-of [] i user d e = absurd (none-some user e)
user-of (j ∷ jobs) zero user d e = same_Some j.user user e
user-of (j ∷ jobs) (suc i) user d e = user-of jobs i user d e
