-- The turns of a spin, and the spins of a cycle, as they run.
use Rattle.std.proofs.Common.{◌≡◌, ◌≤◌, ◌<◌, ◌+◌, ◌^◌, ℕ, Bool, true, false, not, cond, if◌then◌else◌, List, [], ◌∷◌}
use Rattle.std.proofs.Common.{◌++◌, filter, length, map, drop, get_or, slice_get, sum, refl, ap, sym, ◌∙◌, subst, arith, Result, Ok, Err, OnErr}
use Rattle.std.proofs.Common.{append_assoc}
use Rattle.std.specs.Option.{option_map_or}
use Rattle.std.proofs.lemmas.List.{append-nil, drop_all, drop_more, length-map, map-append}
use Rattle.std.proofs.lemmas.List.Elements.{filter-append}
use Rattle.claim_table.specs.declared.job.Job.{Job}
use Rattle.claim_table.specs.Jobs.{jobs_limit}
use Rattle.job_clusters.specs.declared.scene.Scene.{Scene}
use Rattle.job_clusters.specs.Pools.{free_among}
use Rattle.job_clusters.specs.Scenes.{settings_in, stock_in}
use Rattle.negotiator.specs.declared.answers.Offered.{Offered}
use Rattle.negotiator.specs.declared.answers.Spin.{Spin}
use Rattle.negotiator.specs.declared.answers.Turn.{Turn}
use Rattle.negotiator.specs.declared.queues.Queue.{Queue}
use Rattle.negotiator.specs.Budget.{ArePaid, Counts}
use Rattle.negotiator.specs.Cycle.{Market, Offer, PlainSpin, PlainTurn, cycle_from, cycle_of, has_offer, is_empty, is_of, offers_in, offers_of, places}
use Rattle.negotiator.specs.Cycle.{shares_of, spin, turn, turns, users_of, waiting_count}
use Rattle.negotiator.specs.Markets.{IsPart, offer_named, spin_named, turn_named, waiting_of, with_offers}
use Rattle.claim_table.specs.Priorities.{priority_of}
use Rattle.negotiator.specs.Scenes.{IsReady, market_in, users_at}
use Rattle.negotiator.specs.Queues.{AreQueues}
use Rattle.claim_table.specs.Settings.{settings_of}
use Rattle.negotiator.proofs.ActiveLemmas.{few-users}
use Rattle.negotiator.proofs.CycleLemmas.{cycle-step, offers-append, offers-kept, spin-fewer}
use Rattle.negotiator.proofs.ShiftLemmas.{offers-ahead, shift-count, shift-own, shift-places, shift-queues, shift-spin, shift-turn}
use Rattle.negotiator.proofs.TurnLoopLemmas.{named-later}
use Rattle.pie_slices.specs.Slices.{slice_of, slices_of, weight_of}

pub on_err : {A E P : Type 0} (r : Result A E) → P → OnErr r P
on_err (Ok x) p = tt
on_err (Err e) p = p

-- nothing is made yet
pub part-none : (all : List (Offer ℕ)) (jobs : List Job) → IsPart all jobs jobs
part-none all jobs = record { front = []; rest = all; all = refl; made = refl }

-- a part of what comes behind a front
pub part-behind : (front offers rest all : List (Offer ℕ)) (jobs middle later : List Job) → all ≡ front ++ (offers ++ rest)
    → middle ≡ with_offers front jobs → IsPart offers middle later → IsPart all jobs later
part-behind front offers rest all jobs middle later whole table part = record {
  front = front ++ part.front;
  rest = part.rest ++ rest;
  all =
      whole
      ∙ ap (λ os. front ++ (os ++ rest)) part.all
      ∙ ap (λ os. front ++ os) (append_assoc part.front part.rest rest)
      ∙ sym (append_assoc front part.front (part.rest ++ rest));
  made = part.made ∙ ap (with_offers part.front) table ∙ sym (offers-ahead front part.front jobs);
}

-- a front alone
pub part-front : (front rest all : List (Offer ℕ)) (jobs later : List Job) → all ≡ front ++ rest → later ≡ with_offers front jobs
    → IsPart all jobs later
part-front front rest all jobs later whole table = record { front = front; rest = rest; all = whole; made = table }

names-later : (jobs : List Job) (made os : List (Offer ℕ)) → map (offer_named (with_offers made jobs)) os ≡ map (offer_named jobs) os
names-later jobs made [] = refl
names-later jobs made (o ∷ os) =
    ap (λ p. p ∷ map (offer_named (with_offers made jobs)) os) (named-later jobs made o) ∙ ap (λ l. offer_named jobs o ∷ l) (names-later jobs made os)

turns-later : (jobs : List Job) (made : List (Offer ℕ)) (ts : List (PlainTurn ℕ))
    → map (turn_named (with_offers made jobs)) ts ≡ map (turn_named jobs) ts
turns-later jobs made [] = refl
turns-later jobs made (t ∷ ts) =
    ap (λ os. let u : Turn = record { user = t.user; slice = t.slice; offers = os } in u ∷ map (turn_named (with_offers made jobs)) ts)
    (names-later jobs made t.offers)
    ∙ ap (λ l. turn_named jobs t ∷ l) (turns-later jobs made ts)

pub spin-later : (jobs : List Job) (made : List (Offer ℕ)) (s : PlainSpin ℕ) → spin_named (with_offers made jobs) s ≡ spin_named jobs s
spin-later jobs made s = ap (λ ts. let u : Spin = record { free = s.free; turns = ts } in u) (turns-later jobs made s.turns)

module _ (scene : Scene) (began : List Job) where
  abbrev m : Market ℕ
  m = market_in scene began

  -- ---- the turns

  pub record TurnsLoop (users : List (List ℕ)) (slices : List ℕ) (marks : List Bool) (before : Counts) (k : ℕ) (list : List Turn) (jobs : List Job)
      (failed : List Bool) (now : Counts) : Type 0 where
    pub done : List (PlainTurn ℕ)
    pub whole : turns m users slices [] ≡ done ++ turns m (drop k users) (drop k slices) (offers_in done)
    pub shown : list ≡ map (turn_named began) (filter has_offer done)
    pub table : jobs ≡ with_offers (offers_in done) began
    pub ready : IsReady scene jobs failed
    pub paid : ArePaid scene.moment (stock_in scene) (settings_in scene) began jobs marks failed before now

  pub turns-start : (users : List (List ℕ)) (slices : List ℕ) (marks : List Bool) (before : Counts) → IsReady scene began marks
      → ArePaid scene.moment (stock_in scene) (settings_in scene) began began marks marks before before
      → TurnsLoop users slices marks before 0 [] began marks before
  turns-start users slices marks before ready paid = record { done = []; whole = refl; shown = refl; table = refl; ready = ready; paid = paid }

  module _ {users : List (List ℕ)} {slices : List ℕ} {marks : List Bool} {before : Counts} {k : ℕ} {list : List Turn} {jobs : List Job}
      {failed : List Bool} {now : Counts}
      (loop : TurnsLoop users slices marks before k list jobs failed now) where
    pub turns-ended : length users ≤ k → turns m users slices [] ≡ loop.done
    turns-ended past = loop.whole ∙ ap (λ us. loop.done ++ turns m us (drop k slices) (offers_in loop.done)) (drop_all k users past) ∙ append-nil loop.done

    pub turns-list : length users ≤ k → list ≡ map (turn_named began) (filter has_offer (turns m users slices []))
    turns-list past = loop.shown ∙ ap (λ ts. map (turn_named began) (filter has_offer ts)) (sym (turns-ended past))

    pub turns-table : length users ≤ k → jobs ≡ with_offers (offers_in (turns m users slices [])) began
    turns-table past = loop.table ∙ ap (λ ts. with_offers (offers_in ts) began) (sym (turns-ended past))

    -- the places of the user's jobs are as they were
    pub own-here : (queue : Queue) → queue.places ≡ filter (is_of m queue.user) (places m.jobs)
        → queue.places ≡ filter (is_of (market_in scene jobs) queue.user) (places (market_in scene jobs).jobs)
    own-here queue own =
        own
        ∙ sym (shift-own scene.moment (stock_in scene) (settings_of scene.priorities.now) began (offers_in loop.done) queue.user)
        ∙ ap (λ js. filter (is_of (market_in scene js) queue.user) (places (market_in scene js).jobs)) (sym loop.table)

    module _ (user : List ℕ) (slice : ℕ) (us : k < length users) (ss : k < length slices) (user_is : get_or users k [] ≡ user)
        (slice_is : get_or slices k 0 ≡ slice) where
      abbrev os : List (Offer ℕ)
      os = turn m user (places m.jobs) slice false (offers_in loop.done)

      abbrev t : PlainTurn ℕ
      t = record { user = user; slice = slice; offers = os }

      abbrev rest : List (PlainTurn ℕ)
      rest = turns m (drop (k + 1) users) (drop (k + 1) slices) (offers_in loop.done ++ os)

      turns-next : turns m users slices [] ≡ loop.done ++ (t ∷ rest)
      turns-next =
          loop.whole
          ∙ ap (λ l. loop.done ++ turns m l (drop k slices) (offers_in loop.done)) (drop_more users k [] us ∙ ap (λ u. u ∷ drop (k + 1) users) user_is)
          ∙ ap (λ l. loop.done ++ turns m (user ∷ drop (k + 1) users) l (offers_in loop.done))
          (drop_more slices k 0 ss ∙ ap (λ s. s ∷ drop (k + 1) slices) slice_is)

      -- the turn as it ran
      pub turn-ran : turn (market_in scene jobs) user (places (market_in scene jobs).jobs) slice false [] ≡ os
      turn-ran =
          ap (λ js. turn (market_in scene js) user (places (market_in scene js).jobs) slice false []) loop.table
          ∙ ap (λ is. turn (market_in scene (with_offers (offers_in loop.done) began)) user is slice false [])
          (shift-places scene.moment (stock_in scene) (settings_of scene.priorities.now) began (offers_in loop.done))
          ∙ shift-turn scene.moment (stock_in scene) (settings_of scene.priorities.now) began (offers_in loop.done) user (places m.jobs) slice false

      offers-next : offers_in (turns m users slices []) ≡ offers_in loop.done ++ (os ++ offers_in rest)
      offers-next = ap offers_in turns-next ∙ offers-append loop.done (t ∷ rest)

      -- want of memory in the turn
      pub turns-stopped : (later : List Job) → IsPart (turn (market_in scene jobs) user (places (market_in scene jobs).jobs) slice false []) jobs later
          → IsPart (offers_in (turns m users slices [])) began later
      turns-stopped later part =
          part-behind (offers_in loop.done) os (offers_in rest) (offers_in (turns m users slices [])) began jobs later offers-next loop.table
          (subst (λ l. IsPart l jobs later) turn-ran part)

      offers-with : offers_in (loop.done ++ t ∷ []) ≡ offers_in loop.done ++ os
      offers-with = offers-append loop.done (t ∷ []) ∙ ap (λ l. offers_in loop.done ++ l) (append-nil os)

      table-with : (later : List Job) → later ≡ with_offers (turn (market_in scene jobs) user (places (market_in scene jobs).jobs) slice false []) jobs
          → later ≡ with_offers (offers_in (loop.done ++ t ∷ [])) began
      table-with later is =
          is
          ∙ ap (λ l. with_offers l jobs) turn-ran
          ∙ ap (with_offers os) loop.table
          ∙ sym (offers-ahead (offers_in loop.done) os began)
          ∙ ap (λ l. with_offers l began) (sym offers-with)

      -- want of memory behind the turn
      pub turns-stopped-behind : (later : List Job)
          → later ≡ with_offers (turn (market_in scene jobs) user (places (market_in scene jobs).jobs) slice false []) jobs
          → IsPart (offers_in (turns m users slices [])) began later
      turns-stopped-behind later is =
          part-front (offers_in (loop.done ++ t ∷ [])) (offers_in rest) (offers_in (turns m users slices [])) began later
          (offers-next ∙ sym (append_assoc (offers_in loop.done) os (offers_in rest)) ∙ ap (λ l. l ++ offers_in rest) (sym offers-with))
          (table-with later is)

      pub turns-more : (offers : List Offered)
          → offers ≡ map (offer_named jobs) (turn (market_in scene jobs) user (places (market_in scene jobs).jobs) slice false [])
          → (later_list : List Turn)
          → later_list ≡ list ++ (if is_empty offers then [] else (record { user = user; slice = slice; offers = offers }) ∷ [])
          → (later : List Job) → later ≡ with_offers (turn (market_in scene jobs) user (places (market_in scene jobs).jobs) slice false []) jobs
          → (later_failed : List Bool) (after : Counts) → IsReady scene later later_failed
          → ArePaid scene.moment (stock_in scene) (settings_in scene) began later marks later_failed before after
          → TurnsLoop users slices marks before (k + 1) later_list later later_failed after
      turns-more offers offers_are later_list pushed later is later_failed after ready paid = record {
        done = loop.done ++ t ∷ [];
        whole =
            turns-next
            ∙ sym (append_assoc loop.done (t ∷ []) rest)
            ∙ ap (λ l. (loop.done ++ t ∷ []) ++ turns m (drop (k + 1) users) (drop (k + 1) slices) l) (sym offers-with);
        shown =
            pushed
            ∙ ap (λ l. l ++ (if is_empty offers then [] else (record { user = user; slice = slice; offers = offers }) ∷ [])) loop.shown
            ∙ ap (λ os. map (turn_named began) (filter has_offer loop.done)
            ++ (if is_empty os then [] else (let u : Turn = record { user = user; slice = slice; offers = os } in u ∷ []))) named
            ∙ ap (λ l. map (turn_named began) (filter has_offer loop.done) ++ l) (one os)
            ∙ sym (map-append (turn_named began) (filter has_offer loop.done) (filter has_offer (t ∷ [])))
            ∙ ap (map (turn_named began)) (sym (filter-append has_offer loop.done (t ∷ [])));
        table = table-with later is;
        ready = ready;
        paid = paid;
      }
        where
          named : offers ≡ map (offer_named began) os
          named =
              offers_are
              ∙ ap (map (offer_named jobs)) turn-ran
              ∙ ap (λ js. map (offer_named js) os) loop.table
              ∙ names-later began (offers_in loop.done) os

          one : (os : List (Offer ℕ))
              → (if is_empty (map (offer_named began) os) then [] else (let u : Turn =
              record { user = user; slice = slice; offers = map (offer_named began) os } in u ∷ []))
              ≡ map (turn_named began) (cond (not (is_empty os)) ((record { user = user; slice = slice; offers = os }) ∷ []) [])
          one [] = refl
          one (o ∷ others) = refl

  -- ---- a spin

  abbrev spin-with : ℕ → List Turn → Spin
  spin-with free list = record { free = free; turns = list }

  pub few-weights : (queues : List Queue) (active weights : List ℕ) → length began ≤ jobs_limit → users_at queues active ≡ users_of m []
      → weights ≡ map (λ user. weight_of (priority_of user (settings_of scene.priorities.now))) (users_at queues active) → length weights ≤ 10 ^ 4
  few-weights queues active weights few users weights_are =
      let all = few-users m in
      let jobs = length-map began waiting_of in
      let same =
      ap length weights_are ∙ length-map (users_at queues active) (λ user. weight_of (priority_of user (settings_of scene.priorities.now)))
      ∙ ap (λ (us : List (List ℕ)). length us) users in
      omega (arith, few, all, jobs, same)

  module _ (queues : List Queue) (active weights slices : List ℕ) (free : ℕ) (free_is : free ≡ free_among (stock_in scene) began)
      (users_are : users_at queues active ≡ users_of m [])
      (weights_are : weights ≡ map (λ user. weight_of (priority_of user (settings_of scene.priorities.now))) (users_at queues active))
      (slices_are : slices ≡ slices_of free weights) where
    pub slices-length : length slices ≡ length active
    slices-length =
        ap length slices_are
        ∙ length-map weights (slice_of free (sum weights))
        ∙ ap length weights_are
        ∙ length-map (users_at queues active) (λ user. weight_of (priority_of user (settings_of scene.priorities.now)))
        ∙ length-map active (λ k. option_map_or (λ (q : Queue). q.user) (slice_get queues k) [])

    shares-are : slices ≡ shares_of m []
    shares-are =
        slices_are
        ∙ ap (λ n. slices_of n weights) free_is
        ∙ ap (slices_of (free_among (stock_in scene) began))
        (weights_are ∙ ap (map (λ user. weight_of (priority_of user (settings_of scene.priorities.now)))) users_are)

    turns-are : turns m (users_at queues active) slices [] ≡ turns m (users_of m []) (shares_of m []) []
    turns-are = ap (λ us. turns m us slices []) users_are ∙ ap (λ ss. turns m (users_of m []) ss []) shares-are

    offers-are : offers_in (turns m (users_at queues active) slices []) ≡ offers_in (spin m []).turns
    offers-are = ap offers_in turns-are ∙ sym (offers-kept (turns m (users_of m []) (shares_of m []) []))

    pub spin-shown : (list : List Turn) → list ≡ map (turn_named began) (filter has_offer (turns m (users_at queues active) slices []))
        → spin-with free list ≡ spin_named began (spin m [])
    spin-shown list is =
        ap (spin-with free) (is ∙ ap (λ ts. map (turn_named began) (filter has_offer ts)) turns-are)
        ∙ ap (λ n. spin-with n (map (turn_named began) (filter has_offer (turns m (users_of m []) (shares_of m []) [])))) free_is

    pub spin-table : (later : List Job) → later ≡ with_offers (offers_in (turns m (users_at queues active) slices [])) began
        → later ≡ with_offers (offers_in (spin m []).turns) began
    spin-table later is = is ∙ ap (λ os. with_offers os began) offers-are

    pub spin-part : (later : List Job) → IsPart (offers_in (turns m (users_at queues active) slices [])) began later
        → IsPart (offers_in (spin m []).turns) began later
    spin-part later part = subst (λ os. IsPart os began later) offers-are part

  -- ---- the spins

  pub record SpinsLoop (marks : List Bool) (before : Counts) (list : List Spin) (jobs : List Job) (failed : List Bool) (now : Counts) : Type 0 where
    pub done : List (PlainSpin ℕ)
    pub whole : cycle_of m ≡ done ++ cycle_from m (offers_of done)
    pub shown : list ≡ map (spin_named began) done
    pub table : jobs ≡ with_offers (offers_of done) began
    pub ready : IsReady scene jobs failed
    pub paid : ArePaid scene.moment (stock_in scene) (settings_in scene) began jobs marks failed before now

  pub spins-start : (marks : List Bool) (before : Counts) → IsReady scene began marks
      → ArePaid scene.moment (stock_in scene) (settings_in scene) began began marks marks before before → SpinsLoop marks before [] began marks before
  spins-start marks before ready paid = record { done = []; whole = refl; shown = refl; table = refl; ready = ready; paid = paid }

  spins-append : (ss rs : List (PlainSpin ℕ)) → offers_of (ss ++ rs) ≡ offers_of ss ++ offers_of rs
  spins-append [] rs = refl
  spins-append (s ∷ ss) rs = ap (λ os. offers_in s.turns ++ os) (spins-append ss rs) ∙ sym (append_assoc (offers_in s.turns) (offers_of ss) (offers_of rs))

  module _ {marks : List Bool} {before : Counts} {list : List Spin} {jobs : List Job} {failed : List Bool} {now : Counts}
      (loop : SpinsLoop marks before list jobs failed now) where
    abbrev here : PlainSpin ℕ
    here = spin m (offers_of loop.done)

    abbrev ran : PlainSpin ℕ
    ran = spin (market_in scene jobs) []

    spin-ran : ran ≡ here
    spin-ran =
        ap (λ js. spin (market_in scene js) []) loop.table ∙ shift-spin scene.moment (stock_in scene) (settings_of scene.priorities.now) began (offers_of
        loop.done)

    pub queues-here : (queues : List Queue) → AreQueues m queues → AreQueues (market_in scene jobs) queues
    queues-here queues are =
        subst (λ js. AreQueues (market_in scene js) queues) (sym loop.table)
        (shift-queues scene.moment (stock_in scene) (settings_of scene.priorities.now) began (offers_of loop.done) queues are)

    abbrev on : Bool → List (PlainSpin ℕ)
    on b = if b then [] else cycle_from m (offers_of loop.done ++ offers_in here.turns)

    next : cycle_of m ≡ loop.done ++ (here ∷ on (is_empty here.turns))
    next = loop.whole ∙ ap (λ l. loop.done ++ l) (cycle-step m (offers_of loop.done))

    spins-offers-with : offers_of (loop.done ++ here ∷ []) ≡ offers_of loop.done ++ offers_in here.turns
    spins-offers-with = spins-append loop.done (here ∷ []) ∙ ap (λ l. offers_of loop.done ++ l) (append-nil (offers_in here.turns))

    spins-offers-next : offers_of (cycle_of m) ≡ offers_of loop.done ++ (offers_in here.turns ++ offers_of (on (is_empty here.turns)))
    spins-offers-next = ap offers_of next ∙ spins-append loop.done (here ∷ on (is_empty here.turns))

    -- want of memory in the spin
    pub spins-stopped : (later : List Job) → IsPart (offers_in ran.turns) jobs later → IsPart (offers_of (cycle_of m)) began later
    spins-stopped later part =
        part-behind (offers_of loop.done) (offers_in here.turns) (offers_of (on (is_empty here.turns))) (offers_of (cycle_of m)) began jobs later
        spins-offers-next loop.table
        (subst (λ (s : PlainSpin ℕ). IsPart (offers_in s.turns) jobs later) spin-ran part)

    spins-table-with : (later : List Job) → later ≡ with_offers (offers_in ran.turns) jobs
        → later ≡ with_offers (offers_of (loop.done ++ here ∷ [])) began
    spins-table-with later is =
        is
        ∙ ap (λ (s : PlainSpin ℕ). with_offers (offers_in s.turns) jobs) spin-ran
        ∙ ap (with_offers (offers_in here.turns)) loop.table
        ∙ sym (offers-ahead (offers_of loop.done) (offers_in here.turns) began)
        ∙ ap (λ l. with_offers l began) (sym spins-offers-with)

    -- want of memory behind the spin
    pub spins-stopped-behind : (later : List Job) → later ≡ with_offers (offers_in ran.turns) jobs → IsPart (offers_of (cycle_of m)) began later
    spins-stopped-behind later is =
        part-front (offers_of (loop.done ++ here ∷ [])) (offers_of (on (is_empty here.turns))) (offers_of (cycle_of m)) began later
        (spins-offers-next ∙ sym (append_assoc (offers_of loop.done) (offers_in here.turns) (offers_of (on (is_empty here.turns))))
        ∙ ap (λ l. l ++ offers_of (on (is_empty here.turns))) (sym spins-offers-with))
        (spins-table-with later is)

    module _ (one : Spin) (one_is : one ≡ spin_named jobs ran) (later_list : List Spin) (pushed : later_list ≡ list ++ one ∷ []) (later : List Job)
        (is : later ≡ with_offers (offers_in ran.turns) jobs) where
      shown-with : later_list ≡ map (spin_named began) (loop.done ++ here ∷ [])
      shown-with =
          pushed
          ∙ ap (λ l. l ++ one ∷ []) loop.shown
          ∙ ap (λ s. map (spin_named began) loop.done ++ s ∷ [])
          (one_is ∙ ap (spin_named jobs) spin-ran ∙ ap (λ js. spin_named js here) loop.table ∙ spin-later began (offers_of loop.done) here)
          ∙ sym (map-append (spin_named began) loop.done (here ∷ []))

      turns-shown : length one.turns ≡ length here.turns
      turns-shown = ap (λ (s : Spin). length s.turns) (one_is ∙ ap (spin_named jobs) spin-ran) ∙ length-map here.turns (turn_named jobs)

      empty-from : (ts : List (PlainTurn ℕ)) → length ts ≡ 0 → is_empty ts ≡ true
      empty-from [] e = refl
      empty-from (t ∷ ts) e = absurd (omega (arith, e))

      some-from : (ts : List (PlainTurn ℕ)) → 0 < length ts → is_empty ts ≡ false
      some-from [] e = absurd (omega (arith, e))
      some-from (t ∷ ts) e = refl

      -- the last spin
      pub spins-all : length one.turns ≡ 0 → cycle_of m ≡ loop.done ++ here ∷ []
      spins-all last = next ∙ ap (λ b. loop.done ++ (here ∷ on b)) (empty-from here.turns (sym turns-shown ∙ last))

      pub spins-list : length one.turns ≡ 0 → later_list ≡ map (spin_named began) (cycle_of m)
      spins-list last = shown-with ∙ ap (map (spin_named began)) (sym (spins-all last))

      pub spins-table : length one.turns ≡ 0 → later ≡ with_offers (offers_of (cycle_of m)) began
      spins-table last = spins-table-with later is ∙ ap (λ ss. with_offers (offers_of ss) began) (sym (spins-all last))

      -- behind a spin that isn't the last fewer jobs wait
      pub spins-fewer : 0 < length one.turns → waiting_count (market_in scene later) [] < waiting_count (market_in scene jobs) []
      spins-fewer some =
          let same : length one.turns ≡ length ran.turns = ap (λ (s : Spin). length s.turns) one_is ∙ length-map ran.turns (turn_named jobs) in
          let count =
          ap (λ js. waiting_count (market_in scene js) []) is
          ∙ shift-count scene.moment (stock_in scene) (settings_of scene.priorities.now) jobs (offers_in ran.turns) in
          subst (λ n. n < waiting_count (market_in scene jobs) []) (sym count)
          (spin-fewer (market_in scene jobs) [] (some-from ran.turns (omega (arith, same, some))))

      -- a spin that isn't the last
      pub spins-more : 0 < length one.turns → (later_failed : List Bool) (after : Counts) → IsReady scene later later_failed
          → ArePaid scene.moment (stock_in scene) (settings_in scene) began later marks later_failed before after
          → SpinsLoop marks before later_list later later_failed after
      spins-more some later_failed after ready paid = record {
        done = loop.done ++ here ∷ [];
        whole =
            next
            ∙ ap (λ b. loop.done ++ (here ∷ on b)) (some-from here.turns (let same = turns-shown in omega (arith, same, some)))
            ∙ sym (append_assoc loop.done (here ∷ []) (cycle_from m (offers_of loop.done ++ offers_in here.turns)))
            ∙ ap (λ l. (loop.done ++ here ∷ []) ++ cycle_from m l) (sym spins-offers-with);
        shown = shown-with;
        table = spins-table-with later is;
        ready = ready;
        paid = paid;
      }
