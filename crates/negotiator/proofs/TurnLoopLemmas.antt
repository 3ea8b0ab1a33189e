-- A user's turn, job by job, as it runs.
use Rattle.std.proofs.Common.{All, ◌≡◌, ◌≤◌, ◌<◌, ◌+◌, ◌-◌, ℕ, zero, suc, Bool, true, false, not, ◌&&◌, nat_lt, List, []}
use Rattle.std.proofs.Common.{◌∷◌, ◌++◌, filter, length, map, drop, take, get_or, slice_get, bytes_eq, cond, unwrap_or, Option, None, Some, refl, ap}
use Rattle.std.proofs.Common.{sym, ◌∙◌, subst, arith, ◌⊎◌, inl, inr, append_assoc}
use Rattle.std.specs.Prelude.{option_map}
use Rattle.std.specs.List.{AllByRecursion}
use Rattle.std.specs.Option.{option_map_or}
use Rattle.std.proofs.lemmas.Bool.Decides.{nat_tests}
use Rattle.std.proofs.lemmas.List.{append-nil, drop_all, drop_more, get_or-drop, length-drop, length-map, map-append, take-append-drop}
use Rattle.std.proofs.lemmas.List.Elements.{recursion_from_All}
use Rattle.std.proofs.lemmas.Option.{none-some, same_Some}
use Rattle.claim_table.specs.declared.job.Job.{Job}
use Rattle.claim_table.specs.declared.job.Stage.{Stage}
use Rattle.claim_table.specs.Jobs.{wanted, with_standing}
use Rattle.job_clusters.specs.declared.scene.Scene.{Scene}
use Rattle.job_clusters.specs.Scenes.{settings_in, stock_in}
use Rattle.negotiator.specs.declared.answers.Offered.{Offered}
use Rattle.negotiator.specs.declared.queues.Queue.{Queue}
use Rattle.negotiator.specs.Budget.{ArePaid, Counts, is_due, is_idle_at, is_marked}
use Rattle.negotiator.specs.Cycle.{Market, Offer, is_of, is_waiting, places, turn, waits, wants_of}
use Rattle.negotiator.specs.Markets.{IsPart, found, name_at, offer_named, waiting_of, with_offers}
use Rattle.negotiator.specs.Queues.{IsAhead}
use Rattle.negotiator.specs.Scenes.{IsReady, market_in}
use Rattle.claim_table.specs.Settings.{settings_of}
use Rattle.negotiator.proofs.BudgetLemmas.{paid-on}
use Rattle.negotiator.proofs.CycleLemmas.{offer, turn-ends, turn-fails, turn-finds, turn-own, turn-skips, waits-is, within-from}
use Rattle.negotiator.proofs.ShiftLemmas.{idle-all, kept-all, offers-ahead, waiting-is, wants-is}
use Rattle.negotiator.proofs.JobLemmas.{get-map}

-- names stay, so an offer is named as before
pub named-later : (jobs : List Job) (made : List (Offer ℕ)) (o : Offer ℕ) → offer_named (with_offers made jobs) o ≡ offer_named jobs o
named-later jobs made o =
    ap (λ n. let p : Offered = record { job = n; slots = o.resources } in p)
    (name-is (with_offers made jobs) o.job ∙ ap (λ ns. unwrap_or (slice_get ns o.job) []) (kept-all (λ (job : Job). job.name) (λ job s. refl) made jobs)
    ∙ sym (name-is jobs o.job))
  where
    name-is : (js : List Job) (k : ℕ) → name_at js k ≡ unwrap_or (slice_get (map (λ (job : Job). job.name) js) k) []
    name-is [] k = refl
    name-is (j ∷ js) zero = refl
    name-is (j ∷ js) (suc k) = name-is js k

-- what is found, from the answer that names it
pub found-from : (jobs : List Job) (i : ℕ) (o : Option (List ℕ)) (answer : Offered)
    → option_map (λ slots. offer_named jobs (offer i slots)) o ≡ Some answer
    → (o ≡ Some answer.slots) × (answer ≡ offer_named jobs (offer i answer.slots))
found-from jobs i None answer e = absurd (none-some answer e)
found-from jobs i (Some slots) answer e =
    let same = same_Some (offer_named jobs (offer i slots)) answer e in
    let its : slots ≡ answer.slots = ap (λ (a : Offered). a.slots) same in
    (ap Some its, sym same ∙ ap (λ l. offer_named jobs (offer i l)) its)

pub none-from : (jobs : List Job) (i : ℕ) (o : Option (List ℕ)) → option_map (λ slots. offer_named jobs (offer i slots)) o ≡ None → o ≡ None
none-from jobs i None e = refl
none-from jobs i (Some slots) e = absurd (none-some (offer_named jobs (offer i slots)) (sym e))

-- the test of the slice
pub over-slice : (given : Bool) (left wants n : ℕ) → wants ≡ n → given ≡ true → left < wants → (given && nat_lt left n) ≡ true
over-slice given left wants n is e less = ap (λ b. b && nat_lt left n) e ∙ by (omega (arith, is, less))
  where
    by : left < n → nat_lt left n ≡ true
    by h = grind (arith, nat_tests)

pub in-slice : (given : Bool) (left wants n : ℕ) → wants ≡ n → wants ≤ left → (given && nat_lt left n) ≡ false
in-slice given left wants n is fits = ap (λ b. given && b) (by (omega (arith, is, fits))) ∙ none given
  where
    by : n ≤ left → nat_lt left n ≡ false
    by h = grind (arith, nat_tests)

    none : (b : Bool) → b && false ≡ false
    none true = refl
    none false = refl

pub in-slice-either : (given : Bool) (left wants n : ℕ) → wants ≡ n → ((given ≡ true) × (wants ≤ left)) ⊎ (given ≡ false)
    → (given && nat_lt left n) ≡ false
in-slice-either given left wants n is (inl fits) = in-slice given left wants n is fits.1
in-slice-either given left wants n is (inr none_given) = ap (λ b. b && nat_lt left n) none_given

module _ (scene : Scene) (began : List Job) where
  abbrev m : Market ℕ
  m = market_in scene began

  -- before the place of number k, with what is left of the slice, and whether something was given
  pub record TurnLoop (user : List ℕ) (is : List ℕ) (slice : ℕ) (marks : List Bool) (before : Counts) (k left : ℕ) (given : Bool)
      (offers : List Offered) (jobs : List Job) (failed : List Bool) (now : Counts) : Type 0 where
    pub made : List (Offer ℕ)
    pub shown : offers ≡ map (offer_named began) made
    pub table : jobs ≡ with_offers made began
    pub whole : turn m user is slice false [] ≡ made ++ turn m user (drop k is) left given made
    pub ready : IsReady scene jobs failed
    pub paid : ArePaid scene.moment (stock_in scene) (settings_in scene) began jobs marks failed before now

  pub turn-start : (user : List ℕ) (is : List ℕ) (slice : ℕ) (marks : List Bool) (before : Counts) → IsReady scene began marks
      → ArePaid scene.moment (stock_in scene) (settings_in scene) began began marks marks before before
      → TurnLoop user is slice marks before 0 slice false [] began marks before
  turn-start user is slice marks before ready paid = record { made = []; shown = refl; table = refl; whole = refl; ready = ready; paid = paid }

  -- the same under other names
  pub loop-same : {user : List ℕ} {is : List ℕ} {slice : ℕ} {marks : List Bool} {before : Counts} {k left left2 : ℕ} {given given2 : Bool}
      {offers offers2 : List Offered} {jobs jobs2 : List Job} {failed failed2 : List Bool} {now now2 : Counts}
      → TurnLoop user is slice marks before k left given offers jobs failed now
      → left2 ≡ left → given2 ≡ given → offers2 ≡ offers → jobs2 ≡ jobs → failed2 ≡ failed → now2 ≡ now
      → TurnLoop user is slice marks before k left2 given2 offers2 jobs2 failed2 now2
  loop-same loop left_is given_is offers_are jobs_are failed_is now_is =
      rw (left_is, given_is, offers_are, jobs_are, failed_is, now_is) loop

  module _ {user : List ℕ} {is : List ℕ} {slice : ℕ} {marks : List Bool} {before : Counts} {k left : ℕ} {given : Bool} {offers : List Offered}
      {jobs : List Job} {failed : List Bool} {now : Counts}
      (loop : TurnLoop user is slice marks before k left given offers jobs failed now) where
    -- what the answer says, where the turn ends here
    pub ended-offers : turn m user is slice false [] ≡ loop.made → offers ≡ map (offer_named began) (turn m user is slice false [])
    ended-offers done = loop.shown ∙ ap (map (offer_named began)) (sym done)

    pub ended-table : turn m user is slice false [] ≡ loop.made → jobs ≡ with_offers (turn m user is slice false []) began
    ended-table done = loop.table ∙ ap (λ os. with_offers os began) (sym done)

    pub ended-all : length is ≤ k → turn m user is slice false [] ≡ loop.made
    ended-all past = loop.whole ∙ ap (λ l. loop.made ++ turn m user l left given loop.made) (drop_all k is past) ∙ append-nil loop.made

    -- what stays of the jobs
    pub length-here : length jobs ≡ length began
    length-here =
        ap (λ (js : List Job). length js) loop.table
        ∙ sym (length-map (with_offers loop.made began) (λ (job : Job). job.name))
        ∙ ap length (kept-all (λ (job : Job). job.name) (λ job s. refl) loop.made began)
        ∙ length-map began (λ (job : Job). job.name)

    pub wants-here : (i n : ℕ) → option_map (λ (job : Job). wanted job.request) (slice_get jobs i) ≡ Some n → n ≡ wants_of m i
    wants-here i n e =
        sym (wants-is scene.moment (stock_in scene) (settings_of scene.priorities.now) began i
        ∙ ap (λ ns. option_map_or (λ (n : ℕ). n) (slice_get ns i) 0)
        (sym (kept-all (λ (job : Job). wanted job.request) (λ job s. refl) loop.made began)
        ∙ ap (map (λ (job : Job). wanted job.request)) (sym loop.table))
        ∙ ap (λ o. option_map_or (λ (n : ℕ). n) o 0) (get-map (λ (job : Job). wanted job.request) jobs i ∙ e))

    -- want of memory here
    pub stopped : IsPart (turn m user is slice false []) began jobs
    stopped = record { front = loop.made; rest = turn m user (drop k is) left given loop.made; all = loop.whole; made = loop.table }

    module _ (i : ℕ) (within : k < length is) (here : get_or is k 0 ≡ i) (own : is_of m user i ≡ true) where
      next : turn m user (drop k is) left given loop.made ≡ turn m user (i ∷ drop (k + 1) is) left given loop.made
      next = ap (λ l. turn m user l left given loop.made) (drop_more is k 0 within ∙ ap (λ j. j ∷ drop (k + 1) is) here)

      idle-here : waits m user loop.made i ≡ is_idle_at jobs i
      idle-here =
          ap (λ b. b && is_waiting m loop.made i) own
          ∙ waiting-is scene.moment (stock_in scene) (settings_of scene.priorities.now) began loop.made i
          ∙ sym (idle-all loop.made began i)
          ∙ ap (λ js. is_idle_at js i) (sym loop.table)

      pub turn-passes : is_idle_at jobs i ≡ false → TurnLoop user is slice marks before (k + 1) left given offers jobs failed now
      turn-passes busy = record {
        made = loop.made;
        shown = loop.shown;
        table = loop.table;
        whole = loop.whole ∙ ap (λ os. loop.made ++ os) (next ∙ turn-skips m user i (drop (k + 1) is) left given loop.made (idle-here ∙ busy));
        ready = loop.ready;
        paid = loop.paid;
      }

      module _ (idle : is_idle_at jobs i ≡ true) where
        waiting : waits m user loop.made i ≡ true
        waiting = idle-here ∙ idle

        pub turn-stops : (given && nat_lt left (wants_of m i)) ≡ true → turn m user is slice false [] ≡ loop.made
        turn-stops over =
            loop.whole ∙ ap (λ os. loop.made ++ os) (next ∙ turn-ends m user i (drop (k + 1) is) left given loop.made waiting over)
            ∙ append-nil loop.made

        module _ (in_slice : (given && nat_lt left (wants_of m i)) ≡ false) where
          found-here : m.find loop.made i ≡ found scene.moment (stock_in scene) (settings_in scene) jobs i
          found-here = ap (λ js. found scene.moment (stock_in scene) (settings_in scene) js i) (sym loop.table)

          pub turn-none : (later_failed : List Bool) (later : List Job) (after : Counts)
              → found scene.moment (stock_in scene) (settings_in scene) jobs i ≡ None → later ≡ jobs → IsReady scene later later_failed
              → ArePaid scene.moment (stock_in scene) (settings_in scene) began later marks later_failed before after
              → TurnLoop user is slice marks before (k + 1) left given offers later later_failed after
          turn-none later_failed later after none same ready paid = record {
            made = loop.made;
            shown = loop.shown;
            table = same ∙ loop.table;
            whole =
                loop.whole ∙ ap (λ os. loop.made ++ os) (next ∙ turn-fails m user i (drop (k + 1) is) left given loop.made waiting in_slice (found-here
                ∙ none));
            ready = ready;
            paid = paid;
          }

          module _ (slots : List ℕ) (is_found : found scene.moment (stock_in scene) (settings_in scene) jobs i ≡ Some slots) where
            more : turn m user is slice false [] ≡ (loop.made ++ offer i slots ∷ []) ++ turn m user (drop (k + 1) is) (left - wants_of m i) true (loop.made
                ++ offer i slots ∷ [])
            more =
                loop.whole
                ∙ ap (λ os. loop.made ++ os) (next ∙ turn-finds m user i (drop (k + 1) is) left given loop.made slots waiting in_slice (found-here
                ∙ is_found))
                ∙ sym (append_assoc loop.made (offer i slots ∷ []) (turn m user (drop (k + 1) is) (left - wants_of m i) true (loop.made ++ offer i slots
                ∷ [])))

            table-more : (later : List Job) → later ≡ with_standing jobs i (Stage.Matched slots)
                → later ≡ with_offers (loop.made ++ offer i slots ∷ []) began
            table-more later is_later =
                is_later ∙ ap (λ js. with_standing js i (Stage.Matched slots)) loop.table ∙ sym (offers-ahead loop.made (offer i slots ∷ []) began)

            -- want of memory where the offer is made
            pub stopped-behind : (later : List Job) → later ≡ with_standing jobs i (Stage.Matched slots)
                → IsPart (turn m user is slice false []) began later
            stopped-behind later is_later = record {
              front = loop.made ++ offer i slots ∷ [];
              rest = turn m user (drop (k + 1) is) (left - wants_of m i) true (loop.made ++ offer i slots ∷ []);
              all = more;
              made = table-more later is_later;
            }

            pub turn-some : (wants : ℕ) → wants ≡ wants_of m i → (answer : Offered) → answer ≡ offer_named jobs (offer i slots)
                → (later_offers : List Offered) → later_offers ≡ offers ++ answer ∷ []
                → (later_failed : List Bool) (later : List Job) (after : Counts) → later ≡ with_standing jobs i (Stage.Matched slots)
                → IsReady scene later later_failed
                → ArePaid scene.moment (stock_in scene) (settings_in scene) began later marks later_failed before after
                → TurnLoop user is slice marks before (k + 1) (left - wants) true later_offers later later_failed after
            turn-some wants wants_is answer answer_is later_offers pushed later_failed later after is_later ready paid = record {
              made = loop.made ++ offer i slots ∷ [];
              shown =
                  pushed
                  ∙ ap (λ os. os ++ answer ∷ []) loop.shown
                  ∙ ap (λ a. map (offer_named began) loop.made ++ a ∷ [])
                  (answer_is ∙ ap (λ js. offer_named js (offer i slots)) loop.table ∙ named-later began loop.made (offer i slots))
                  ∙ sym (map-append (offer_named began) loop.made (offer i slots ∷ []));
              table = table-more later is_later;
              whole =
                  more ∙ ap (λ w. (loop.made ++ offer i slots ∷ []) ++ turn m user (drop (k + 1) is) (left - w) true (loop.made ++ offer i slots ∷ []))
                  (sym wants_is);
              ready = ready;
              paid = paid;
            }

          -- what the try of the job answers
          module _ (o : Option Offered) (told : o ≡ option_map (λ slots. offer_named jobs (offer i slots)) (found scene.moment (stock_in scene)
              (settings_in scene) jobs i)) (later : List Job)
              (table_is : later ≡ option_map_or (λ slots. with_standing jobs i (Stage.Matched slots)) (found scene.moment (stock_in scene)
              (settings_in scene) jobs i) jobs) where
            table-of : (f : Option (List ℕ)) → found scene.moment (stock_in scene) (settings_in scene) jobs i ≡ f
                → later ≡ option_map_or (λ slots. with_standing jobs i (Stage.Matched slots)) f jobs
            table-of f is = table_is ∙ ap (λ f. option_map_or (λ slots. with_standing jobs i (Stage.Matched slots)) f jobs) is

            pub tried-none : o ≡ None → (later_failed : List Bool) (after : Counts) → IsReady scene later later_failed
                → ArePaid scene.moment (stock_in scene) (settings_in scene) jobs later failed later_failed now after
                → TurnLoop user is slice marks before (k + 1) left given offers later later_failed after
            tried-none is_none later_failed after ready paid =
                let none = none-from jobs i (found scene.moment (stock_in scene) (settings_in scene) jobs i) (sym told ∙ is_none) in
                turn-none later_failed later after none (table-of None none) ready
                (paid-on scene.moment (stock_in scene) (settings_in scene) began jobs later marks failed later_failed before now after loop.paid paid)

            module _ (answer : Offered) (yes : o ≡ Some answer) where
              is_it : (found scene.moment (stock_in scene) (settings_in scene) jobs i ≡ Some answer.slots)
                  × (answer ≡ offer_named jobs (offer i answer.slots))
              is_it = found-from jobs i (found scene.moment (stock_in scene) (settings_in scene) jobs i) answer (sym told ∙ yes)

              -- want of memory behind the offer
              pub tried-stopped : IsPart (turn m user is slice false []) began later
              tried-stopped = stopped-behind answer.slots is_it.0 later (table-of (Some answer.slots) is_it.0)

              pub tried-some : (wants : ℕ) → wants ≡ wants_of m i → (later_offers : List Offered) → later_offers ≡ offers ++ answer ∷ []
                  → (later_left : ℕ) → later_left ≡ left - wants
                  → (later_failed : List Bool) (after : Counts) → IsReady scene later later_failed
                  → ArePaid scene.moment (stock_in scene) (settings_in scene) jobs later failed later_failed now after
                  → TurnLoop user is slice marks before (k + 1) later_left true later_offers later later_failed after
              tried-some wants wants_is later_offers pushed later_left less later_failed after ready paid =
                  subst (λ (n : ℕ). TurnLoop user is slice marks before (k + 1) n true later_offers later later_failed after) (sym less)
                  (turn-some answer.slots is_it.0 wants wants_is answer is_it.1 later_offers pushed later_failed later after
                  (table-of (Some answer.slots) is_it.0) ready
                  (paid-on scene.moment (stock_in scene) (settings_in scene) began jobs later marks failed later_failed before now after loop.paid paid))

  -- a turn does nothing for jobs that aren't due
  turn-passed : (user : List ℕ) (marks : List Bool) → IsReady scene began marks → (front rest : List ℕ) (slice : ℕ)
      → AllByRecursion (λ i. is_due began marks i ≡ false) front
      → turn m user (front ++ rest) slice false [] ≡ turn m user rest slice false []
  turn-passed user marks ready [] rest slice none = refl
  turn-passed user marks ready (i ∷ front) rest slice none = by (waits m user [] i) refl ∙ turn-passed user marks ready front rest slice none.1
    where
      idle : waits m user [] i ≡ true → is_idle_at began i ≡ true
      idle w =
          alone (is_idle_at began i) (sym (waiting-is scene.moment (stock_in scene) (settings_of scene.priorities.now) began [] i)
          ∙ (waits-is m user [] i w).1)
        where
          alone : (b : Bool) → (b && true) ≡ true → b ≡ true
          alone true e = refl
          alone false e = absurd (cc)

      marked : (a b : Bool) → (a && not b) ≡ false → a ≡ true → b ≡ true
      marked a true e idle = refl
      marked true false e idle = absurd (cc)
      marked false false e idle = absurd (cc)

      by : (w : Bool) → waits m user [] i ≡ w → turn m user (i ∷ (front ++ rest)) slice false [] ≡ turn m user (front ++ rest) slice false []
      by false w = turn-skips m user i (front ++ rest) slice false [] w
      by true w = turn-fails m user i (front ++ rest) slice false [] w refl (ready.known i (marked (is_idle_at began i) (is_marked marks i) none.0 (idle w)))

  -- the places of the user's own queue from its head on
  pub record RestOf (user : List ℕ) (marks : List Bool) (is : List ℕ) : Type 0 where
    pub queue : Queue
    pub from : is ≡ drop queue.head queue.places
    pub own : queue.places ≡ filter (is_of m user) (places m.jobs)
    pub ahead : IsAhead began marks queue
    pub ready : IsReady scene began marks

  pub own-turn : (user : List ℕ) (marks : List Bool) (is : List ℕ) (slice : ℕ) → RestOf user marks is
      → turn m user is slice false [] ≡ turn m user (places m.jobs) slice false []
  own-turn user marks is slice rest =
      let q = rest.queue in
      ap (λ l. turn m user l slice false []) rest.from
      ∙ sym (turn-passed user marks rest.ready (take q.head q.places) (drop q.head q.places) slice (recursion_from_All _ _ rest.ahead.passed))
      ∙ ap (λ l. turn m user l slice false []) (take-append-drop q.head q.places ∙ rest.own)
      ∙ turn-own m user (places m.jobs) slice false []

  own-at : (user : List ℕ) (js : List ℕ) (k : ℕ) → k < length (filter (is_of m user) js)
      → is_of m user (get_or (filter (is_of m user) js) k 0) ≡ true
  own-at user [] k within = absurd (omega (arith, within))
  own-at user (j ∷ js) k within = by (is_of m user j) refl k within (own-at user js)
    where
      by : (b : Bool) → is_of m user j ≡ b → (k : ℕ) → k < length (cond b (j ∷ filter (is_of m user) js) (filter (is_of m user) js))
          → ((k : ℕ) → k < length (filter (is_of m user) js) → is_of m user (get_or (filter (is_of m user) js) k 0) ≡ true)
          → is_of m user (get_or (cond b (j ∷ filter (is_of m user) js) (filter (is_of m user) js)) k 0) ≡ true
      by true e zero within rest = e
      by true e (suc k) within rest = rest k (omega (arith, within))
      by false e k within rest = rest k within

  own-all : (user : List ℕ) (is : List ℕ) (k : ℕ) → is ≡ filter (is_of m user) (places m.jobs) → k < length is
      → is_of m user (get_or is k 0) ≡ true
  own-all user is k own within =
      let P : List ℕ → Type 0 = λ l. k < length l → is_of m user (get_or l k 0) ≡ true in
      subst P (sym own) (own-at user (places m.jobs) k) within

  own-job : (user : List ℕ) (i : ℕ) → is_of m user i ≡ true → i < length began
  own-job user i own =
      let there = within-from m (λ job. bytes_eq user job.user) m.jobs i own in
      omega (arith, there, length-map began waiting_of)

  pub own-place : (user : List ℕ) (marks : List Bool) (is : List ℕ) (k : ℕ) → RestOf user marks is → k < length is
      → is_of m user (get_or is k 0) ≡ true
  own-place user marks is k rest within =
      let q = rest.queue in
      let long : length is ≡ length q.places - q.head = ap length rest.from ∙ length-drop q.head q.places in
      let head = rest.ahead.within in
      ap (λ (l : List ℕ). is_of m user (get_or l k 0)) rest.from
      ∙ ap (is_of m user) (get_or-drop q.head q.places k 0)
      ∙ own-all user q.places (q.head + k) rest.own (omega (arith, long, within, head))

  pub own-within : (user : List ℕ) (marks : List Bool) (is : List ℕ) (k : ℕ) → RestOf user marks is → k < length is → get_or is k 0 < length began
  own-within user marks is k rest within = own-job user (get_or is k 0) (own-place user marks is k rest within)

  -- of a whole queue
  pub all-within : (user : List ℕ) (is : List ℕ) → is ≡ filter (is_of m user) (places m.jobs) → All (λ i. i < length began) is
  all-within user is own k d within = own-job user (get_or is k d) (subst (λ j. is_of m user j ≡ true) (same is k within) (own-all user is k own within))
    where
      same : (xs : List ℕ) (k : ℕ) → k < length xs → get_or xs k 0 ≡ get_or xs k d
      same [] k within = absurd (omega (arith, within))
      same (x ∷ xs) zero within = refl
      same (x ∷ xs) (suc k) within = same xs k (omega (arith, within))
