-- What is left to be counted: a mark or an offer takes away what one search may count.
use Rattle.std.proofs.Common.{◌≡◌, ◌≤◌, ◌<◌, ◌+◌, ◌*◌, ◌==◌, ℕ, zero, suc, Bool, true, false, not, ◌&&◌, cond}
use Rattle.std.proofs.Common.{if◌then◌else◌, List, [], ◌∷◌, filter, length, map, get_or, set, replicate, slice_get, sum_by, Option, None, Some}
use Rattle.std.proofs.Common.{refl, ap, sym, ◌∙◌, subst, arith, zero-le, add-zero, zero-add, mul-add, mul-zero, eq-eqb, ne_eqb, ◌⊎◌, inl, inr}
use Rattle.std.proofs.Common.{get_or-set_same, get_or-set_other}
use Rattle.std.specs.List.{range_with_len}
use Rattle.std.specs.Option.{option_map_or}
use Rattle.std.proofs.lemmas.Bool.{cases_eq}
use Rattle.std.proofs.lemmas.List.Sums.{sum_by-cons, sum_by-le-sum_by}
use Rattle.ad_tree.specs.Ad.{ad_frames}
use Rattle.ad_tree.specs.Frames.{Frame}
use Rattle.ad_tree.specs.declared.request.Port.{Port}
use Rattle.ad_tree.specs.declared.request.Request.{Request}
use Rattle.ad_store.specs.Stock.{Stock}
use Rattle.dock_match.specs.Pool.{Pool}
use Rattle.claim_table.specs.declared.job.Job.{Job}
use Rattle.claim_table.specs.declared.job.Stage.{Stage}
use Rattle.claim_table.specs.Jobs.{with_standing}
use Rattle.claim_table.specs.Priorities.{Setting}
use Rattle.gang_ports.specs.Gangs.{docks_open}
use Rattle.job_clusters.specs.Pools.{pool_for}
use Rattle.negotiator.specs.Budget.{AreLeft, ArePaid, AreWithin, Counts, IsSearched, budget, due, is_due, entries_for, evaluations_by, evaluations_for}
use Rattle.negotiator.specs.Budget.{is_idle_at, is_marked, looks_for, open_by, open_for, over_idle, price_at}
use Rattle.negotiator.specs.Markets.{is_idle}
use Rattle.negotiator.proofs.JobLemmas.{entries-later, evaluations-later, idle-later, later, length-later, requests-later}
use Rattle.negotiator.proofs.SumLemmas.{sum-falls}

-- ---- one term

less : (a b : Bool) (p q : ℕ) → (b ≡ true → a ≡ true) → q ≤ p → (if b then q else 0) ≤ (if a then p else 0)
less a false p q more h = zero-le
less true true p q more h = h
less false true p q more h = let clash : false ≡ true = more refl in absurd (cc)

and-less : (a b m n : Bool) → (b ≡ true → a ≡ true) → (m ≡ true → n ≡ true) → b && not n ≡ true → a && not m ≡ true
and-less a true m true more marked e = absurd (cc)
and-less a false m n more marked e = absurd (cc)
and-less true true false false more marked e = refl
and-less true true true false more marked e = marked refl
and-less false true m false more marked e = let clash : false ≡ true = more refl in absurd (cc)

marked-set : (failed : List Bool) (i k : ℕ) → i < length failed → is_marked failed k ≡ true → is_marked (set failed i true) k ≡ true
marked-set failed i k within h = by (cases_eq k i)
  where
    by : (k ≡ i) ⊎ (k ≡ i → ⊥) → is_marked (set failed i true) k ≡ true
    by (inl e) = subst (λ j. get_or (set failed i true) j false ≡ true) (sym e) (get_or-set_same failed i true false within)
    by (inr ne) = get_or-set_other failed i k true false ne ∙ h

pub idle-within : (jobs : List Job) (i : ℕ) → is_idle_at jobs i ≡ true → i < length jobs
idle-within [] i e = absurd (cc)
idle-within (j ∷ jobs) zero e = omega arith
idle-within (j ∷ jobs) (suc i) e = let rest = idle-within jobs i e in omega (arith, rest)

module _ (price : List Job → Request → ℕ) where
  price-is : (jobs : List Job) (k : ℕ) → price_at price jobs k ≡ option_map_or (price jobs) (slice_get (map (λ (job : Job). job.request) jobs) k) 0
  price-is jobs k = by (price jobs) jobs k
    where
      by : (h : Request → ℕ) (js : List Job) (k : ℕ)
          → option_map_or (λ (job : Job). h job.request) (slice_get js k) 0 ≡ option_map_or h (slice_get (map (λ (job : Job). job.request) js) k) 0
      by h [] k = refl
      by h (j ∷ js) zero = refl
      by h (j ∷ js) (suc k) = by h js k

  pub due-is : (jobs : List Job) (failed : List Bool) (i : ℕ) → is_idle_at jobs i ≡ true → is_marked failed i ≡ false
      → due price jobs failed i ≡ price_at price jobs i
  due-is jobs failed i idle free =
      ap (λ b. if b && not (is_marked failed i) then price_at price jobs i else 0) idle ∙ ap (λ b. if true && not b then price_at price jobs i else 0) free

  -- a mark takes away what was due for its job
  pub mark-pays : (jobs : List Job) (failed : List Bool) (i : ℕ) → i < length jobs → i < length failed
      → budget price jobs (set failed i true) + due price jobs failed i ≤ budget price jobs failed
  mark-pays jobs failed i place within =
      sum-falls (due price jobs failed) (due price jobs (set failed i true)) i (due price jobs failed i)
      (λ k other. less (is_idle_at jobs k && not (is_marked failed k)) (is_idle_at jobs k && not (is_marked (set failed i true) k)) (price_at price jobs k)
      (price_at price jobs k)
      (and-less (is_idle_at jobs k) (is_idle_at jobs k) (is_marked failed k) (is_marked (set failed i true) k) (λ e. e) (marked-set failed i k within))
      (omega arith))
      (let gone =
      gone_at (is_idle_at jobs i) (price_at price jobs i) (is_marked (set failed i true) i) (get_or-set_same failed i true false within) in omega
      (arith, gone))
      0 (length jobs) (omega arith) (omega (arith, place))
    where
      gone_at : (a : Bool) (p : ℕ) (m : Bool) → m ≡ true → (if a && not m then p else 0) ≡ 0
      gone_at true p true e = refl
      gone_at false p m e = refl
      gone_at true p false e = absurd (cc)

  -- an offer takes away what was due for its job
  pub offer-pays : (jobs : List Job) (failed : List Bool) (i : ℕ) (slots : List ℕ) (idle : is_idle_at jobs i ≡ true)
      → ((request : Request) → price (later jobs i slots idle) request ≤ price jobs request)
      → budget price (later jobs i slots idle) failed + due price jobs failed i ≤ budget price jobs failed
  offer-pays jobs failed i slots idle law =
      let falls = sum-falls (due price jobs failed) (due price (later jobs i slots idle) failed) i (due price jobs failed i)
      (λ k other. less (is_idle_at jobs k && not (is_marked failed k)) (is_idle_at (later jobs i slots idle) k && not (is_marked failed k))
      (price_at price jobs k) (price_at price (later jobs i slots idle) k)
      (and-less (is_idle_at jobs k) (is_idle_at (later jobs i slots idle) k) (is_marked failed k) (is_marked failed k)
      (λ e. was_idle (is_idle_at jobs k) (i == k) (sym (idle-later jobs i slots idle k) ∙ e)) (λ e. e)) (price-less k))
      (let gone =
      gone_at (is_idle_at (later jobs i slots idle) i) (price_at price (later jobs i slots idle) i) (is_marked failed i)
      (not_idle (is_idle_at jobs i) (idle-later jobs i slots idle i)) in omega (arith, gone))
      0 (length jobs) (omega arith) (let within = idle-within jobs i idle in omega (arith, within)) in
      let size = ap (λ n. sum_by (due price (later jobs i slots idle) failed) (range_with_len 0 n)) (length-later jobs i slots idle) in
      omega (arith, falls, size)
    where
      was_idle : (a b : Bool) → a && not b ≡ true → a ≡ true
      was_idle true b e = refl
      was_idle false b e = absurd (cc)

      not_idle : (a : Bool) → is_idle_at (later jobs i slots idle) i ≡ (a && not (i == i)) → is_idle_at (later jobs i slots idle) i ≡ false
      not_idle a e = e ∙ ap (λ b. a && not b) (eq-eqb i i refl) ∙ none a
        where
          none : (a : Bool) → a && false ≡ false
          none true = refl
          none false = refl

      gone_at : (a : Bool) (p : ℕ) (m : Bool) → a ≡ false → (if a && not m then p else 0) ≡ 0
      gone_at false p m e = refl
      gone_at true p m e = absurd (cc)

      option-less : (o : Option Request) → option_map_or (price (later jobs i slots idle)) o 0 ≤ option_map_or (price jobs) o 0
      option-less None = omega arith
      option-less (Some r) = law r

      price-less : (k : ℕ) → price_at price (later jobs i slots idle) k ≤ price_at price jobs k
      price-less k =
          let here = price-is (later jobs i slots idle) k in
          let same = ap (λ rs. option_map_or (price (later jobs i slots idle)) (slice_get rs k) 0) (requests-later jobs i slots idle) in
          let fewer = option-less (slice_get (map (λ (job : Job). job.request) jobs) k) in
          let there = price-is jobs k in
          omega (arith, here, same, fewer, there)

  -- what may be counted for one job is within the budget
  pub due-within : (jobs : List Job) (failed : List Bool) (i : ℕ) → i < length jobs → i < length failed
      → due price jobs failed i ≤ budget price jobs failed
  due-within jobs failed i place within = let pays = mark-pays jobs failed i place within in omega (arith, pays)

-- ---- who isn't due

pub left-same : (jobs : List Job) (failed : List Bool) → AreLeft jobs failed jobs failed
left-same jobs failed i none = (none, refl)

pub left-on : (a b c : List Job) (f g h : List Bool) → AreLeft a f b g → AreLeft b g c h → AreLeft a f c h
left-on a b c f g h first second i none = (let one = first i none in let two = second i one.0 in (two.0, two.1 ∙ one.1))

module _ (jobs : List Job) (failed : List Bool) (i : ℕ) (idle : is_idle_at jobs i ≡ true) (free : is_marked failed i ≡ false) where
  -- the job itself is due
  not-it : (k : ℕ) → is_due jobs failed k ≡ false → k ≡ i → ⊥
  not-it k none e =
      let due : is_due jobs failed k ≡ true = ap (is_due jobs failed) e ∙ ap (λ b. b && not (is_marked failed i)) idle ∙ ap not free in
      let clash : false ≡ true = sym none ∙ due in
      cc

  left-marked : AreLeft jobs failed jobs (set failed i true)
  left-marked k none = (ap (λ b. is_idle_at jobs k && not b) (get_or-set_other failed i k true false (not-it k none)) ∙ none, refl)

  left-offered : (slots : List ℕ) → AreLeft jobs failed (later jobs i slots idle) failed
  left-offered slots k none =
      let stays : is_idle_at (later jobs i slots idle) k ≡ is_idle_at jobs k =
      idle-later jobs i slots idle k ∙ by (is_idle_at jobs k) (i == k) (ne_eqb i k (λ e. not-it k none (sym e))) in
      (ap (λ b. b && not (is_marked failed k)) stays ∙ none, stays)
    where
      by : (a b : Bool) → b ≡ false → (a && not b) ≡ a
      by true false e = refl
      by false false e = refl
      by a true e = absurd (cc)

-- ---- the three counts

module _ (moment : ℕ) (stock : Stock) (settings : List Setting) where
  pub paid-none : (jobs : List Job) (failed : List Bool) (counts : Counts) → ArePaid moment stock settings jobs jobs failed failed counts counts
  paid-none jobs failed counts = record { tops = omega arith; entry = omega arith; touch = omega arith; others = left-same jobs failed }

  pub paid-on : (a b c : List Job) (f g h : List Bool) (x y z : Counts) → ArePaid moment stock settings a b f g x y
      → ArePaid moment stock settings b c g h y z → ArePaid moment stock settings a c f h x z
  paid-on a b c f g h x y z p q =
      let p0 = p.tops in let q0 = q.tops in let p1 = p.entry in let q1 = q.entry in let p2 = p.touch in let q2 = q.touch in
      record { tops = omega (arith, p0, q0); entry = omega (arith, p1, q1); touch = omega (arith, p2, q2); others = left-on a b c f g h p.others q.others }

  pub paid-within : (a b : List Job) (f g : List Bool) (x y : Counts) → ArePaid moment stock settings a b f g x y → AreWithin moment stock settings a f x y
  paid-within a b f g x y p =
      let p0 = p.tops in let p1 = p.entry in let p2 = p.touch in record { tops = omega (arith, p0); entry = omega (arith, p1); touch = omega (arith, p2) }

  pub within-none : (jobs : List Job) (failed : List Bool) (counts : Counts) → AreWithin moment stock settings jobs failed counts counts
  within-none jobs failed counts = record { tops = omega arith; entry = omega arith; touch = omega arith }

  pub within-on : (a b : List Job) (f g : List Bool) (x y z : Counts) → ArePaid moment stock settings a b f g x y → AreWithin moment stock settings b g y z
      → AreWithin moment stock settings a f x z
  within-on a b f g x y z p q =
      let p0 = p.tops in let q0 = q.tops in let p1 = p.entry in let q1 = q.entry in let p2 = p.touch in let q2 = q.touch in
      record { tops = omega (arith, p0, q0); entry = omega (arith, p1, q1); touch = omega (arith, p2, q2) }

module _ (moment : ℕ) (stock : Stock) (settings : List Setting) (jobs : List Job) (failed : List Bool) (i : ℕ) (idle : is_idle_at jobs i ≡ true)
    (free : is_marked failed i ≡ false) (within : i < length failed) (before after : Counts)
    (searched : IsSearched moment stock settings jobs i before after) where
  place : i < length jobs
  place = idle-within jobs i idle

  pub search-within : AreWithin moment stock settings jobs failed before after
  search-within =
      let t = searched.tops in let e = searched.entry in let l = searched.touch in
      let dt =
      due-is (evaluations_for moment stock settings) jobs failed i idle free in let wt =
      due-within (evaluations_for moment stock settings) jobs failed i place within in
      let de =
      due-is (entries_for moment stock settings) jobs failed i idle free in let we =
      due-within (entries_for moment stock settings) jobs failed i place within in
      let dl = due-is (looks_for stock) jobs failed i idle free in let wl = due-within (looks_for stock) jobs failed i place within in
      record { tops = omega (arith, t, dt, wt); entry = omega (arith, e, de, we); touch = omega (arith, l, dl, wl) }

  pub fail-paid : ArePaid moment stock settings jobs jobs failed (set failed i true) before after
  fail-paid =
      let t = searched.tops in let e = searched.entry in let l = searched.touch in
      let dt =
      due-is (evaluations_for moment stock settings) jobs failed i idle free in let wt =
      mark-pays (evaluations_for moment stock settings) jobs failed i place within in
      let de =
      due-is (entries_for moment stock settings) jobs failed i idle free in let we =
      mark-pays (entries_for moment stock settings) jobs failed i place within in
      let dl = due-is (looks_for stock) jobs failed i idle free in let wl = mark-pays (looks_for stock) jobs failed i place within in
      record {
        tops =
            omega (arith, t, dt, wt);
        entry = omega (arith, e, de, we);
        touch = omega (arith, l, dl, wl);
        others = left-marked jobs failed i idle free;
      }

  pub offer-paid : (slots : List ℕ) → ArePaid moment stock settings jobs (with_standing jobs i (Stage.Matched slots)) failed failed before after
  offer-paid slots =
      let t = searched.tops in let e = searched.entry in let l = searched.touch in
      let dt =
      due-is (evaluations_for moment stock settings) jobs failed i idle free in let wt =
      offer-pays (evaluations_for moment stock settings) jobs failed i slots idle (evaluations-later jobs i slots idle moment stock settings) in
      let de =
      due-is (entries_for moment stock settings) jobs failed i idle free in let we =
      offer-pays (entries_for moment stock settings) jobs failed i slots idle (entries-later jobs i slots idle moment stock settings) in
      let dl = due-is (looks_for stock) jobs failed i idle free in let wl = offer-pays (looks_for stock) jobs failed i slots idle (λ request. omega arith) in
      record {
        tops =
            omega (arith, t, dt, wt);
        entry = omega (arith, e, de, we);
        touch = omega (arith, l, dl, wl);
        others = left-offered jobs failed i idle free slots;
      }

-- ---- at the start

sum-filter : {A : Type 0} (f : A → ℕ) (p : A → Bool) (xs : List A) → sum_by f (filter p xs) ≡ sum_by (λ x. if p x then f x else 0) xs
sum-filter f p [] = refl
sum-filter f p (x ∷ xs) = by (p x) refl (sum-filter f p xs)
  where
    by : (b : Bool) → p x ≡ b → sum_by f (filter p xs) ≡ sum_by (λ x. if p x then f x else 0) xs
        → sum_by f (cond b (x ∷ filter p xs) (filter p xs)) ≡ sum_by (λ x. if p x then f x else 0) (x ∷ xs)
    by true e rest =
        let head = ap (λ (c : Bool). if c then f x else 0) e in
        omega (arith, head, rest, sum_by-cons f x (filter p xs), sum_by-cons (λ x. if p x then f x else 0) x xs)
    by false e rest =
        let head = ap (λ (c : Bool). if c then f x else 0) e in
        omega (arith, head, rest, sum_by-cons (λ x. if p x then f x else 0) x xs)

-- a sum over the places of a list is the sum over the list
sum-places : {A : Type 0} (f : A → ℕ) (g : ℕ → ℕ) (a : ℕ) (xs : List A) → ((k : ℕ) (x : A) → slice_get xs k ≡ Some x → g (a + k) ≡ f x)
    → sum_by g (range_with_len a (length xs)) ≡ sum_by f xs
sum-places f g a [] each = refl
sum-places f g a (x ∷ xs) each =
    let one : g a ≡ f x = ap g (sym (add-zero a)) ∙ each 0 x refl in
    let rest = sum-places f g (a + 1) xs (λ k y at. let same : a + 1 + k ≡ a + suc k = omega arith in ap g same ∙ each (suc k) y at) in
    omega (arith, one, rest, sum_by-cons g a (range_with_len (a + 1) (length xs)), sum_by-cons f x xs)

pub none-marked : (n k : ℕ) → is_marked (replicate n false) k ≡ false
none-marked zero k = refl
none-marked (suc n) zero = refl
none-marked (suc n) (suc k) = none-marked n k

pub budget-start : (price : List Job → Request → ℕ) (jobs : List Job) (failed : List Bool) → ((k : ℕ) → is_marked failed k ≡ false)
    → budget price jobs failed ≡ over_idle price jobs
budget-start price jobs failed none =
    sum-places (λ (job : Job). if is_idle job.standing then price jobs job.request else 0) (due price jobs failed) 0 jobs
    (λ k job at.
    ap (due price jobs failed) (zero-add k)
    ∙ ap (λ b. if is_idle_at jobs k && not b then price_at price jobs k else 0) (none k)
    ∙ ap (λ o. if option_map_or (λ (job : Job). is_idle job.standing) o false
    && true then option_map_or (λ (job : Job). price jobs job.request) o 0 else 0) at
    ∙ same (is_idle job.standing) (price jobs job.request))
    ∙ sym (sum-filter (λ (job : Job). price jobs job.request) (λ (job : Job). is_idle job.standing) jobs)
  where
    same : (b : Bool) (n : ℕ) → (if b && true then n else 0) ≡ (if b then n else 0)
    same true n = refl
    same false n = refl

sum-times : {A : Type 0} (k : ℕ) (f : A → ℕ) (xs : List A) → sum_by (λ x. k * f x) xs ≡ k * sum_by f xs
sum-times k f [] = sym (mul-zero k)
sum-times k f (x ∷ xs) =
    sum_by-cons (λ x. k * f x) x xs
    ∙ ap (λ n. k * f x + n) (sum-times k f xs)
    ∙ sym (mul-add k (f x) (sum_by f xs))
    ∙ ap (λ n. k * n) (sym (sum_by-cons f x xs))

-- five evaluations are enough for each undecided dock, and nine looks for each ad that a narrowest test leaves
evaluations-five : (pool : Pool) (request : List Frame) (ports : List Port) → evaluations_by pool request ports ≤ 5 * open_by pool request ports
evaluations-five pool request [] = omega arith
evaluations-five pool request (port ∷ ports) = by (docks_open pool request (port ∷ ports))
  where
    by : (n : ℕ) → 3 * n ≤ 5 * n
    by n = omega arith

module _ (moment : ℕ) (stock : Stock) (settings : List Setting) (jobs : List Job) (failed : List Bool) (none : (k : ℕ) → is_marked failed k ≡ false)
    (before after : Counts) (within : AreWithin moment stock settings jobs failed before after) where
  pub evaluations-start : after.tops ≤ before.tops + 5 * over_idle (open_for moment stock settings) jobs
  evaluations-start =
      let rise = within.tops in
      let start = budget-start (evaluations_for moment stock settings) jobs failed none in
      let idle = filter (λ (job : Job). is_idle job.standing) jobs in
      let most =
      sum_by-le-sum_by (λ (job : Job). evaluations_for moment stock settings jobs job.request)
      (λ (job : Job). 5 * open_for moment stock settings jobs job.request) idle
      (λ job. evaluations-five (pool_for moment stock settings jobs) (ad_frames job.request.ad) job.request.ports) in
      let five = sum-times 5 (λ (job : Job). open_for moment stock settings jobs job.request) idle in
      omega (arith, rise, start, most, five)

  pub entries-start : after.entry ≤ before.entry + over_idle (entries_for moment stock settings) jobs
  entries-start = let rise = within.entry in let start = budget-start (entries_for moment stock settings) jobs failed none in omega (arith, rise, start)

  pub looks-start : after.touch ≤ before.touch + over_idle (looks_for stock) jobs
  looks-start = let rise = within.touch in let start = budget-start (looks_for stock) jobs failed none in omega (arith, rise, start)
