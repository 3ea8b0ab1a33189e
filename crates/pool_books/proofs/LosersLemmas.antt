-- Who loses resources to a claim: the jobs that are made idle, by numbers and by names.
use Rattle.std.proofs.Common.{◌≡◌, ℕ, zero, suc, Bool, true, false, ◌||◌, cond, eqb, List, [], ◌∷◌, ◌++◌, fold, map, slice_get, slice_set, Option, None, Some}
use Rattle.std.proofs.Common.{option_map, bytes_eq, refl, sym, ◌∙◌, ap, arith}
use Rattle.std.specs.Prelude.{flat_map}
use Rattle.std.specs.List.{list_all, list_any}
use Rattle.std.specs.Option.{option_and_then, option_map_or, option_to_list}
use Rattle.std.specs.Cmp.Lexicographic.{bytes_decides}
use Rattle.std.proofs.lemmas.Bool.Decides.{nat_tests}
use Rattle.std.proofs.lemmas.List.{append-nil, map-append}
use Rattle.ad_store.specs.Stock.{Stock}
use Rattle.ad_store.proofs.HeldLemmas.{both}
use Rattle.claim_table.specs.Answers.{freed_at, freed_of}
use Rattle.claim_table.specs.Jobs.{AreExclusive, AreNamedApart, claim_of, claimed_by as claimer, idle_at, lists, numbered, slots_of}
use Rattle.claim_table.specs.declared.answers.Freed.{Freed}
use Rattle.claim_table.specs.declared.job.Job.{Job}
use Rattle.claim_table.specs.declared.job.Stage.{Stage}
use Rattle.claim_table.specs.Claims as claims
use Rattle.pool_books.specs.Books.{name_in, named_standing, queued}
use Rattle.pool_books.specs.Claiming as seen
use Rattle.pool_books.specs.Queue.{claim_names, claimed_by, is_listed}
use Rattle.pool_books.specs.State.{QueuedJob, idle}
use Rattle.pool_books.specs.Stored.{are_stored, is_stored}
use Rattle.pool_books.proofs.DockLemmas.{claimed-found}
use Rattle.pool_books.proofs.JobLemmas.{found-first}
use Rattle.pool_books.proofs.NameLemmas.{AreBeside, Named, beside-is, listed-named, name_there, named_beside, same_truth}
use Rattle.pool_books.proofs.QueueLemmas.{idle_job, idle_where, map-map, map-same, map-where}

-- ---- jobs that are made idle one after another

-- the job at a place made idle, by recursion
abbrev idle_nth : ℕ → List Job → List Job
idle_nth i [] = []
idle_nth zero (x ∷ xs) = idle_job x ∷ xs
idle_nth (suc i) (x ∷ xs) = x ∷ idle_nth i xs

idle-nth : (i : ℕ) (jobs : List Job) → idle_at (Some i) jobs ≡ idle_nth i jobs
idle-nth i [] = refl
idle-nth zero (x ∷ xs) = refl
idle-nth (suc i) (x ∷ xs) = by (slice_get xs i) ∙ ap (λ l. x ∷ l) (idle-nth i xs)
  where
    by : (o : Option Job)
        → option_map_or (λ job. slice_set (x ∷ xs) (suc i) (idle_job job)) o (x ∷ xs) ≡ x ∷ option_map_or (λ job. slice_set xs i (idle_job job)) o xs
    by None = refl
    by (Some job) = refl

nth-twice : (i : ℕ) (jobs : List Job) → idle_nth i (idle_nth i jobs) ≡ idle_nth i jobs
nth-twice i [] = refl
nth-twice zero (x ∷ xs) = refl
nth-twice (suc i) (x ∷ xs) = ap (λ l. x ∷ l) (nth-twice i xs)

nth-swapped : (i k : ℕ) (jobs : List Job) → idle_nth i (idle_nth k jobs) ≡ idle_nth k (idle_nth i jobs)
nth-swapped i k [] = refl
nth-swapped zero zero (x ∷ xs) = refl
nth-swapped zero (suc k) (x ∷ xs) = refl
nth-swapped (suc i) zero (x ∷ xs) = refl
nth-swapped (suc i) (suc k) (x ∷ xs) = ap (λ l. x ∷ l) (nth-swapped i k xs)

idle-twice : (i : ℕ) (jobs : List Job) → idle_at (Some i) (idle_at (Some i) jobs) ≡ idle_at (Some i) jobs
idle-twice i jobs = idle-nth i (idle_at (Some i) jobs) ∙ ap (idle_nth i) (idle-nth i jobs) ∙ nth-twice i jobs ∙ sym (idle-nth i jobs)

idle-swapped : (i k : ℕ) (jobs : List Job) → idle_at (Some i) (idle_at (Some k) jobs) ≡ idle_at (Some k) (idle_at (Some i) jobs)
idle-swapped i k jobs =
    idle-nth i (idle_at (Some k) jobs) ∙ ap (idle_nth i) (idle-nth k jobs) ∙ nth-swapped i k jobs
    ∙ sym (idle-nth k (idle_at (Some i) jobs) ∙ ap (idle_nth k) (idle-nth i jobs))

idle-among : (i : ℕ) (ks : List ℕ) (jobs : List Job) → idle_at (Some i) (claims.all_idle jobs ks) ≡ claims.all_idle (idle_at (Some i) jobs) ks
idle-among i [] jobs = refl
idle-among i (k ∷ ks) jobs = idle-among i ks (idle_at (Some k) jobs) ∙ ap (λ js. claims.all_idle js ks) (idle-swapped i k jobs)

-- one that is among them is idle already
idle-already : (i : ℕ) (ks : List ℕ) (jobs : List Job) → lists ks i ≡ true → claims.all_idle jobs ks ≡ idle_at (Some i) (claims.all_idle jobs ks)
idle-already i [] jobs listed = absurd (cc)
idle-already i (k ∷ ks) jobs listed = by (eqb k i) refl listed (λ later. idle-already i ks (idle_at (Some k) jobs) later)
  where
    by : (b : Bool) → eqb k i ≡ b → (b || lists ks i) ≡ true
        → (lists ks i ≡ true → claims.all_idle (idle_at (Some k) jobs) ks ≡ idle_at (Some i) (claims.all_idle (idle_at (Some k) jobs) ks))
        → claims.all_idle (idle_at (Some k) jobs) ks ≡ idle_at (Some i) (claims.all_idle (idle_at (Some k) jobs) ks)
    by true is l rest =
        let same : k ≡ i = grind (arith, nat_tests) in
        sym (idle-among i ks (idle_at (Some k) jobs) ∙ ap (λ js. claims.all_idle js ks) (ap (λ n. idle_at (Some i) (idle_at (Some n) jobs)) same
        ∙ idle-twice i jobs ∙ ap (λ n. idle_at (Some n) jobs) (sym same)))
    by false is l rest = rest l

idle-last : (i : ℕ) (ks : List ℕ) (jobs : List Job) → claims.all_idle jobs (ks ++ i ∷ []) ≡ idle_at (Some i) (claims.all_idle jobs ks)
idle-last i [] jobs = refl
idle-last i (k ∷ ks) jobs = idle-last i ks (idle_at (Some k) jobs)

idle-once : (jobs : List Job) (ks : List ℕ) (o : Option ℕ) → claims.all_idle jobs (claims.once ks o) ≡ idle_at o (claims.all_idle jobs ks)
idle-once jobs ks None = refl
idle-once jobs ks (Some i) = by (lists ks i) refl
  where
    by : (b : Bool) → lists ks i ≡ b → claims.all_idle jobs (cond b ks (ks ++ i ∷ [])) ≡ idle_at (Some i) (claims.all_idle jobs ks)
    by true is = idle-already i ks jobs is
    by false is = idle-last i ks jobs

-- ---- the jobs that have claimed one of the slots

abbrev claims_one : List ℕ → Job → Bool
claims_one slots job = list_any (λ slot. lists (claim_of job.standing) slot) slots

abbrev idle_if : Bool → Job → Job
idle_if b job = cond b (idle_job job) job

idle-either : (a b : Bool) (job : Job) → cond b (idle_job (idle_if a job)) (idle_if a job) ≡ idle_if (a || b) job
idle-either true true job = refl
idle-either true false job = refl
idle-either false true job = refl
idle-either false false job = refl

or-again : (a b c : Bool) → ((a || b) || c) ≡ (a || (b || c))
or-again true b c = refl
or-again false b c = refl

or-nothing : (a : Bool) → (a || false) ≡ a
or-nothing true = refl
or-nothing false = refl

every : (jobs : List Job) → list_all (λ job. true) jobs ≡ true
every [] = refl
every (x ∷ xs) = every xs

map-alike : {B : Type 0} (f g : Job → B) (jobs : List Job) → ((job : Job) → f job ≡ g job) → map f jobs ≡ map g jobs
map-alike f g jobs same = map-where (λ job. true) f g jobs (every jobs) (λ job any. same job)

module _ (jobs : List Job) (exclusive : AreExclusive claim_of jobs) where
  -- each of the first so many is idle
  idle-gathered : (slots ks : List ℕ) (so_far : Job → Bool) → claims.all_idle jobs ks ≡ map (λ job. idle_if (so_far job) job) jobs
      → claims.all_idle jobs (fold (λ numbers slot. claims.once numbers (claimer slot jobs)) ks slots)
      ≡ map (λ job. idle_if (so_far job || claims_one slots job) job) jobs
  idle-gathered [] ks so_far is =
      is ∙ map-alike (λ job. idle_if (so_far job) job) (λ job. idle_if (so_far job || false) job) jobs
      (λ job. ap (λ b. idle_if b job) (sym (or-nothing (so_far job))))
  idle-gathered (slot ∷ slots) ks so_far is =
      idle-gathered slots (claims.once ks (claimer slot jobs)) (λ job. so_far job || lists (claim_of job.standing) slot)
      (idle-once jobs ks (claimer slot jobs) ∙ ap (idle_at (claimer slot jobs)) is
      ∙ idle_where (λ job. lists (claim_of job.standing) slot) (λ job. idle_if (so_far job) job) jobs
      (λ i j a b at_i at_j first second. exclusive slot i j a b at_i at_j first second)
      ∙ map-alike (λ job. cond (lists (claim_of job.standing) slot) (idle_job (idle_if (so_far job) job)) (idle_if (so_far job) job))
      (λ job. idle_if (so_far job || lists (claim_of job.standing) slot) job) jobs
      (λ job. idle-either (so_far job) (lists (claim_of job.standing) slot) job))
      ∙ map-alike (λ job. idle_if ((so_far job || lists (claim_of job.standing) slot) || claims_one slots job) job)
      (λ job. idle_if (so_far job || claims_one (slot ∷ slots) job) job) jobs
      (λ job. ap (λ b. idle_if b job) (or-again (so_far job) (lists (claim_of job.standing) slot) (claims_one slots job)))

  pub idle-each : (slots : List ℕ) → claims.all_idle jobs (claims.losers jobs slots) ≡ map (λ job. idle_if (claims_one slots job) job) jobs
  idle-each slots = idle-gathered slots [] (λ job. false) (sym (map-same jobs))

-- ---- by names

any-none : {A : Type 0} (xs : List A) → list_any (λ x. false) xs ≡ false
any-none [] = refl
any-none (x ∷ xs) = any-none xs

or-crossed : (a b c d : Bool) → ((a || b) || (c || d)) ≡ ((a || c) || (b || d))
or-crossed true b c d = refl
or-crossed false true true d = refl
or-crossed false true false d = refl
or-crossed false false c d = refl

any-or : {A : Type 0} (p q : A → Bool) (xs : List A) → (list_any p xs || list_any q xs) ≡ list_any (λ x. p x || q x) xs
any-or p q [] = refl
any-or p q (x ∷ xs) = or-crossed (p x) (list_any p xs) (q x) (list_any q xs) ∙ ap (λ b. (p x || q x) || b) (any-or p q xs)

any-swapped : {A B : Type 0} (r : A → B → Bool) (xs : List A) (ys : List B) → list_any (λ x. list_any (r x) ys) xs ≡ list_any (λ y. list_any (λ x. r x y) xs) ys
any-swapped r [] ys = sym (any-none ys)
any-swapped r (x ∷ xs) ys = ap (λ b. list_any (r x) ys || b) (any-swapped r xs ys) ∙ any-or (r x) (λ y. list_any (λ z. r z y) xs) ys

-- tests that say the same of what is kept
any-where : {A : Type 0} (kept p q : A → Bool) (xs : List A) → list_all kept xs ≡ true → ((x : A) → kept x ≡ true → p x ≡ q x) → list_any p xs ≡ list_any q xs
any-where kept p q [] all same = refl
any-where kept p q (x ∷ xs) all same =
    let parts = both (kept x) (list_all kept xs) all in
    ap (λ b. b || list_any p xs) (same x parts.0) ∙ ap (λ b. q x || b) (any-where kept p q xs parts.1 same)

any-mapped : {A B : Type 0} (test : B → Bool) (f : A → B) (xs : List A) → list_any test (map f xs) ≡ list_any (λ x. test (f x)) xs
any-mapped test f [] = refl
any-mapped test f (x ∷ xs) = ap (λ b. test (f x) || b) (any-mapped test f xs)

numbers-turned : (slots : List ℕ) (c : ℕ) → list_any (λ s. eqb c s) slots ≡ lists slots c
numbers-turned [] c = refl
numbers-turned (s ∷ slots) c =
    let turned : eqb c s ≡ eqb s c = grind (arith, nat_tests) in
    ap (λ b. b || list_any (λ t. eqb c t) slots) turned ∙ ap (λ b. eqb s c || b) (numbers-turned slots c)

module _ (stock : Stock) (beside : AreBeside stock.ads stock.slots) (slots : List ℕ) (listed : list_all (lists stock.slots) slots ≡ true) where
  -- a name of the store is among the names of the slots exactly where its slot is among them
  name-among : (c : ℕ) → lists stock.slots c ≡ true → is_listed (name_in stock c) (map (name_in stock) slots) ≡ lists slots c
  name-among c there_is =
      ap (λ name. is_listed name (map (name_in stock) slots)) (beside-is stock.ads stock.slots c ∙ sym there.called)
      ∙ listed-named stock.ads stock.slots beside there.place there.advert c there.at there.slot_at slots listed
    where
      there : Named stock.ads stock.slots c (named_beside stock.ads stock.slots c)
      there = name_there stock.ads stock.slots c beside.long there_is

  holds-slots : (own : List ℕ) → list_all (lists stock.slots) own ≡ true
      → list_any (λ name. is_listed name (map (name_in stock) slots)) (map (name_in stock) own) ≡ list_any (λ slot. lists own slot) slots
  holds-slots own held =
      any-mapped (λ name. is_listed name (map (name_in stock) slots)) (name_in stock) own
      ∙ any-where (lists stock.slots) (λ c. is_listed (name_in stock c) (map (name_in stock) slots)) (λ c. list_any (λ s. eqb c s) slots) own held
      (λ c there. name-among c there ∙ sym (numbers-turned slots c))
      ∙ sym (any-swapped (λ s c. eqb c s) slots own)

  holds-seen : (standing : Stage) → list_all (lists stock.slots) (slots_of standing) ≡ true
      → list_any (λ name. is_listed name (map (name_in stock) slots)) (claim_names (named_standing stock standing))
      ≡ list_any (λ slot. lists (claim_of standing) slot) slots
  holds-seen Stage.Idle held = sym (any-none slots)
  holds-seen (Stage.Matched own) held = sym (any-none slots)
  holds-seen (Stage.Claimed own) held = holds-slots own held

  one-idle : (job : Job) → is_stored stock.slots job ≡ true
      → queued stock (idle_if (claims_one slots job) job)
      ≡ cond (seen.holds_one (map (name_in stock) slots) (queued stock job)) (record (queued stock job) { standing = idle }) (queued stock job)
  one-idle job held =
      by (claims_one slots job)
      ∙ sym (ap (λ b. cond b (record (queued stock job) { standing = idle }) (queued stock job)) (holds-seen job.standing held))
    where
      by : (b : Bool) → queued stock (idle_if b job) ≡ cond b (record (queued stock job) { standing = idle }) (queued stock job)
      by true = refl
      by false = refl

  -- the jobs once the losers are idle
  pub idle-seen : (jobs : List Job) → AreExclusive claim_of jobs → are_stored stock.slots jobs ≡ true
      → map (queued stock) (claims.all_idle jobs (claims.losers jobs slots)) ≡ seen.without_holders (map (name_in stock) slots) (map (queued stock) jobs)
  idle-seen jobs exclusive stored =
      ap (map (queued stock)) (idle-each jobs exclusive slots)
      ∙ map-map (queued stock) (λ job. idle_if (claims_one slots job) job) jobs
      ∙ map-where (is_stored stock.slots) (λ job. queued stock (idle_if (claims_one slots job) job))
      (λ job. cond (seen.holds_one (map (name_in stock) slots) (queued stock job)) (record (queued stock job) { standing = idle }) (queued stock job)) jobs
      stored one-idle
      ∙ sym (map-map (λ (job : QueuedJob). cond (seen.holds_one (map (name_in stock) slots) job) (record job { standing = idle }) job) (queued stock) jobs)

-- ---- the losers, told by their names

abbrev name_of_one : ℕ → List Job → List (List ℕ)
name_of_one i jobs = option_to_list (option_map (λ (job : Job). job.name) (slice_get jobs i))

-- the names of the jobs of some numbers
abbrev told : List Job → List ℕ → List (List ℕ)
told jobs [] = []
told jobs (i ∷ is) = name_of_one i jobs ++ told jobs is

told-freed : (jobs : List Job) (is : List ℕ) → map (λ (one : Freed). one.job) (claims.freed_all jobs is) ≡ told jobs is
told-freed jobs [] = refl
told-freed jobs (i ∷ is) =
    map-append (λ (one : Freed). one.job) (freed_at (Some i) jobs) (flat_map (λ k. freed_at (Some k) jobs) is)
    ∙ ap (λ l. l ++ map (λ (one : Freed). one.job) (flat_map (λ k. freed_at (Some k) jobs) is)) (by (slice_get jobs i))
    ∙ ap (λ l. name_of_one i jobs ++ l) (told-freed jobs is)
  where
    by : (o : Option Job) → map (λ (one : Freed). one.job) (option_to_list (option_map freed_of o)) ≡ option_to_list (option_map (λ (job : Job). job.name) o)
    by None = refl
    by (Some job) = refl

told-last : (jobs : List Job) (i : ℕ) (is : List ℕ) → told jobs (is ++ i ∷ []) ≡ told jobs is ++ name_of_one i jobs
told-last jobs i [] = append-nil (name_of_one i jobs)
told-last jobs i (k ∷ is) =
    ap (λ l. name_of_one k jobs ++ l) (told-last jobs i is) ∙ sym (append-again (name_of_one k jobs) (told jobs is) (name_of_one i jobs))
  where
    append-again : (xs ys zs : List (List ℕ)) → (xs ++ ys) ++ zs ≡ xs ++ (ys ++ zs)
    append-again [] ys zs = refl
    append-again (x ∷ xs) ys zs = ap (λ l. x ∷ l) (append-again xs ys zs)

any-append : {A : Type 0} (p : A → Bool) (xs ys : List A) → list_any p (xs ++ ys) ≡ (list_any p xs || list_any p ys)
any-append p [] ys = refl
any-append p (x ∷ xs) ys = ap (λ b. p x || b) (any-append p xs ys) ∙ sym (or-again (p x) (list_any p xs) (list_any p ys))

module _ (jobs : List Job) (apart : AreNamedApart jobs) (i : ℕ) (job : Job) (at : slice_get jobs i ≡ Some job) where
  -- a name is that of the job exactly where its number is
  one-told : (k : ℕ) → is_listed job.name (name_of_one k jobs) ≡ eqb k i
  one-told k = by (slice_get jobs k) refl
    where
      clash : slice_get jobs k ≡ None → (b : Bool) → eqb k i ≡ b → b ≡ false
      clash none true is =
          let same : k ≡ i = grind (arith, nat_tests) in
          let gone : ◌≡◌ {A = Option Job} (Some job) None = sym at ∙ ap (slice_get jobs) (sym same) ∙ none in
          absurd (cc)
      clash none false is = refl

      by : (o : Option Job) → slice_get jobs k ≡ o → is_listed job.name (option_to_list (option_map (λ (j : Job). j.name) o)) ≡ eqb k i
      by None none = sym (clash none (eqb k i) refl)
      by (Some other) there =
          or-nothing (bytes_eq job.name other.name) ∙ same_truth (bytes_eq job.name other.name) (eqb k i) (λ named. number named) (λ same. name same)
        where
          number : bytes_eq job.name other.name ≡ true → eqb k i ≡ true
          number named =
              let called : job.name ≡ other.name = (bytes_decides job.name other.name).0 named in
              let one : ◌≡◌ {A = Option ℕ} (Some k) (Some i) = sym (apart k other there) ∙ ap (λ n. numbered n jobs) (sym called) ∙ apart i job at in
              let same : k ≡ i = cc in
              grind (arith, nat_tests)

          name : eqb k i ≡ true → bytes_eq job.name other.name ≡ true
          name is =
              let same : k ≡ i = grind (arith, nat_tests) in
              let here : ◌≡◌ {A = Option Job} (Some other) (Some job) = sym there ∙ ap (slice_get jobs) same ∙ at in
              let one : other ≡ job = cc in
              (bytes_decides job.name other.name).1 (ap (λ (j : Job). j.name) (sym one))

  all-told : (is : List ℕ) → is_listed job.name (told jobs is) ≡ lists is i
  all-told [] = refl
  all-told (k ∷ is) =
      any-append (bytes_eq job.name) (name_of_one k jobs) (told jobs is)
      ∙ ap (λ b. b || is_listed job.name (told jobs is)) (one-told k) ∙ ap (λ b. eqb k i || b) (all-told is)

  once-told : (is : List ℕ) → told jobs (claims.once is (Some i)) ≡ cond (is_listed job.name (told jobs is)) (told jobs is) (told jobs is ++ job.name ∷ [])
  once-told is = by (lists is i) ∙ sym (ap (λ b. cond b (told jobs is) (told jobs is ++ job.name ∷ [])) (all-told is))
    where
      by : (b : Bool) → told jobs (cond b is (is ++ i ∷ [])) ≡ cond b (told jobs is) (told jobs is ++ job.name ∷ [])
      by true = refl
      by false = told-last jobs i is ∙ ap (λ o. told jobs is ++ option_to_list (option_map (λ (j : Job). j.name) o)) at

module _ (stock : Stock) (beside : AreBeside stock.ads stock.slots) (jobs : List Job) (apart : AreNamedApart jobs)
    (stored : are_stored stock.slots jobs ≡ true) where
  found-told : (is : List ℕ) (o : Option ℕ)
      → told jobs (claims.once is o) ≡ seen.once (told jobs is) (option_map (queued stock) (option_and_then (λ i. slice_get jobs i) o))
  found-told is None = refl
  found-told is (Some i) = by (slice_get jobs i) refl
    where
      nobody : slice_get jobs i ≡ None → (b : Bool) → told jobs (cond b is (is ++ i ∷ [])) ≡ told jobs is
      nobody none true = refl
      nobody none false = told-last jobs i is ∙ ap (λ o. told jobs is ++ option_to_list (option_map (λ (j : Job). j.name) o)) none ∙ append-nil (told jobs is)

      by : (o : Option Job) → slice_get jobs i ≡ o → told jobs (claims.once is (Some i)) ≡ seen.once (told jobs is) (option_map (queued stock) o)
      by None none = nobody none (lists is i)
      by (Some job) at = once-told jobs apart i job at is

  -- who has claimed the resource of a name
  claimed-named : (slot : ℕ) → lists stock.slots slot ≡ true
      → claimed_by (name_in stock slot) (map (queued stock) jobs) ≡ option_map (queued stock) (option_and_then (λ i. slice_get jobs i) (claimer slot jobs))
  claimed-named slot listed =
      ap (λ name. claimed_by name (map (queued stock) jobs)) (beside-is stock.ads stock.slots slot ∙ sym there.called)
      ∙ claimed-found stock beside there.place there.advert slot there.at there.slot_at jobs stored
      ∙ ap (option_map (queued stock)) (sym (found-first (λ (job : Job). lists (claim_of job.standing) slot) jobs))
    where
      there : Named stock.ads stock.slots slot (named_beside stock.ads stock.slots slot)
      there = name_there stock.ads stock.slots slot beside.long listed

  losers-gathered : (slots is : List ℕ) → list_all (lists stock.slots) slots ≡ true
      → told jobs (fold (λ numbers slot. claims.once numbers (claimer slot jobs)) is slots)
      ≡ fold (λ sofar name. seen.once sofar (claimed_by name (map (queued stock) jobs))) (told jobs is) (map (name_in stock) slots)
  losers-gathered [] is listed = refl
  losers-gathered (slot ∷ slots) is listed =
      let parts = both (lists stock.slots slot) (list_all (lists stock.slots) slots) listed in
      losers-gathered slots (claims.once is (claimer slot jobs)) parts.1
      ∙ ap (λ names. fold (λ sofar name. seen.once sofar (claimed_by name (map (queued stock) jobs))) names (map (name_in stock) slots))
      (found-told is (claimer slot jobs) ∙ ap (seen.once (told jobs is)) (sym (claimed-named slot parts.0)))

  pub losers-seen : (slots : List ℕ) → list_all (lists stock.slots) slots ≡ true
      → map (λ (one : Freed). one.job) (claims.freed_all jobs (claims.losers jobs slots)) ≡ seen.losers (map (queued stock) jobs) (map (name_in stock) slots)
  losers-seen slots listed = told-freed jobs (claims.losers jobs slots) ∙ losers-gathered slots [] listed
