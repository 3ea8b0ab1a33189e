-- The jobs that lose their resources, by slots and by names, and what is told of them.
use Rattle.std.proofs.Common.{◌≡◌, ℕ, zero, suc, ◌+◌, ◌<◌, All, Bool, true, false, ◌||◌, cond, List, [], ◌∷◌, ◌++◌, codes, length, map, position, slice_get}
use Rattle.std.proofs.Common.{take, Contains, Option, None, Some, option_map, IfSome, refl, sym, ◌∙◌, ap, arith}
use Rattle.std.specs.List.{list_all, list_any}
use Rattle.std.specs.Option.{option_and_then, option_map_or}
use Rattle.std.proofs.lemmas.List.{map-append}
use Rattle.std.proofs.lemmas.List.Elements.{All-push}
use Rattle.std.proofs.lemmas.List.Folds.{list_any-append}
use Rattle.std.proofs.lemmas.List.Sums.{fold-append}
use Rattle.std.proofs.lemmas.Option.{slice_get-map}
use Rattle.ad_store.specs.Stock.{Advert, Stock}
use Rattle.ad_store.proofs.HeldLemmas.{both}
use Rattle.claim_table.specs.declared.job.Job.{Job}
use Rattle.claim_table.specs.Claims.{once}
use Rattle.claim_table.specs.Jobs.{AreNamedApart, claim_of, claimed_by as claimer, job_named as job_numbered, lists, numbered, offer_of, offered_to as offeree}
use Rattle.claim_table.specs.Jobs.{slots_of}
use Rattle.claim_table.proofs.ListLemmas.{position-map}
use Rattle.pool_books.specs.Books.{name_in, named_standing, queued}
use Rattle.pool_books.specs.ClaimAnswers.{names_given}
use Rattle.pool_books.specs.Claiming.{job_named}
use Rattle.pool_books.specs.Queue.{claim_names, is_job, is_listed, names_of, offer_names}
use Rattle.pool_books.specs.State.{QueuedJob}
use Rattle.pool_books.specs.Stored.{are_stored, is_stored}
use Rattle.pool_books.proofs.ClaimLemmas.{given-seen}
use Rattle.pool_books.proofs.JobLemmas.{found-first}
use Rattle.pool_books.proofs.NameLemmas.{AreBeside, Named, beside-is, name_there, named_beside}
use Rattle.pool_books.proofs.QueueLemmas.{names-mapped, position-cons}
use Rattle.pool_books.proofs.SlotLemmas.{contains-lists, position-at}
use Rattle.pool_commands.proofs.JobLemmas.{claim_seen, offer_seen}
use Rattle.pool_state.specs.Notices.{about, about_job, claimed_at, granted_to, had_by, holders, loss, loss_at, loss_of, losses, offered_at}
use Rattle.pool_state.specs.declared.posting.Notice.{Notice}
use Rattle.pool_state.proofs.PostingLemmas.{take-next}

-- ---- a search from the front

pub none-more : {A : Type 0} (test : A → Bool) (xs : List A) (i : ℕ) (x : A) → slice_get xs i ≡ Some x → test x ≡ false → list_any test (take i xs) ≡ false
    → list_any test (take (i + 1) xs) ≡ false
none-more test xs i x at isnt none =
    ap (list_any test) (take-next xs i x at) ∙ list_any-append test (take i xs) (x ∷ []) ∙ ap (λ b. b || (test x || false)) none ∙ ap (λ b. b || false) isnt

pub some-there : {A : Type 0} (test : A → Bool) (xs : List A) (i : ℕ) (x : A) → slice_get xs i ≡ Some x → test x ≡ true → list_any test xs ≡ true
some-there test [] i x at is = absurd (cc)
some-there test (y ∷ ys) zero x at is = let same : y ≡ x = cc in ap (λ b. b || list_any test ys) (ap test same ∙ is)
some-there test (y ∷ ys) (suc i) x at is = by (test y) (some-there test ys i x at is)
  where
    by : (b : Bool) → list_any test ys ≡ true → (b || list_any test ys) ≡ true
    by true rest = refl
    by false rest = rest

place-where : {A : Type 0} (p f g : A → Bool) (xs : List A) → list_all p xs ≡ true → ((x : A) → p x ≡ true → f x ≡ g x) → position f xs ≡ position g xs
place-where p f g [] all same = refl
place-where p f g (x ∷ xs) all same =
    let parts = both (p x) (list_all p xs) all in
    position-cons f x xs ∙ ap (λ b. cond b (Some 0) (option_map suc (position f xs))) (same x parts.0)
    ∙ ap (λ o. cond (g x) (Some 0) (option_map suc o)) (place-where p f g xs parts.1 same) ∙ sym (position-cons g x xs)

-- ---- the job at a place

-- a job with this name and user
pub record Asked (o : Option Job) (name user : List ℕ) : Type 0 where
  pub job : Job
  pub at : o ≡ Some job
  pub called : job.name ≡ name
  pub owned : job.user ≡ user

pub asked : (o : Option Job) (name user : List ℕ) → option_map (λ job. job.name) o ≡ Some name → option_map (λ job. job.user) o ≡ Some user → Asked o name user
asked None name user called owned = absurd (cc)
asked (Some job) name user called owned = record { job = job; at = refl; called = cc; owned = cc }

module _ (stock : Stock) (jobs : List Job) where
  pub queue-at : (i : ℕ) (job : Job) → slice_get jobs i ≡ Some job → slice_get (map (queued stock) jobs) i ≡ Some (queued stock job)
  queue-at i job at = slice_get-map (queued stock) jobs i ∙ ap (option_map (queued stock)) at

  -- the names of its resources are those of the job of its name
  given-at : AreNamedApart jobs → (i : ℕ) (job : Job) → slice_get jobs i ≡ Some job
      → names_given job.name (map (queued stock) jobs) ≡ names_of (named_standing stock job.standing)
  given-at apart i job at =
      let here : job_numbered job.name jobs ≡ Some job = ap (option_and_then (λ k. slice_get jobs k)) (apart i job at) ∙ at in
      sym (given-seen stock job.name jobs) ∙ ap (λ o. map (name_in stock) (option_map_or (λ (j : Job). slots_of j.standing) o [])) here
      ∙ sym (names-mapped stock job.standing)

  module _ (apart : AreNamedApart jobs) (i : ℕ) (name user : List ℕ) (names : List (List ℕ))
      (named : option_map (λ job. job.name) (slice_get jobs i) ≡ Some name) (owned : option_map (λ job. job.user) (slice_get jobs i) ≡ Some user)
      (given : names ≡ names_given name (map (queued stock) jobs)) where
    it : Asked (slice_get jobs i) name user
    it = asked (slice_get jobs i) name user named owned

    same_names : names_of (named_standing stock it.job.standing) ≡ names
    same_names = sym (given-at apart i it.job it.at) ∙ ap (λ n. names_given n (map (queued stock) jobs)) it.called ∙ sym given

    pub about-at : (word : List ℕ) (notice : Notice) → notice ≡ about word user name names
        → option_map (about_job word) (slice_get (map (queued stock) jobs) i) ≡ Some notice
    about-at word notice is =
        ap (option_map (about_job word)) (queue-at i it.job it.at) ∙ ap Some ((λ k. about word (it.owned k) (it.called k) (same_names k)) ∙ sym is)

    loss-is : loss_at (map (queued stock) jobs) i ≡ loss_of (queued stock it.job) names
    loss-is = ap (λ o. option_map_or loss o []) (queue-at i it.job it.at) ∙ ap (loss_of (queued stock it.job)) same_names

    none-told : (job : QueuedJob) (ns : List (List ℕ)) → length ns ≡ 0 → loss_of job ns ≡ []
    none-told job [] none = refl
    none-told job (n ∷ ns) none = absurd (omega (arith, none))

    one-told : (job : QueuedJob) (ns : List (List ℕ)) → 0 < length ns → loss_of job ns ≡ about (codes "freed ") job.user job.name ns ∷ []
    one-told job [] some = absurd (omega (arith, some))
    one-told job (n ∷ ns) some = refl

    pub loss-none : length names ≡ 0 → loss_at (map (queued stock) jobs) i ≡ []
    loss-none none = loss-is ∙ none-told (queued stock it.job) names none

    pub loss-some : (notice : Notice) → 0 < length names → notice ≡ about (codes "freed ") user name names → loss_at (map (queued stock) jobs) i ≡ notice ∷ []
    loss-some notice some is =
        loss-is ∙ one-told (queued stock it.job) names some
        ∙ ap (λ (n : Notice). n ∷ []) ((λ k. about (codes "freed ") (it.owned k) (it.called k) names) ∙ sym is)

  -- ---- the job of a name

  pub named-at : (name : List ℕ) → job_named name (map (queued stock) jobs) ≡ option_and_then (λ i. slice_get (map (queued stock) jobs) i) (numbered name jobs)
  named-at name =
      sym (found-first (is_job name) (map (queued stock) jobs))
      ∙ ap (option_and_then (λ i. slice_get (map (queued stock) jobs) i)) (position-map (is_job name) (queued stock) jobs)

  pub named-none : (name : List ℕ) → numbered name jobs ≡ None → job_named name (map (queued stock) jobs) ≡ None
  named-none name none = named-at name ∙ ap (option_and_then (λ i. slice_get (map (queued stock) jobs) i)) none

  pub named-some : (name : List ℕ) (i : ℕ) → numbered name jobs ≡ Some i → job_named name (map (queued stock) jobs) ≡ slice_get (map (queued stock) jobs) i
  named-some name i some = named-at name ∙ ap (option_and_then (λ k. slice_get (map (queued stock) jobs) k)) some

-- ---- whose resources they are

pub within-once : (n : ℕ) (numbers : List ℕ) (o : Option ℕ) → IfSome o (λ i. i < n) → All (λ i. i < n) numbers → All (λ i. i < n) (once numbers o)
within-once n numbers None fits all = all
within-once n numbers (Some i) fits all = by (lists numbers i)
  where
    by : (b : Bool) → All (λ k. k < n) (cond b numbers (numbers ++ i ∷ []))
    by true = all
    by false = All-push (λ k. k < n) numbers i all fits

module _ (stock : Stock) (beside : AreBeside stock.ads stock.slots) (jobs : List Job) (stored : are_stored stock.slots jobs ≡ true) where
  abbrev pub queue : List QueuedJob
  queue = map (queued stock) jobs

  there : (slot : ℕ) → Contains stock.slots slot → Named stock.ads stock.slots slot (named_beside stock.ads stock.slots slot)
  there slot held = name_there stock.ads stock.slots slot beside.long (contains-lists stock.slots slot held)

  named : (slot : ℕ) (held : Contains stock.slots slot) → name_in stock slot ≡ (there slot held).advert.name
  named slot held = beside-is stock.ads stock.slots slot ∙ sym (there slot held).called

  claimed-place : (slot : ℕ) → Contains stock.slots slot → claimed_at (name_in stock slot) queue ≡ claimer slot jobs
  claimed-place slot held =
      let ad = there slot held in
      ap (λ n. claimed_at n queue) (named slot held)
      ∙ position-map (λ job. is_listed ad.advert.name (claim_names job.standing)) (queued stock) jobs
      ∙ place-where (is_stored stock.slots) _ (λ job. lists (claim_of job.standing) slot) jobs stored
      (λ job own. claim_seen stock beside ad.place ad.advert slot ad.at ad.slot_at jobs stored job.standing own)

  offered-place : (slot : ℕ) → Contains stock.slots slot → offered_at (name_in stock slot) queue ≡ offeree slot jobs
  offered-place slot held =
      let ad = there slot held in
      ap (λ n. offered_at n queue) (named slot held)
      ∙ position-map (λ job. is_listed ad.advert.name (offer_names job.standing)) (queued stock) jobs
      ∙ place-where (is_stored stock.slots) _ (λ job. lists (offer_of job.standing) slot) jobs stored
      (λ job own. offer_seen stock beside ad.place ad.advert slot ad.at ad.slot_at jobs stored job.standing own)

  module _ (slots : List ℕ) (i slot : ℕ) (at : slice_get slots i ≡ Some slot) (held : Contains stock.slots slot) where
    names-next : map (name_in stock) (take (i + 1) slots) ≡ map (name_in stock) (take i slots) ++ name_in stock slot ∷ []
    names-next = ap (map (name_in stock)) (take-next slots i slot at) ∙ map-append (name_in stock) (take i slots) (slot ∷ [])

    pub holders-next : (old new : List ℕ) → old ≡ holders queue (map (name_in stock) (take i slots)) → new ≡ once old (claimer slot jobs)
        → new ≡ holders queue (map (name_in stock) (take (i + 1) slots))
    holders-next old new before is =
        is ∙ ap (λ l. once l (claimer slot jobs)) before ∙ ap (once (holders queue (map (name_in stock) (take i slots)))) (sym (claimed-place slot held))
        ∙ sym (ap (holders queue) names-next ∙ fold-append (λ places name. once places (claimed_at name queue)) [] (map (name_in stock) (take i slots)) (name_in
        stock slot ∷ []))

    pub had-next : (old mid new : List ℕ) → old ≡ had_by queue (map (name_in stock) (take i slots)) → mid ≡ once old (claimer slot jobs)
        → new ≡ once mid (offeree slot jobs) → new ≡ had_by queue (map (name_in stock) (take (i + 1) slots))
    had-next old mid new before first second =
        second ∙ ap (λ m. once m (offeree slot jobs)) (first ∙ ap (λ o. once o (claimer slot jobs)) before)
        ∙ ap (λ c. once (once (had_by queue (map (name_in stock) (take i slots))) c) (offeree slot jobs)) (sym (claimed-place slot held))
        ∙ ap (λ o. once (once (had_by queue (map (name_in stock) (take i slots))) (claimed_at (name_in stock slot) queue)) o) (sym (offered-place slot held))
        ∙ sym (ap (had_by queue) names-next ∙ fold-append (λ places name. once (once places (claimed_at name queue)) (offered_at name queue)) [] (map
        (name_in stock) (take i slots)) (name_in stock slot ∷ []))

-- ---- ads that leave

-- the name in a slot is that of the ad at its place
pub name-there : (stock : Stock) → ((i j slot : ℕ) → slice_get stock.slots i ≡ Some slot → slice_get stock.slots j ≡ Some slot → i ≡ j)
    → (place slot : ℕ) (advert : Advert) → slice_get stock.slots place ≡ Some slot → slice_get stock.ads place ≡ Some advert → name_in stock slot ≡ advert.name
name-there stock apart place slot advert slot_at at =
    ap (λ k. option_map_or (λ (a : Advert). a.name) (slice_get stock.ads k) [])
    (position-at stock.slots place slot slot_at (λ j at_j. apart j place slot at_j slot_at)) ∙ ap (λ o. option_map_or (λ (a : Advert). a.name) o []) at

-- ---- a claim that is granted

pub given-names : (stock : Stock) (name : List ℕ) (jobs : List Job) (slots : List ℕ) (q : QueuedJob)
    → slots ≡ option_map_or (λ job. slots_of job.standing) (job_numbered name jobs) [] → job_named name (map (queued stock) jobs) ≡ Some q
    → map (name_in stock) slots ≡ names_of q.standing
given-names stock name jobs slots q are named =
    ap (map (name_in stock)) are ∙ given-seen stock name jobs ∙ ap (λ o. option_map_or (λ (j : QueuedJob). names_of j.standing) o []) named

-- by the job that is found
pub granted-is : (queue : List QueuedJob) (found : Option QueuedJob) (names : List (List ℕ)) (notice : Notice)
    → ((q : QueuedJob) → found ≡ Some q → names ≡ names_of q.standing) → option_map (about_job (codes "claimed ")) found ≡ Some notice
    → losses queue (holders queue names) ++ notice ∷ [] ≡ option_map_or (granted_to queue) found []
granted-is queue None names notice have told = absurd (cc)
granted-is queue (Some q) names notice have told =
    let same : about_job (codes "claimed ") q ≡ notice = cc in
    ap (λ ns. losses queue (holders queue ns) ++ notice ∷ []) (have q refl)
    ∙ ap (λ (n : Notice). losses queue (holders queue (names_of q.standing)) ++ n ∷ []) (sym same)
