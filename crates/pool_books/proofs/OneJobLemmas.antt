-- No two jobs list one resource.
use Rattle.std.proofs.Common.{◌≡◌, ℕ, zero, suc, All, Bool, true, false, ◌||◌, List, [], ◌∷◌, map, slice_get, Option, None, Some, option_map, bytes_eq, refl}
use Rattle.std.proofs.Common.{sym, ◌∙◌, ap}
use Rattle.std.specs.List.{list_all}
use Rattle.std.specs.Cmp.Lexicographic.{bytes_decides}
use Rattle.std.proofs.lemmas.List.Elements.{All-cons, All-nil}
use Rattle.std.proofs.lemmas.Option.{none-some, same_Some, slice_get-map}
use Rattle.ad_store.specs.Stock.{Advert, Stock, has}
use Rattle.ad_store.proofs.HeldLemmas.{both}
use Rattle.claim_table.specs.declared.job.Job.{Job}
use Rattle.claim_table.specs.declared.job.Stage.{Stage}
use Rattle.claim_table.specs.Jobs.{AreExclusive as AreApart, claim_of, lists, offer_of, slots_of}
use Rattle.pool_books.specs.Apart.{AreExclusive}
use Rattle.pool_books.specs.Books.{name_in, named_standing, queued}
use Rattle.pool_books.specs.Queue.{claim_names, is_listed, names_of, offer_names}
use Rattle.pool_books.specs.State.{JobStanding, QueuedJob}
use Rattle.pool_books.specs.Stored.{are_stored, is_stored}
use Rattle.pool_books.proofs.AdLemmas.{has_at}
use Rattle.pool_books.proofs.NameLemmas.{AreBeside, Named, beside-is, listed-named, name_there, named_beside}

-- an ad of a name, with its slot
record Held (stock : Stock) (name : List ℕ) : Type 0 where
  pub place : ℕ
  pub advert : Advert
  pub slot : ℕ
  pub at : slice_get stock.ads place ≡ Some advert
  pub slot_at : slice_get stock.slots place ≡ Some slot
  pub called : advert.name ≡ name

-- a job at its place, behind the job that is seen there
record Behind (stock : Stock) (jobs : List Job) (i : ℕ) (seen : QueuedJob) : Type 0 where
  pub job : Job
  pub at : slice_get jobs i ≡ Some job
  pub is : queued stock job ≡ seen
  pub stored : is_stored stock.slots job ≡ true

stored-at : (slots : List ℕ) (jobs : List Job) (i : ℕ) (job : Job) → are_stored slots jobs ≡ true → slice_get jobs i ≡ Some job → is_stored slots job ≡ true
stored-at slots [] i job stored at = absurd (none-some job at)
stored-at slots (x ∷ jobs) zero job stored at =
    let same : x ≡ job = same_Some x job at in
    ap (is_stored slots) (sym same) ∙ (both (is_stored slots x) (are_stored slots jobs) stored).0
stored-at slots (x ∷ jobs) (suc i) job stored at = stored-at slots jobs i job (both (is_stored slots x) (are_stored slots jobs) stored).1 at

behind : (stock : Stock) (jobs : List Job) (i : ℕ) (seen : QueuedJob) → are_stored stock.slots jobs ≡ true → slice_get (map (queued stock) jobs) i ≡ Some seen
    → Behind stock jobs i seen
behind stock jobs i seen stored at = by (slice_get jobs i) refl (sym (slice_get-map (queued stock) jobs i) ∙ at)
  where
    by : (o : Option Job) → slice_get jobs i ≡ o → option_map (queued stock) o ≡ Some seen → Behind stock jobs i seen
    by None found is = absurd (none-some seen is)
    by (Some job) found is = record { job = job; at = found; is = same_Some (queued stock job) seen is; stored = stored-at stock.slots jobs i job stored found }

-- a slot's name is an ad's
held-in : (stock : Stock) (beside : AreBeside stock.ads stock.slots) (slot : ℕ) (name : List ℕ) → lists stock.slots slot ≡ true → name ≡ name_in stock slot
    → Held stock name
held-in stock beside slot name listed is =
    let there : Named stock.ads stock.slots slot (named_beside stock.ads stock.slots slot) = name_there stock.ads stock.slots slot beside.long listed in
    record {
      place =
          there.place;
      advert =
          there.advert;
      slot = slot;
      at = there.at;
      slot_at = there.slot_at;
      called = there.called ∙ sym (beside-is stock.ads stock.slots slot) ∙ sym is;
    }

never_listed : {A : Type 0} → false ≡ true → A
never_listed listed = absurd (cc)

module _ (stock : Stock) (beside : AreBeside stock.ads stock.slots) where
  -- a listed name is an ad's
  held-of : (name : List ℕ) (own : List ℕ) → list_all (lists stock.slots) own ≡ true → is_listed name (map (name_in stock) own) ≡ true → Held stock name
  held-of name [] stored listed = never_listed listed
  held-of name (s ∷ own) stored listed = by (bytes_eq name (name_in stock s)) refl listed (λ later. held-of name own parts.1 later)
    where
      parts : (lists stock.slots s ≡ true) × (list_all (lists stock.slots) own ≡ true)
      parts = both (lists stock.slots s) (list_all (lists stock.slots) own) stored

      by : (b : Bool) → bytes_eq name (name_in stock s) ≡ b → (b || is_listed name (map (name_in stock) own)) ≡ true
          → (is_listed name (map (name_in stock) own) ≡ true → Held stock name) → Held stock name
      by true is l later = held-in stock beside s name parts.0 ((bytes_decides name (name_in stock s)).0 is)
      by false is l later = later l

  module _ (part : Stage → List ℕ) (names : JobStanding → List (List ℕ))
      (named : (standing : Stage) → names (named_standing stock standing) ≡ map (name_in stock) (part standing))
      (within : (standing : Stage) → list_all (lists stock.slots) (slots_of standing) ≡ true → list_all (lists stock.slots) (part standing) ≡ true) where
    by-slots : (name : List ℕ) (job : Job) (seen : QueuedJob) → queued stock job ≡ seen → is_listed name (names seen.standing) ≡ true
        → is_listed name (map (name_in stock) (part job.standing)) ≡ true
    by-slots name job seen is listed = ap (is_listed name) (sym (named job.standing) ∙ ap (λ (q : QueuedJob). names q.standing) is) ∙ listed

    lists-it : (name : List ℕ) (held : Held stock name) (job : Job) → is_stored stock.slots job ≡ true
        → is_listed name (map (name_in stock) (part job.standing)) ≡ true → lists (part job.standing) held.slot ≡ true
    lists-it name held job stored listed =
        sym (listed-named stock.ads stock.slots beside held.place held.advert held.slot held.at held.slot_at (part job.standing) (within job.standing stored))
        ∙ ap (λ n. is_listed n (map (name_in stock) (part job.standing))) held.called
        ∙ listed

    held-by : (name : List ℕ) (jobs : List Job) (i : ℕ) (seen : QueuedJob) (x : Behind stock jobs i seen) → is_listed name (names seen.standing) ≡ true
        → Held stock name
    held-by name jobs i seen x listed = held-of name (part x.job.standing) (within x.job.standing x.stored) (by-slots name x.job seen x.is listed)

    lists-slot : (name : List ℕ) (held : Held stock name) (jobs : List Job) (i : ℕ) (seen : QueuedJob) (x : Behind stock jobs i seen)
        → is_listed name (names seen.standing) ≡ true → lists (part x.job.standing) held.slot ≡ true
    lists-slot name held jobs i seen x listed = lists-it name held x.job x.stored (by-slots name x.job seen x.is listed)

    -- two jobs that list an ad's name are one
    one-place : (jobs : List Job) → AreApart part jobs
        → (name : List ℕ) (held : Held stock name) (i j : ℕ) (a b : QueuedJob) (x : Behind stock jobs i a) (y : Behind stock jobs j b)
        → is_listed name (names a.standing) ≡ true → is_listed name (names b.standing) ≡ true → i ≡ j
    one-place jobs apart name held i j a b x y in_a in_b =
        apart held.slot i j x.job y.job x.at y.at (lists-slot name held jobs i a x in_a) (lists-slot name held jobs j b y in_b)

    same-place : (jobs : List Job) → AreApart part jobs → (name : List ℕ) (i j : ℕ) (a b : QueuedJob) → Behind stock jobs i a → Behind stock jobs j b
        → is_listed name (names a.standing) ≡ true → is_listed name (names b.standing) ≡ true → i ≡ j
    same-place jobs apart name i j a b x y in_a in_b = one-place jobs apart name (held-by name jobs i a x in_a) i j a b x y in_a in_b

    exclusive : (jobs : List Job) → are_stored stock.slots jobs ≡ true → AreApart part jobs → AreExclusive names (map (queued stock) jobs)
    exclusive jobs stored apart = λ name i j a b at_i at_j in_a in_b.
        same-place jobs apart name i j a b (behind stock jobs i a stored at_i) (behind stock jobs j b stored at_j) in_a in_b

  -- ---- offers and claims

  offer-named : (standing : Stage) → offer_names (named_standing stock standing) ≡ map (name_in stock) (offer_of standing)
  offer-named Stage.Idle = refl
  offer-named (Stage.Matched own) = refl
  offer-named (Stage.Claimed own) = refl

  claim-named : (standing : Stage) → claim_names (named_standing stock standing) ≡ map (name_in stock) (claim_of standing)
  claim-named Stage.Idle = refl
  claim-named (Stage.Matched own) = refl
  claim-named (Stage.Claimed own) = refl

  offer-within : (standing : Stage) → list_all (lists stock.slots) (slots_of standing) ≡ true → list_all (lists stock.slots) (offer_of standing) ≡ true
  offer-within Stage.Idle held = refl
  offer-within (Stage.Matched own) held = held
  offer-within (Stage.Claimed own) held = refl

  claim-within : (standing : Stage) → list_all (lists stock.slots) (slots_of standing) ≡ true → list_all (lists stock.slots) (claim_of standing) ≡ true
  claim-within Stage.Idle held = refl
  claim-within (Stage.Matched own) held = refl
  claim-within (Stage.Claimed own) held = held

  pub offers-apart : (jobs : List Job) → are_stored stock.slots jobs ≡ true → AreApart offer_of jobs → AreExclusive offer_names (map (queued stock) jobs)
  offers-apart jobs stored apart = exclusive offer_of offer_names offer-named offer-within jobs stored apart

  pub claims-apart : (jobs : List Job) → are_stored stock.slots jobs ≡ true → AreApart claim_of jobs → AreExclusive claim_names (map (queued stock) jobs)
  claims-apart jobs stored apart = exclusive claim_of claim_names claim-named claim-within jobs stored apart

  -- ---- what jobs have is held

  abbrev IsHeld : List ℕ → Type 0
  IsHeld name = has name stock.ads ≡ true

  names-held : (own : List ℕ) → list_all (lists stock.slots) own ≡ true → All IsHeld (map (name_in stock) own)
  names-held [] stored = All-nil IsHeld
  names-held (s ∷ own) stored =
      let parts = both (lists stock.slots s) (list_all (lists stock.slots) own) stored in
      let there : Held stock (name_in stock s) = held-in stock beside s (name_in stock s) parts.0 refl in
      All-cons IsHeld (name_in stock s) (map (name_in stock) own) (has_at (name_in stock s) stock.ads there.place there.advert there.at there.called)
      (names-held own parts.1)

  standing-held : (standing : Stage) → list_all (lists stock.slots) (slots_of standing) ≡ true → All IsHeld (names_of (named_standing stock standing))
  standing-held Stage.Idle stored = All-nil IsHeld
  standing-held (Stage.Matched own) stored = names-held own stored
  standing-held (Stage.Claimed own) stored = names-held own stored

  pub jobs-held : (jobs : List Job) → are_stored stock.slots jobs ≡ true
      → All (λ job. All (λ name. has name stock.ads ≡ true) (names_of job.standing)) (map (queued stock) jobs)
  jobs-held [] stored = All-nil (λ (job : QueuedJob). All IsHeld (names_of job.standing))
  jobs-held (job ∷ jobs) stored =
      let parts = both (is_stored stock.slots job) (are_stored stock.slots jobs) stored in
      All-cons (λ (q : QueuedJob). All IsHeld (names_of q.standing)) (queued stock job) (map (queued stock) jobs) (standing-held job.standing parts.0)
      (jobs-held jobs parts.1)
