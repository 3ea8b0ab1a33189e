-- The jobs of a table once offers are made: they are seen by names as the jobs of a state are, and list what is in the store.
use Rattle.std.proofs.Common.{◌≡◌, ℕ, zero, suc, All, true, ◌&&◌, List, [], ◌∷◌, ◌++◌, map, slice_get, slice_set, Contains, Option, None, Some, Result, Ok, Err}
use Rattle.std.proofs.Common.{OnErr, OnOk, refl, sym, ◌∙◌, ap, subst}
use Rattle.std.specs.List.{list_all}
use Rattle.std.specs.Option.{option_map_or}
use Rattle.std.proofs.lemmas.List.{append-nil}
use Rattle.std.proofs.lemmas.List.Elements.{All-cons, All-head, All-nil, All-tail}
use Rattle.ad_tree.specs.declared.request.Request.{Request}
use Rattle.ad_store.specs.Stock.{Stock}
use Rattle.ad_store.proofs.HeldLemmas.{both}
use Rattle.claim_table.specs.declared.job.Job.{Job}
use Rattle.claim_table.specs.declared.job.Stage.{Stage}
use Rattle.claim_table.specs.Jobs.{lists, with_standing}
use Rattle.negotiator.specs.Cycle.{Offer}
use Rattle.negotiator.specs.Mapped.{offer_mapped}
use Rattle.negotiator.specs.Markets as market
use Rattle.pool_books.specs.Books.{name_in, queued}
use Rattle.pool_books.specs.Negotiation as seen
use Rattle.pool_books.specs.Ports.{HasOwnPorts}
use Rattle.pool_books.specs.State.{JobStanding, QueuedJob}
use Rattle.pool_books.specs.Stored.{are_stored, is_stored}
use Rattle.pool_books.proofs.QueueLemmas.{RequestIs}
use Rattle.pool_books.proofs.SlotLemmas.{all-lists}

-- ---- offers, seen by names

pub standing_next : (o : Option Job) (x : Job) (xs : List Job) (i : ℕ) (standing : Stage)
    → option_map_or (λ (job : Job). slice_set (x ∷ xs) (suc i) (record job { standing = standing })) o (x ∷ xs)
    ≡ x ∷ option_map_or (λ (job : Job). slice_set xs i (record job { standing = standing })) o xs
standing_next None x xs i standing = refl
standing_next (Some job) x xs i standing = refl

matched_next : (o : Option QueuedJob) (x : QueuedJob) (xs : List QueuedJob) (i : ℕ) (names : List (List ℕ))
    → option_map_or (λ (job : QueuedJob). slice_set (x ∷ xs) (suc i) (record job { standing = JobStanding.matched names })) o (x ∷ xs)
    ≡ x ∷ option_map_or (λ (job : QueuedJob). slice_set xs i (record job { standing = JobStanding.matched names })) o xs
matched_next None x xs i names = refl
matched_next (Some job) x xs i names = refl

module _ (stock : Stock) where
  offer-seen : (i : ℕ) (slots : List ℕ) (jobs : List Job)
      → seen.matched_at i (map (name_in stock) slots) (map (queued stock) jobs) ≡ map (queued stock) (with_standing jobs i (Stage.Matched slots))
  offer-seen i slots [] = refl
  offer-seen zero slots (x ∷ xs) = refl
  offer-seen (suc i) slots (x ∷ xs) =
      matched_next (slice_get (map (queued stock) xs) i) (queued stock x) (map (queued stock) xs) i (map (name_in stock) slots)
      ∙ ap (λ l. queued stock x ∷ l) (offer-seen i slots xs)
      ∙ sym (ap (map (queued stock)) (standing_next (slice_get xs i) x xs i (Stage.Matched slots)))

  -- the jobs once offers are made, seen by names
  pub offers-seen : (made : List (Offer ℕ)) (jobs : List Job)
      → seen.with_offers (map (offer_mapped (name_in stock)) made) (map (queued stock) jobs) ≡ map (queued stock) (market.with_offers made jobs)
  offers-seen [] jobs = refl
  offers-seen (o ∷ os) jobs =
      ap (seen.with_offers (map (offer_mapped (name_in stock)) os)) (offer-seen o.job o.resources jobs)
      ∙ offers-seen os (with_standing jobs o.job (Stage.Matched o.resources))

-- ---- what is offered is in the store

abbrev pub IsOffered : List ℕ → Offer ℕ → Type 0
IsOffered slots offer = All (Contains slots) offer.resources

abbrev pub AreOffered : List ℕ → List (Offer ℕ) → Type 0
AreOffered slots made = All (IsOffered slots) made

stored-standing : (slots : List ℕ) (i : ℕ) (own : List ℕ) (jobs : List Job) → list_all (lists slots) own ≡ true → are_stored slots jobs ≡ true
    → are_stored slots (with_standing jobs i (Stage.Matched own)) ≡ true
stored-standing slots i own [] all stored = refl
stored-standing slots zero own (x ∷ xs) all stored =
    let parts = both (is_stored slots x) (are_stored slots xs) stored in
    ap (λ b. b && are_stored slots xs) all ∙ parts.1
stored-standing slots (suc i) own (x ∷ xs) all stored =
    let parts = both (is_stored slots x) (are_stored slots xs) stored in
    ap (are_stored slots) (standing_next (slice_get xs i) x xs i (Stage.Matched own))
    ∙ ap (λ b. b && are_stored slots (with_standing xs i (Stage.Matched own))) parts.0
    ∙ stored-standing slots i own xs all parts.1

pub stored-offers : (slots : List ℕ) (made : List (Offer ℕ)) (jobs : List Job) → AreOffered slots made → are_stored slots jobs ≡ true
    → are_stored slots (market.with_offers made jobs) ≡ true
stored-offers slots [] jobs offered stored = stored
stored-offers slots (o ∷ os) jobs offered stored =
    stored-offers slots os (with_standing jobs o.job (Stage.Matched o.resources)) (All-tail (IsOffered slots) o os offered)
    (stored-standing slots o.job o.resources jobs (all-lists slots o.resources (All-head (IsOffered slots) o os offered)) stored)

-- ---- jobs keep their requests

-- a job has the ports that its ad lists
abbrev pub IsOwned : Job → Type 0
IsOwned job = HasOwnPorts job.request

pub kept-standing : (P : Request → Type 0) (i : ℕ) (standing : Stage) (jobs : List Job) → All (RequestIs P) jobs
    → All (RequestIs P) (with_standing jobs i standing)
kept-standing P i standing [] kept = kept
kept-standing P zero standing (x ∷ xs) kept =
    All-cons (RequestIs P) (record x { standing = standing }) xs (All-head (RequestIs P) x xs kept) (All-tail (RequestIs P) x xs kept)
kept-standing P (suc i) standing (x ∷ xs) kept =
    subst (All (RequestIs P)) (sym (standing_next (slice_get xs i) x xs i standing))
    (All-cons (RequestIs P) x (with_standing xs i standing) (All-head (RequestIs P) x xs kept)
    (kept-standing P i standing xs (All-tail (RequestIs P) x xs kept)))

pub kept-offers : (P : Request → Type 0) (made : List (Offer ℕ)) (jobs : List Job) → All (RequestIs P) jobs → All (RequestIs P) (market.with_offers made jobs)
kept-offers P [] jobs kept = kept
kept-offers P (o ∷ os) jobs kept =
    kept-offers P os (with_standing jobs o.job (Stage.Matched o.resources)) (kept-standing P o.job (Stage.Matched o.resources) jobs kept)

-- ---- where memory was wanting, the first offers are made

pub front-all : {A : Type 0} (P : A → Type 0) (xs ys : List A) → All P (xs ++ ys) → All P xs
front-all P [] ys all = All-nil P
front-all P (x ∷ xs) ys all = All-cons P x xs (All-head P x (xs ++ ys) all) (front-all P xs ys (All-tail P x (xs ++ ys) all))

pub behind-all : {A : Type 0} (P : A → Type 0) (xs ys : List A) → All P (xs ++ ys) → All P ys
behind-all P [] ys all = all
behind-all P (x ∷ xs) ys all = behind-all P xs ys (All-tail P x (xs ++ ys) all)

-- in any case these are the jobs once some first of the offers are made
pub part-of : {T E : Type 0} (r : Result T E) (offers : List (Offer ℕ)) (jobs later : List Job) → OnOk r (later ≡ market.with_offers offers jobs)
    → OnErr r (market.IsPart offers jobs later) → market.IsPart offers jobs later
part-of (Ok x) offers jobs later whole part = record { front = offers; rest = []; all = sym (append-nil offers); made = whole }
part-of (Err e) offers jobs later whole part = part

pub part-stored : (slots : List ℕ) (offers : List (Offer ℕ)) (jobs later : List Job) → market.IsPart offers jobs later → AreOffered slots offers
    → are_stored slots jobs ≡ true → are_stored slots later ≡ true
part-stored slots offers jobs later part offered stored =
    ap (are_stored slots) part.made
    ∙ stored-offers slots part.front jobs (front-all (IsOffered slots) part.front part.rest (subst (AreOffered slots) part.all offered)) stored

pub part-kept : (P : Request → Type 0) (offers : List (Offer ℕ)) (jobs later : List Job) → market.IsPart offers jobs later → All (RequestIs P) jobs
    → All (RequestIs P) later
part-kept P offers jobs later part kept = subst (All (RequestIs P)) (sym part.made) (kept-offers P part.front jobs kept)
