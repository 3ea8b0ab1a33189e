-- What stands where memory was wanting.
use Rattle.std.proofs.Common.{◌≡◌, ℕ, All, Bool, true, false, cond, List, [], ◌∷◌, length}
use Rattle.std.proofs.Common.{map, Option, None, Some, is_some, Result, Ok, Err, IfNone, IfOk, IfSome}
use Rattle.std.proofs.Common.{OnErr, bytes_eq, refl, sym, ◌∙◌, ap, subst}
use Rattle.ad_tree.specs.declared.request.Request.{Request}
use Rattle.ad_store.specs.Answers.{slot_put}
use Rattle.ad_store.specs.Stock.{Advert, Stock, is_named, slot_beside, slot_named, slots_without, without}
use Rattle.ad_store.specs.declared.answers.Put.{Put}
use Rattle.ad_store.specs.declared.answers.PutFault.{PutFault}
use Rattle.ad_store.proofs.HeldLemmas.{without-absent}
use Rattle.claim_table.specs.Jobs.{AreExclusive, claim_of, lost, offer_of}
use Rattle.claim_table.specs.declared.job.Job.{Job}
use Rattle.pool_books.specs.Books.{queued}
use Rattle.pool_books.specs.Queue.{without_resources}
use Rattle.pool_books.specs.Stocks.{stock_without}
use Rattle.pool_books.specs.Stored.{are_stored}
use Rattle.pool_books.specs.Wanting.{IsGone}
use Rattle.pool_books.proofs.AdLemmas.{Beside, named, slot_beside-found, slot_beside-none}
use Rattle.pool_books.proofs.JobLemmas.{found-any, queue-freed, stays}
use Rattle.pool_books.proofs.NameLemmas.{AreBeside}
use Rattle.pool_books.proofs.QueueLemmas.{RequestIs, freed, freed-kept, freed-stored, lost-each}

-- ---- a name that none has

slots-unnamed : (name : List ℕ) (ads : List Advert) (slots : List ℕ) → slot_beside (is_named name) ads slots ≡ None → slots_without name ads slots ≡ slots
slots-unnamed name [] slots none = refl
slots-unnamed name (a ∷ ads) [] none = refl
slots-unnamed name (a ∷ ads) (s ∷ slots) none = by (is_named name a) none (slots-unnamed name ads slots)
  where
    by : (b : Bool) → cond b (Some s) (slot_beside (is_named name) ads slots) ≡ None
        → (slot_beside (is_named name) ads slots ≡ None → slots_without name ads slots ≡ slots)
        → cond b slots (s ∷ slots_without name ads slots) ≡ s ∷ slots
    by true is later = absurd (cc)
    by false is later = ap (λ l. s ∷ l) (later is)

stock-unnamed : (name : List ℕ) (stock : Stock) → length stock.ads ≡ length stock.slots → slot_named name stock ≡ None → stock_without name stock ≡ stock
stock-unnamed name stock long none =
    let absent = without-absent name stock.ads
    (sym (found-any (is_named name) stock.ads) ∙ ap is_some (slot_beside-none (is_named name) stock.ads stock.slots long none)) in
    λ i. record { ads = absent i; slots = slots-unnamed name stock.ads stock.slots none i }

-- ---- an ad that isn't put

-- the slot of a name behind a put
pub slot-behind : {E : Type 0} (r : Result Put E) (slot held : Option ℕ) (name : List ℕ) (old new : Stock) → IfOk r (λ put. slot ≡ Some (slot_put put))
    → OnErr r (slot ≡ held) → IfOk r (λ put. slot_named name new ≡ Some (slot_put put)) → OnErr r (new ≡ old) → held ≡ slot_named name old
    → slot ≡ slot_named name new
slot-behind (Ok put) slot held name old new is kept there same before = is ∙ sym there
slot-behind (Err e) slot held name old new is kept there same before = kept ∙ before ∙ ap (slot_named name) (sym same)

-- where no ad had the name nothing changed
pub unless-held : (held : Option ℕ) (name : List ℕ) (old new : Stock) → length old.ads ≡ length old.slots → held ≡ slot_named name old
    → new ≡ stock_without name old → IfNone held (new ≡ old)
unless-held None name old new long is left = left ∙ stock-unnamed name old long (sym is)
unless-held (Some slot) name old new long is left = tt

pub where-held : (held : Option ℕ) (name : List ℕ) (old new : Stock) → held ≡ slot_named name old → new ≡ stock_without name old
    → IfSome held (IsGone name PutFault.OutOfMemory old new)
where-held None name old new is left = tt
where-held (Some slot) name old new is left = record { wanting = refl; had = sym is; left = left }

-- ---- the jobs when the ad of a name leaves

module _ (name : List ℕ) (old new : Stock) (beside : AreBeside old.ads old.slots) (slot : ℕ) (had : slot_named name old ≡ Some slot)
    (left : new ≡ stock_without name old) (jobs later : List Job) (offers : AreExclusive offer_of jobs) (claims : AreExclusive claim_of jobs)
    (is : later ≡ lost slot jobs) where
  found : Beside (is_named name) old.ads old.slots slot
  found = slot_beside-found (is_named name) old.ads old.slots slot had

  called : found.advert.name ≡ name
  called = sym (named name found.advert found.passes)

  ads : new.ads ≡ without name old.ads
  ads = ap (λ (s : Stock). s.ads) left

  slots : new.slots ≡ slots_without name old.ads old.slots
  slots = ap (λ (s : Stock). s.slots) left

  each : later ≡ map (freed slot) jobs
  each = is ∙ lost-each slot jobs offers claims

  pub left-stored : are_stored old.slots jobs ≡ true → are_stored new.slots later ≡ true
  left-stored stored =
      ap (are_stored new.slots) each
      ∙ freed-stored old.slots new.slots slot (stays name old new beside slot found.place found.advert found.at found.slot_at called had ads slots) jobs stored

  pub left-kept : (P : Request → Type 0) → All (RequestIs P) jobs → All (RequestIs P) later
  left-kept P kept = subst (All (RequestIs P)) (sym each) (freed-kept P slot jobs kept)

  pub left-queue : are_stored old.slots jobs ≡ true → map (queued new) later ≡ without_resources (bytes_eq name) (map (queued old) jobs)
  left-queue stored =
      ap (map (queued new)) each
      ∙ queue-freed name old new beside slot found.place found.advert found.at found.slot_at called had ads slots jobs stored
