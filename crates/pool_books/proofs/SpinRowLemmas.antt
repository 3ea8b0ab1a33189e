-- The rows of a cycle, by slots and by names, and that what they tell is in the store.
use Rattle.std.proofs.Common.{◌≡◌, ℕ, All, List, [], ◌∷◌, map, slice_get, Option, None, Some, option_map, refl, ◌∙◌, ap}
use Rattle.std.specs.Option.{option_map_or}
use Rattle.std.proofs.lemmas.List.Elements.{All-cons, All-map, All-nil}
use Rattle.std.proofs.lemmas.Option.{slice_get-map}
use Rattle.ad_store.specs.Stock.{Stock}
use Rattle.claim_table.specs.declared.job.Job.{Job}
use Rattle.negotiator.specs.Cycle.{Offer, PlainSpin, PlainTurn, offers_in, offers_of}
use Rattle.negotiator.specs.Mapped.{offer_mapped, spin_mapped, turn_mapped}
use Rattle.pool_replies.specs.declared.rows.OfferRow.{OfferRow}
use Rattle.pool_replies.specs.declared.rows.SpinRow.{SpinRow}
use Rattle.pool_replies.specs.declared.rows.TurnRow.{TurnRow}
use Rattle.negotiator.specs.Markets as market
use Rattle.pool_books.specs.Books.{name_in, queued}
use Rattle.pool_books.specs.Negotiation as seen
use Rattle.pool_books.specs.Rows as rows
use Rattle.pool_books.specs.State.{QueuedJob}
use Rattle.pool_books.proofs.MatchedLemmas.{AreOffered, IsOffered, behind-all, front-all}

-- ---- the rows are the same

module _ (stock : Stock) (jobs : List Job) where
  abbrev queue : List QueuedJob
  queue = map (queued stock) jobs

  offer-row : (o : Offer ℕ) → seen.offer_row queue (offer_mapped (name_in stock) o) ≡ rows.offer_row stock (market.offer_named jobs o)
  offer-row o =
      ap (λ name. let r : OfferRow = record { job = name; names = map (name_in stock) o.resources } in r)
      (ap (λ (found : Option QueuedJob). option_map_or (λ (job : QueuedJob). job.name) found []) (slice_get-map (queued stock) jobs o.job)
      ∙ by (slice_get jobs o.job))
    where
      by : (found : Option Job)
          → option_map_or (λ (job : QueuedJob). job.name) (option_map (queued stock) found) [] ≡ option_map_or (λ (job : Job). job.name) found []
      by None = refl
      by (Some job) = refl

  offer-rows : (os : List (Offer ℕ))
      → map (seen.offer_row queue) (map (offer_mapped (name_in stock)) os) ≡ map (rows.offer_row stock) (map (market.offer_named jobs) os)
  offer-rows [] = refl
  offer-rows (o ∷ os) =
      ap (λ r. r ∷ map (seen.offer_row queue) (map (offer_mapped (name_in stock)) os)) (offer-row o)
      ∙ ap (λ l. rows.offer_row stock (market.offer_named jobs o) ∷ l) (offer-rows os)

  turn-rows : (ts : List (PlainTurn ℕ))
      → map (seen.turn_row queue) (map (turn_mapped (name_in stock)) ts) ≡ map (rows.turn_row stock) (map (market.turn_named jobs) ts)
  turn-rows [] = refl
  turn-rows (t ∷ ts) =
      ap (λ os. (let r : TurnRow = record { user = t.user; slice = t.slice; offers = os } in r)
      ∷ map (seen.turn_row queue) (map (turn_mapped (name_in stock)) ts)) (offer-rows t.offers)
      ∙ ap (λ l. rows.turn_row stock (market.turn_named jobs t) ∷ l) (turn-rows ts)

  pub spin-rows : (spins : List (PlainSpin ℕ))
      → map (seen.spin_row queue) (map (spin_mapped (name_in stock)) spins) ≡ map (rows.spin_row stock) (map (market.spin_named jobs) spins)
  spin-rows [] = refl
  spin-rows (spin ∷ spins) =
      ap (λ ts. (let r : SpinRow = record { free = spin.free; turns = ts } in r) ∷ map (seen.spin_row queue) (map (spin_mapped (name_in stock)) spins))
      (turn-rows spin.turns)
      ∙ ap (λ l. rows.spin_row stock (market.spin_named jobs spin) ∷ l) (spin-rows spins)

-- ---- what they tell is in the store

module _ (slots : List ℕ) (jobs : List Job) where
  offers-held : (os : List (Offer ℕ)) → AreOffered slots os → All (rows.IsOfferHeld slots) (map (market.offer_named jobs) os)
  offers-held os offered = All-map (rows.IsOfferHeld slots) (market.offer_named jobs) os offered

  turns-held : (ts : List (PlainTurn ℕ)) → AreOffered slots (offers_in ts) → All (rows.IsTurnHeld slots) (map (market.turn_named jobs) ts)
  turns-held [] offered = All-nil (rows.IsTurnHeld slots)
  turns-held (t ∷ ts) offered =
      All-cons (rows.IsTurnHeld slots) (market.turn_named jobs t) (map (market.turn_named jobs) ts)
      (offers-held t.offers (front-all (IsOffered slots) t.offers (offers_in ts) offered))
      (turns-held ts (behind-all (IsOffered slots) t.offers (offers_in ts) offered))

  pub spins-held : (spins : List (PlainSpin ℕ)) → AreOffered slots (offers_of spins) → All (rows.IsSpinHeld slots) (map (market.spin_named jobs) spins)
  spins-held [] offered = All-nil (rows.IsSpinHeld slots)
  spins-held (spin ∷ spins) offered =
      All-cons (rows.IsSpinHeld slots) (market.spin_named jobs spin) (map (market.spin_named jobs) spins)
      (turns-held spin.turns (front-all (IsOffered slots) (offers_in spin.turns) (offers_of spins) offered))
      (spins-held spins (behind-all (IsOffered slots) (offers_in spin.turns) (offers_of spins) offered))
