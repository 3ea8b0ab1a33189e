-- The jobs of a state as ads that are no longer live leave one after another.
use Rattle.std.proofs.Common.{◌≡◌, ℕ, suc, Bool, true, false, cond, List, [], ◌∷◌, filter, length, map, slice_get, Some, refl, arith}
use Rattle.ad_store.specs.Stock.{Advert, Stock, expired_slots, slots_beside}
use Rattle.pool_books.specs.Books.{name_in}
use Rattle.pool_books.proofs.ExpiryLemmas.{ended}
use Rattle.pool_state.specs.Notices.{expired_names}
use Rattle.pool_state.proofs.LossLemmas.{name-there}

-- ---- the slots of ads that are no longer live

-- the names in the slots beside ads are those of the ads
names-beside : (stock : Stock) (test : Advert → Bool) (ads : List Advert) (slots : List ℕ) → length ads ≡ length slots
    → ((i slot : ℕ) (advert : Advert) → slice_get slots i ≡ Some slot → slice_get ads i ≡ Some advert → name_in stock slot ≡ advert.name)
    → map (name_in stock) (slots_beside test ads slots) ≡ map (λ (a : Advert). a.name) (filter test ads)
names-beside stock test [] slots long called = refl
names-beside stock test (x ∷ ads) [] long called = absurd (omega (arith, long))
names-beside stock test (x ∷ ads) (s ∷ slots) long called =
    by (test x) (names-beside stock test ads slots (omega (arith, long)) (λ i slot advert at_s at_a. called (suc i) slot advert at_s at_a))
  where
    by : (b : Bool) → map (name_in stock) (slots_beside test ads slots) ≡ map (λ (a : Advert). a.name) (filter test ads)
        → map (name_in stock) (cond b (s ∷ slots_beside test ads slots) (slots_beside test ads slots))
        ≡ map (λ (a : Advert). a.name) (cond b (x ∷ filter test ads) (filter test ads))
    by true rest = λ k. called 0 s x refl refl k ∷ rest k
    by false rest = rest

-- the names in the slots of a stock's ads that are no longer live
pub expired-named : (stock : Stock) → length stock.ads ≡ length stock.slots
    → ((i j slot : ℕ) → slice_get stock.slots i ≡ Some slot → slice_get stock.slots j ≡ Some slot → i ≡ j)
    → (now : ℕ) → map (name_in stock) (expired_slots now stock) ≡ expired_names now stock.ads
expired-named stock long apart now =
    names-beside stock (ended now) stock.ads stock.slots long (λ i slot advert at_s at_a. name-there stock apart i slot advert at_s at_a)
