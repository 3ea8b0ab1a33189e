-- Slots among the slots of a store, and where names and slots stand.
use Rattle.std.proofs.Common.{◌≡◌, ℕ, zero, suc, All, Bool, true, false, cond, eqb, List, [], ◌∷◌, get_or, slice_get, take, Contains, Option, None, Some}
use Rattle.std.proofs.Common.{option_map, refl, sym, ◌∙◌, ap}
use Rattle.std.specs.List.{find, list_all, position_or_len}
use Rattle.std.specs.Option.{option_map_or}
use Rattle.std.specs.Cmp.Lexicographic.{bytes_decides}
use Rattle.std.proofs.lemmas.Bool.Decides.{Decides-eqb}
use Rattle.std.proofs.lemmas.List.Elements.{All-take, All-weaker}
use Rattle.std.proofs.lemmas.List.Folds.{list_any_at}
use Rattle.std.proofs.lemmas.List.Sums.{AllPass-from_list_all, list_all-from_AllPass}
use Rattle.std.proofs.lemmas.Map.Views.{Contains-from_any}
use Rattle.std.proofs.lemmas.Option.{get_or_from_slice_get, slice_get_within}
use Rattle.ad_store.specs.Stock.{Advert, Stock, is_named}
use Rattle.claim_table.specs.Jobs.{lists}
use Rattle.claim_table.proofs.HolderLemmas.{stands_at}
use Rattle.pool_books.specs.Books.{name_in}

-- ---- slots among others

pub contains-lists : (slots : List ℕ) (slot : ℕ) → Contains slots slot → lists slots slot ≡ true
contains-lists slots slot held = list_any_at (λ s. eqb s slot) slots held.0 slot held.1 ((Decides-eqb (get_or slots held.0 slot) slot).1 held.2)

pub lists-contains : (slots : List ℕ) (slot : ℕ) → lists slots slot ≡ true → Contains slots slot
lists-contains slots slot listed = Contains-from_any {eq = λ q s. eqb s q} (λ q s is. sym ((Decides-eqb s q).0 is)) slot slots listed

pub all-lists : (slots own : List ℕ) → All (Contains slots) own → list_all (lists slots) own ≡ true
all-lists slots own all = list_all-from_AllPass (lists slots) own (All-weaker (Contains slots) (λ s. lists slots s ≡ true) (contains-lists slots) own all)

pub all-contained : (slots own : List ℕ) → list_all (lists slots) own ≡ true → All (Contains slots) own
all-contained slots own all = All-weaker (λ s. lists slots s ≡ true) (Contains slots) (lists-contains slots) own (AllPass-from_list_all (lists slots) own all)

pub all-take : {A : Type 0} (p : A → Bool) (k : ℕ) (xs : List A) → list_all p xs ≡ true → list_all p (take k xs) ≡ true
all-take p k xs all = list_all-from_AllPass p (take k xs) (All-take (λ x. p x ≡ true) k xs (AllPass-from_list_all p xs all))

-- ---- where they stand

-- the place of a slot that no other place has
pub position-at : (slots : List ℕ) (i slot : ℕ) → slice_get slots i ≡ Some slot → ((j : ℕ) → slice_get slots j ≡ Some slot → j ≡ i)
    → position_or_len (λ s. eqb s slot) slots ≡ i
position-at slots i slot at only =
    only (position_or_len (λ s. eqb s slot) slots)
    (stands_at slots slot (list_any_at (λ s. eqb s slot) slots i slot (slice_get_within slots i slot at)
    ((Decides-eqb (get_or slots i slot) slot).1 (get_or_from_slice_get slots i slot slot at))))

-- the name of the ad in a slot
pub name-in : (stock : Stock) (slot : ℕ) (name : List ℕ) → Contains stock.slots slot
    → ((i : ℕ) → slice_get stock.slots i ≡ Some slot → option_map (λ (a : Advert). a.name) (slice_get stock.ads i) ≡ Some name) → name ≡ name_in stock slot
name-in stock slot name held called =
    let place = position_or_len (λ s. eqb s slot) stock.slots in
    by (slice_get stock.ads place) (called place (stands_at stock.slots slot (contains-lists stock.slots slot held)))
  where
    by : (o : Option Advert) → option_map (λ (a : Advert). a.name) o ≡ Some name → name ≡ option_map_or (λ (a : Advert). a.name) o []
    by None is = absurd (cc)
    by (Some a) is = cc

-- the ad of a name that no other ad has
pub find-at : (name : List ℕ) (ads : List Advert) (i : ℕ) (a : Advert) → slice_get ads i ≡ Some a → a.name ≡ name
    → ((j : ℕ) (b : Advert) → slice_get ads j ≡ Some b → b.name ≡ name → j ≡ i) → find (is_named name) ads ≡ Some a
find-at name [] i a at called only = absurd (cc)
find-at name (x ∷ xs) zero a at called only =
    let same : x ≡ a = cc in
    let is : is_named name x ≡ true = (bytes_decides name x.name).1 (sym called ∙ ap (λ (b : Advert). b.name) (sym same)) in
    ap (λ b. cond b (Some x) (find (is_named name) xs)) is ∙ ap Some same
find-at name (x ∷ xs) (suc i) a at called only =
    ap (λ b. cond b (Some x) (find (is_named name) xs)) (other (is_named name x) refl)
    ∙ find-at name xs i a at called (λ j b at_j is. let next : suc j ≡ suc i = only (suc j) b at_j is in cc)
  where
    other : (b : Bool) → is_named name x ≡ b → b ≡ false
    other true is = let clash : zero ≡ suc i = only zero x refl (sym ((bytes_decides name x.name).0 is)) in absurd (cc)
    other false is = refl
