-- The rows of an index as ads come and go.
use Rattle.std.proofs.Common.{◌≡◌, ℕ, Bool, true, false, not, ◌||◌, cond, List, [], ◌∷◌, ◌++◌, length, Option, None, Some, option_map, slice_get, Result, Ok}
use Rattle.std.proofs.Common.{Err, IfOk, OnOk, OnErr, refl, sym, ◌∙◌, ap, subst, arith}
use Rattle.std.specs.Result.{is_err}
use Rattle.ad_store.specs.Answers.{is_added, slots_put}
use Rattle.ad_store.specs.declared.answers.Put.{Put}
use Rattle.ad_store.specs.Stock.{Advert, Stock, has, is_named, placed, slot_beside, slots_without, without}
use Rattle.ad_store.proofs.HeldLemmas.{neither}
use Rattle.ad_tree.specs.Frames.{Frame}
use Rattle.literal_index.specs.Rows.{row_of}
use Rattle.literal_index.specs.Shown.{IsKept}
use Rattle.literal_index.specs.declared.index.Index.{Index}
use Rattle.ad_candidates.specs.Rows.{rows_beside, rows_of}
use Rattle.pool_books.specs.Stocks.{stock_without}
use Rattle.pool_books.proofs.AdLemmas.{is_own_name}
use Rattle.pool_books.proofs.StepLemmas.{not_false, not_true}

-- the frames of the ad at a place
pub here_frames : (ads : List Advert) (i : ℕ) (a : Advert) (frames : List Frame) → slice_get ads i ≡ Some a
    → option_map (λ (x : Advert). x.ad) (slice_get ads i) ≡ Some frames → a.ad ≡ frames
here_frames ads i a frames at is =
    let same : ◌≡◌ {A = Option (List Frame)} (Some a.ad) (Some frames) = sym (ap (option_map (λ (x : Advert). x.ad)) at) ∙ is in cc

-- ---- without a name

no_slots : (ads : List Advert) → rows_beside ads [] ≡ []
no_slots [] = refl
no_slots (a ∷ ads) = refl

-- the ads without a name that none has
pub rows-unnamed : (name : List ℕ) (ads : List Advert) (slots : List ℕ) → slot_beside (is_named name) ads slots ≡ None
    → rows_beside (without name ads) (slots_without name ads slots) ≡ rows_beside ads slots
rows-unnamed name [] slots none = refl
rows-unnamed name (a ∷ ads) [] none = no_slots (without name (a ∷ ads))
rows-unnamed name (a ∷ ads) (s ∷ slots) none = by (rows-unnamed name ads slots) (is_named name a) refl
  where
    by : (slot_beside (is_named name) ads slots ≡ None → rows_beside (without name ads) (slots_without name ads slots) ≡ rows_beside ads slots) → (b : Bool)
        → is_named name a ≡ b → rows_beside (without name (a ∷ ads)) (slots_without name (a ∷ ads) (s ∷ slots)) ≡ rows_beside (a ∷ ads) (s ∷ slots)
    by rest true is =
        let found : ◌≡◌ {A = Option ℕ} (Some s) None = sym (ap (λ b. cond b (Some s) (slot_beside (is_named name) ads slots)) is) ∙ none in absurd (cc)
    by rest false is =
        ap (λ b. rows_beside (cond b ads (a ∷ without name ads)) (cond b slots (s ∷ slots_without name ads slots))) is
        ∙ ap (λ l. row_of s a.ad ∷ l) (rest (sym (ap (λ b. cond b (Some s) (slot_beside (is_named name) ads slots)) is) ∙ none))

-- ---- an ad that was put, and the others

-- the others are as they were
pub ads-put : (advert : Advert) (ads : List Advert) → without advert.name (placed advert ads) ≡ without advert.name ads
ads-put advert [] = ap (λ b. cond b [] (advert ∷ [])) (is_own_name advert)
ads-put advert (a ∷ ads) = by (ads-put advert ads) (is_named advert.name a) refl
  where
    by : without advert.name (placed advert ads) ≡ without advert.name ads → (b : Bool) → is_named advert.name a ≡ b
        → without advert.name (placed advert (a ∷ ads)) ≡ without advert.name (a ∷ ads)
    by rest true is =
        ap (λ b. without advert.name (cond b (advert ∷ ads) (a ∷ placed advert ads))) is
        ∙ ap (λ b. cond b ads (advert ∷ without advert.name ads)) (is_own_name advert)
        ∙ sym (ap (λ b. cond b ads (a ∷ without advert.name ads)) is)
    by rest false is =
        ap (λ b. without advert.name (cond b (advert ∷ ads) (a ∷ placed advert ads))) is
        ∙ ap (λ b. cond b (placed advert ads) (a ∷ without advert.name (placed advert ads))) is
        ∙ ap (λ l. a ∷ l) rest
        ∙ sym (ap (λ b. cond b ads (a ∷ without advert.name ads)) is)

module _ (advert : Advert) where
  abbrev own : List ℕ
  own = advert.name

  -- beside a new ad, which goes last
  slots-added : (slot : ℕ) (ads : List Advert) (slots : List ℕ) → length ads ≡ length slots → has own ads ≡ false
      → slots_without own (placed advert ads) (slots ++ slot ∷ []) ≡ slots_without own ads slots
  slots-added slot [] [] same new = ap (λ b. cond b [] (slot ∷ [])) (is_own_name advert)
  slots-added slot [] (s ∷ slots) same new = absurd (omega (arith, same))
  slots-added slot (a ∷ ads) [] same new = absurd (omega (arith, same))
  slots-added slot (a ∷ ads) (s ∷ slots) same new =
      let parts = neither (is_named own a) (has own ads) new in
      ap (λ b. slots_without own (cond b (advert ∷ ads) (a ∷ placed advert ads)) (s ∷ (slots ++ slot ∷ []))) parts.0
      ∙ ap (λ b. cond b (slots ++ slot ∷ []) (s ∷ slots_without own (placed advert ads) (slots ++ slot ∷ []))) parts.0
      ∙ ap (λ l. s ∷ l) (slots-added slot ads slots (omega (arith, same)) parts.1)
      ∙ sym (ap (λ b. cond b slots (s ∷ slots_without own ads slots)) parts.0)

  -- beside an ad that takes another's place
  slots-replaced : (ads : List Advert) (slots : List ℕ) → length ads ≡ length slots → has own ads ≡ true
      → slots_without own (placed advert ads) slots ≡ slots_without own ads slots
  slots-replaced [] slots same held = absurd (cc)
  slots-replaced (a ∷ ads) [] same held = absurd (omega (arith, same))
  slots-replaced (a ∷ ads) (s ∷ slots) same held = by (slots-replaced ads slots (omega (arith, same))) (is_named own a) refl
    where
      by : (has own ads ≡ true → slots_without own (placed advert ads) slots ≡ slots_without own ads slots) → (b : Bool) → is_named own a ≡ b
          → slots_without own (placed advert (a ∷ ads)) (s ∷ slots) ≡ slots_without own (a ∷ ads) (s ∷ slots)
      by rest true is =
          ap (λ b. slots_without own (cond b (advert ∷ ads) (a ∷ placed advert ads)) (s ∷ slots)) is
          ∙ ap (λ b. cond b slots (s ∷ slots_without own ads slots)) (is_own_name advert)
          ∙ sym (ap (λ b. cond b slots (s ∷ slots_without own ads slots)) is)
      by rest false is =
          ap (λ b. slots_without own (cond b (advert ∷ ads) (a ∷ placed advert ads)) (s ∷ slots)) is
          ∙ ap (λ b. cond b slots (s ∷ slots_without own (placed advert ads) slots)) is
          ∙ ap (λ l. s ∷ l) (rest (sym (ap (λ b. b || has own ads) is) ∙ held))
          ∙ sym (ap (λ b. cond b slots (s ∷ slots_without own ads slots)) is)

  slots-put : (put : Put) (ads : List Advert) (slots : List ℕ) → length ads ≡ length slots → is_added put ≡ not (has own ads)
      → slots_without own (placed advert ads) (slots_put put slots) ≡ slots_without own ads slots
  slots-put (Put.Added slot) ads slots same added = slots-added slot ads slots same (not_true (has own ads) added)
  slots-put (Put.Replaced slot) ads slots same added = slots-replaced ads slots same (not_false (has own ads) added)

-- so the index without that ad is that of the ads before
pub others-put : (advert : Advert) (put : Put) (old new : Stock) → length old.ads ≡ length old.slots → is_added put ≡ not (has advert.name old.ads)
    → new.ads ≡ placed advert old.ads → new.slots ≡ slots_put put old.slots → stock_without advert.name new ≡ stock_without advert.name old
others-put advert put old new same added ads slots =
    ap (λ (s : Stock). stock_without advert.name s) (stock_is new (placed advert old.ads) (slots_put put old.slots) ads slots)
    ∙ (λ i. record { ads = ads-put advert old.ads i; slots = slots-put advert put old.ads old.slots same added i })
  where
    stock_is : (s : Stock) (xs : List Advert) (ys : List ℕ) → s.ads ≡ xs → s.slots ≡ ys → s ≡ record { ads = xs; slots = ys }
    stock_is s xs ys a b = λ i. record { ads = a i; slots = b i }

-- ---- answers that are Ok, or not

pub on_ok : {T E : Type 0} (r : Result T E) (P : Type 0) → is_err r ≡ false → OnOk r P → P
on_ok (Ok x) P ok holds = holds
on_ok (Err e) P ok holds = absurd (cc)

pub on_err : {T E : Type 0} (r : Result T E) (P : Type 0) → is_err r ≡ true → OnErr r P → P
on_err (Ok x) P err holds = absurd (cc)
on_err (Err e) P err holds = holds

-- the ad of a name that is held was withdrawn
pub withdrawn_stock : {T E : Type 0} (r : Result T E) (name : List ℕ) (old new : Stock) → has name old.ads ≡ true → OnOk r (new.ads ≡ without name old.ads)
    → OnOk r (new.slots ≡ slots_without name old.ads old.slots) → OnErr r (has name old.ads ≡ false) → new ≡ stock_without name old
withdrawn_stock (Ok x) name old new held ads slots none = λ i. record { ads = ads i; slots = slots i }
withdrawn_stock (Err e) name old new held ads slots none = absurd (cc)

unnamed : (name : List ℕ) (ads : List Advert) (slots : List ℕ) → has name ads ≡ false → slot_beside (is_named name) ads slots ≡ None
unnamed name [] slots none = refl
unnamed name (a ∷ ads) [] none = refl
unnamed name (a ∷ ads) (s ∷ slots) none =
    let parts = neither (is_named name a) (has name ads) none in
    ap (λ b. cond b (Some s) (slot_beside (is_named name) ads slots)) parts.0 ∙ unnamed name ads slots parts.1

-- ---- what the store did, and the rows

-- the rows behind a withdrawal are those without the name
pub withdrawn_rows : {T E : Type 0} (r : Result T E) (name : List ℕ) (old new : Stock) → OnOk r (new.ads ≡ without name old.ads)
    → OnOk r (new.slots ≡ slots_without name old.ads old.slots) → OnErr r (has name old.ads ≡ false) → OnErr r (new ≡ old)
    → rows_of new ≡ rows_of (stock_without name old)
withdrawn_rows (Ok x) name old new ads slots none same = λ i. rows_beside (ads i) (slots i)
withdrawn_rows (Err e) name old new ads slots none same =
    ap rows_of same ∙ sym (rows-unnamed name old.ads old.slots (unnamed name old.ads old.slots none))

-- the others are as they were, whether the ad was put or not
pub others_kept : {E : Type 0} (r : Result Put E) (advert : Advert) (old new : Stock) → length old.ads ≡ length old.slots
    → OnOk r (new.ads ≡ placed advert old.ads) → IfOk r (λ put. new.slots ≡ slots_put put old.slots)
    → IfOk r (λ put. is_added put ≡ not (has advert.name old.ads)) → OnErr r (new ≡ old) → stock_without advert.name new ≡ stock_without advert.name old
others_kept (Ok put) advert old new long ads slots added same = others-put advert put old new long added ads slots
others_kept (Err e) advert old new long ads slots added same = ap (stock_without advert.name) same

-- the index is that of the ads again
pub remembered : {T E : Type 0} (r : Result T E) (index : Index) (name : List ℕ) (put new : Stock) (A : Type 0) → OnOk r (A → IsKept index (rows_of put))
    → OnOk r (new ≡ put) → OnErr r (A → IsKept index (rows_of new)) → A → IsKept index (rows_of new)
remembered (Ok x) index name put new A all same gone others = subst (λ (s : Stock). IsKept index (rows_of s)) (sym same) (all others)
remembered (Err e) index name put new A all same gone others = gone others
