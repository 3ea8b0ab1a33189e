-- How the rows of a store change with it, for those who keep an index of them.
use Rattle.std.proofs.Common.{◌≡◌, ℕ, suc, Bool, true, false, refl, List, [], ◌∷◌, ◌++◌, length, map, None, Some, slice_get}
use Rattle.std.proofs.Common.{if◌then◌else◌, nat_eq, ap, sym, ◌∙◌, subst, arith}
use Rattle.std.proofs.lemmas.Bool.{eqb-true}
use Rattle.ad_tree.specs.Frames.{Frame}
use Rattle.ad_store.specs.Stock.{Advert, is_named, placed, slot_beside, slots_without, without}
use Rattle.literal_index.specs.Rows.{Row, ad_under, row_of}
use Rattle.ad_candidates.specs.Rows.{rows_beside}
use Rattle.ad_candidates.proofs.PlaceLemmas.{AreApart}

-- ---- an ad under a name that there is

-- the rows round the ad of a name: its place, itself with its slot, and the rows before and behind it
pub record IsRound (name : List ℕ) (ads : List Advert) (slots : List ℕ) (slot : ℕ) : Type 0 where
  pub place : ℕ
  pub old : Advert
  pub before : List Row
  pub after : List Row
  pub ad_there : slice_get ads place ≡ Some old
  pub slot_there : slice_get slots place ≡ Some slot
  pub rows : rows_beside ads slots ≡ before ++ row_of slot old.ad ∷ after
  pub replaced : (advert : Advert) → advert.name ≡ name → rows_beside (placed advert ads) slots ≡ before ++ row_of slot advert.ad ∷ after
  pub withdrawn : rows_beside (without name ads) (slots_without name ads slots) ≡ before ++ after

round-here : (name : List ℕ) (a : Advert) (ads : List Advert) (s slot : ℕ) (slots : List ℕ) → is_named name a ≡ true → s ≡ slot
    → IsRound name (a ∷ ads) (s ∷ slots) slot
round-here name a ads s slot slots named one = record {
  place = 0;
  old = a;
  before = [];
  after = rows_beside ads slots;
  ad_there = refl;
  slot_there = ap Some one;
  rows = ap (λ (n : ℕ). row_of n a.ad ∷ rows_beside ads slots) one;
  replaced = λ advert is.
      ap (λ (b : Bool). rows_beside (if b then advert ∷ ads else a ∷ placed advert ads) (s ∷ slots)) (ap (λ (x : List ℕ). is_named x a) is ∙ named)
      ∙ ap (λ (n : ℕ). row_of n advert.ad ∷ rows_beside ads slots) one;
  withdrawn = ap (λ (b : Bool). rows_beside (if b then ads else a ∷ without name ads) (if b then slots else s ∷ slots_without name ads slots)) named;
}

round-behind : (name : List ℕ) (a : Advert) (ads : List Advert) (s slot : ℕ) (slots : List ℕ) → is_named name a ≡ false
    → IsRound name ads slots slot → IsRound name (a ∷ ads) (s ∷ slots) slot
round-behind name a ads s slot slots other r = record {
  place = suc r.place;
  old = r.old;
  before = row_of s a.ad ∷ r.before;
  after = r.after;
  ad_there = r.ad_there;
  slot_there = r.slot_there;
  rows = ap (λ (rows : List Row). row_of s a.ad ∷ rows) r.rows;
  replaced = λ advert is.
      ap (λ (b : Bool). rows_beside (if b then advert ∷ ads else a ∷ placed advert ads) (s ∷ slots)) (ap (λ (x : List ℕ). is_named x a) is ∙ other)
      ∙ ap (λ (rows : List Row). row_of s a.ad ∷ rows) (r.replaced advert is);
  withdrawn =
      ap (λ (b : Bool). rows_beside (if b then ads else a ∷ without name ads) (if b then slots else s ∷ slots_without name ads slots)) other
      ∙ ap (λ (rows : List Row). row_of s a.ad ∷ rows) r.withdrawn;
}

-- a name that has a slot has rows round it
pub rows-round : (name : List ℕ) (ads : List Advert) (slots : List ℕ) (slot : ℕ) → slot_beside (is_named name) ads slots ≡ Some slot
    → IsRound name ads slots slot
rows-round name [] slots slot e = absurd (cc)
rows-round name (a ∷ ads) [] slot e = absurd (cc)
rows-round name (a ∷ ads) (s ∷ slots) slot e = by (λ h. rows-round name ads slots slot h) (is_named name a) refl e
  where
    by : (slot_beside (is_named name) ads slots ≡ Some slot → IsRound name ads slots slot) → (b : Bool) → is_named name a ≡ b
        → (if b then Some s else slot_beside (is_named name) ads slots) ≡ Some slot → IsRound name (a ∷ ads) (s ∷ slots) slot
    by behind true named h = round-here name a ads s slot slots named cc
    by behind false other h = round-behind name a ads s slot slots other (behind h)

-- ---- slots that are apart

slots-of-rows : (ads : List Advert) (slots : List ℕ) → length ads ≡ length slots → map (λ (row : Row). row.slot) (rows_beside ads slots) ≡ slots
slots-of-rows [] [] same = refl
slots-of-rows [] (s ∷ slots) same = absurd (omega (arith, same))
slots-of-rows (a ∷ ads) [] same = absurd (omega (arith, same))
slots-of-rows (a ∷ ads) (s ∷ slots) same = ap (λ (l : List ℕ). s ∷ l) (slots-of-rows ads slots (omega (arith, same)))

tail-apart : (s : ℕ) (slots : List ℕ) → AreApart (s ∷ slots) → AreApart slots
tail-apart s slots apart i j slot h k = let same : suc i ≡ suc j = apart (suc i) (suc j) slot h k in omega (arith, same)

not-among : (slot : ℕ) (rows : List Row) → ((i : ℕ) → slice_get (map (λ (row : Row). row.slot) rows) i ≡ Some slot → ⊥)
    → ad_under slot rows ≡ None
not-among slot [] never = refl
not-among slot (row ∷ rows) never = by (not-among slot rows (λ i is. never (suc i) is)) (nat_eq row.slot slot) refl
  where
    by : ad_under slot rows ≡ None → (b : Bool) → nat_eq row.slot slot ≡ b → (if b then Some row.ad else ad_under slot rows) ≡ None
    by behind true same = absurd (never 0 (ap Some (eqb-true row.slot slot same)))
    by behind false other = behind

behind : (before : List Row) (slot : ℕ) (ad : List Frame) (after : List Row)
    → slice_get (map (λ (row : Row). row.slot) (before ++ row_of slot ad ∷ after)) (length before) ≡ Some slot
behind [] slot ad after = refl
behind (row ∷ before) slot ad after = behind before slot ad after

none-under : (before : List Row) (slot : ℕ) (ad : List Frame) (after : List Row)
    → AreApart (map (λ (row : Row). row.slot) (before ++ row_of slot ad ∷ after)) → ad_under slot (before ++ after) ≡ None
none-under [] slot ad after apart =
    not-among slot after (λ i is. let same : 0 ≡ suc i = apart 0 (suc i) slot refl is in omega (arith, same))
none-under (row ∷ before) slot ad after apart =
    by (none-under before slot ad after (tail-apart row.slot (map (λ (row : Row). row.slot) (before ++ row_of slot ad ∷ after)) apart))
    (nat_eq row.slot slot) refl
  where
    by : ad_under slot (before ++ after) ≡ None → (b : Bool) → nat_eq row.slot slot ≡ b
        → (if b then Some row.ad else ad_under slot (before ++ after)) ≡ None
    by rest true same =
        let clash : 0 ≡ suc (length before) = apart 0 (suc (length before)) slot (ap Some (eqb-true row.slot slot same)) (behind before slot ad after) in
        absurd (omega (arith, clash))
    by rest false other = rest

-- an ad's slot is under no other row
pub alone-under : (ads : List Advert) (slots : List ℕ) (before : List Row) (slot : ℕ) (ad : List Frame) (after : List Row) → length ads ≡ length slots
    → AreApart slots
    → rows_beside ads slots ≡ before ++ row_of slot ad ∷ after → ad_under slot (before ++ after) ≡ None
alone-under ads slots before slot ad after same apart are =
    none-under before slot ad after (subst AreApart (sym (slots-of-rows ads slots same) ∙ ap (map (λ (row : Row). row.slot)) are) apart)
