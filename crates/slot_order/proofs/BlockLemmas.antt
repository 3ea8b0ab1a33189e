-- Blocks of cells, and how many slots are in each.
use Rattle.std.proofs.Common.{◌≡◌, ◌≢◌, ℕ, zero, suc, ◌+◌, ◌-◌, ◌*◌, ◌<◌, ◌≤◌, ◌⊎◌, inl, inr, cond, List, [], ◌∷◌, ◌++◌, count_by, drop, filter}
use Rattle.std.proofs.Common.{length, length-append, min, get_or, slice_get, slice_set, sum, take, None, Some, is_some, refl, sym, ◌∙◌, ap, subst, arith}
use Rattle.std.proofs.Math.Seq.{take-add}
use Rattle.std.proofs.lemmas.Bool.{cases_order}
use Rattle.std.proofs.lemmas.List.{length-set}
use Rattle.std.proofs.lemmas.List.Recursion.{is_count_by}
use Rattle.std.proofs.lemmas.List.Sums.{count_by-le-length, length-filter, sum_by_more}
use Rattle.std.proofs.lemmas.Option.{none-some, same_Some, slice_get-get_or, slice_get_within}
use Rattle.slot_order.specs.Cells.{AreCounted, before, listed}
use Rattle.slot_order.proofs.CellLemmas.{Cell, no_gap}
use Rattle.slot_order.proofs.KeptLemmas.{get-other, get-same}

-- ---- how many slots stand before a cell

before-none : (k : ℕ) → before [] k ≡ 0
before-none zero = refl
before-none (suc k) = refl

before-more : (cells : List Cell) (k m : ℕ) → k ≤ m → before cells k ≤ before cells m
before-more [] k m le = omega (arith, before-none k)
before-more (c ∷ cells) zero m le = omega arith
before-more (c ∷ cells) (suc k) zero le = absurd (omega (arith, le))
before-more (None ∷ cells) (suc k) (suc m) le = before-more cells k m (omega (arith, le))
before-more (Some s ∷ cells) (suc k) (suc m) le = omega (arith, before-more cells k m (omega (arith, le)))

pub before-short : (cells : List Cell) (k : ℕ) → before cells k ≤ length cells
before-short [] k = omega (arith, before-none k)
before-short (c ∷ cells) zero = omega arith
before-short (None ∷ cells) (suc k) = omega (arith, before-short cells k)
before-short (Some s ∷ cells) (suc k) = omega (arith, before-short cells k)

pub before-all : (cells : List Cell) (k : ℕ) → length cells ≤ k → before cells k ≡ length (listed cells)
before-all [] k past = before-none k
before-all (c ∷ cells) zero past = absurd (omega (arith, past))
before-all (None ∷ cells) (suc k) past = before-all cells k (omega (arith, past))
before-all (Some s ∷ cells) (suc k) past = ap suc (before-all cells k (omega (arith, past)))

-- the slots of the cells from one on come behind those before it
pub drop-listed : (cells : List Cell) (k i : ℕ) → slice_get (listed (drop k cells)) i ≡ slice_get (listed cells) (before cells k + i)
drop-listed [] zero i = refl
drop-listed [] (suc k) i = refl
drop-listed (c ∷ cells) zero i = ap (slice_get (listed (c ∷ cells))) (omega arith)
drop-listed (None ∷ cells) (suc k) i = drop-listed cells k i
drop-listed (Some s ∷ cells) (suc k) i =
    let next : suc (before cells k + i) ≡ suc (before cells k) + i = omega arith in
    drop-listed cells k i ∙ ap (slice_get (s ∷ listed cells)) next

listed-more : (cells more : List Cell) → length (listed (cells ++ more)) ≡ length (listed cells) + length (listed more)
listed-more [] more = omega arith
listed-more (None ∷ cells) more = listed-more cells more
listed-more (Some s ∷ cells) more = omega (arith, listed-more cells more)

slots-some : (cells : List Cell) → length (listed cells) ≡ count_by is_some cells
slots-some cells = is_count_by (λ l. length (listed l)) is_some refl next cells
  where
    next : (cell : Cell) (cells : List Cell) → length (listed (cell ∷ cells)) ≡ cond (is_some cell) (1 + length (listed cells)) (length (listed cells))
    next None cells = refl
    next (Some s) cells = omega arith

-- the slots before a cell are those before another one and those between
pub before-range : (cells : List Cell) (from to : ℕ) → from ≤ to → before cells to ≡ before cells from + count_by is_some (take (to - from) (drop from cells))
before-range cells from to le =
    let sum : to ≡ from + (to - from) = omega (arith, le) in
    omega (
      arith,
      ap (before cells) sum,
      ap (λ l. length (listed l)) (take-add from (to - from) cells),
      listed-more (take from cells) (take (to - from) (drop from cells)),
      slots-some (take (to - from) (drop from cells)),
    )

-- ---- when cells change

module _ (slot : ℕ) where
  before-push : (cells : List Cell) (k : ℕ) → k ≤ length cells → before (cells ++ Some slot ∷ []) k ≡ before cells k
  before-push [] zero within = refl
  before-push [] (suc k) within = absurd (omega (arith, within))
  before-push (c ∷ cells) zero within = refl
  before-push (None ∷ cells) (suc k) within = before-push cells k (omega (arith, within))
  before-push (Some s ∷ cells) (suc k) within = ap suc (before-push cells k (omega (arith, within)))

  behind-push : (cells : List Cell) (k : ℕ) → length cells < k → before (cells ++ Some slot ∷ []) k ≡ suc (before cells k)
  behind-push [] zero past = absurd (omega (arith, past))
  behind-push [] (suc zero) past = refl
  behind-push [] (suc (suc k)) past = refl
  behind-push (c ∷ cells) zero past = absurd (omega (arith, past))
  behind-push (None ∷ cells) (suc k) past = behind-push cells k (omega (arith, past))
  behind-push (Some s ∷ cells) (suc k) past = ap suc (behind-push cells k (omega (arith, past)))

before-gone : (cells : List Cell) (cell k : ℕ) → k ≤ cell → before (slice_set cells cell None) k ≡ before cells k
before-gone [] cell k le = refl
before-gone (c ∷ cells) cell zero le = refl
before-gone (c ∷ cells) zero (suc k) le = absurd (omega (arith, le))
before-gone (None ∷ cells) (suc cell) (suc k) le = before-gone cells cell k (omega (arith, le))
before-gone (Some s ∷ cells) (suc cell) (suc k) le = ap suc (before-gone cells cell k (omega (arith, le)))

behind-gone : (cells : List Cell) (cell slot k : ℕ) → slice_get cells cell ≡ Some (Some slot) → cell < k
    → suc (before (slice_set cells cell None) k) ≡ before cells k
behind-gone [] cell slot k at past = absurd (none-some (Some slot) at)
behind-gone (c ∷ cells) cell slot zero at past = absurd (omega (arith, past))
behind-gone (None ∷ cells) zero slot (suc k) at past = absurd (no_gap slot at)
behind-gone (Some s ∷ cells) zero slot (suc k) at past = refl
behind-gone (None ∷ cells) (suc cell) slot (suc k) at past = behind-gone cells cell slot k at (omega (arith, past))
behind-gone (Some s ∷ cells) (suc cell) slot (suc k) at past = ap suc (behind-gone cells cell slot k at (omega (arith, past)))

before-full : (cells : List Cell) (k : ℕ) → before (filter is_some cells) k ≡ min k (length (filter is_some cells))
before-full [] k = omega (arith, before-none k)
before-full (None ∷ cells) k = before-full cells k
before-full (Some s ∷ cells) zero = omega arith
before-full (Some s ∷ cells) (suc k) = omega (arith, before-full cells k)

-- ---- the counts of the blocks

-- the counts of the blocks before a block are as many as the slots before its first cell
pub sum-counts : (cells : List Cell) (counts : List ℕ) → AreCounted cells counts → (block : ℕ) → block ≤ length counts
    → sum (take block counts) ≡ before cells (64 * block)
sum-counts cells counts kept zero within = refl
sum-counts cells counts kept (suc block) within =
    let here : block < length counts = omega (arith, within) in
    let next : block + 1 ≡ suc block = omega arith in
    let first : 64 * block + 64 ≡ 64 * suc block = omega arith in
    omega (
      arith,
      ap (λ k. sum (take k counts)) next,
      sum_by_more (λ n. n) counts block 0 here,
      sum-counts cells counts kept block (omega (arith, here)),
      kept.counted block (get_or counts block 0) (slice_get-get_or counts block 0 here),
      ap (before cells) first,
    )

-- zeros behind the counts are counts too
pub longer-counted : (cells : List Cell) (counts later : List ℕ) → AreCounted cells counts
    → ((k n : ℕ) → slice_get later k ≡ Some n → (slice_get counts k ≡ Some n) ⊎ ((n ≡ 0) × (length counts ≤ k))) → length counts ≤ length later
    → AreCounted cells later
longer-counted cells counts later kept zeros longer =
    record { counted = λ block count at. by block count (zeros block count at); reached = omega (arith, kept.reached, longer) }
  where
    by : (block count : ℕ) → (slice_get counts block ≡ Some count) ⊎ ((count ≡ 0) × (length counts ≤ block))
        → before cells (64 * block) + count ≡ before cells (64 * block + 64)
    by block count (inl at) = kept.counted block count at
    by block count (inr past) =
        let all : length cells ≤ 64 * block = omega (arith, kept.reached, past.1) in
        omega (arith, past.0, before-all cells (64 * block) all, before-all cells (64 * block + 64) (omega (arith, all)))

-- the counts when that of one block changes
module _ (cells : List Cell) (counts : List ℕ) (block count : ℕ) (within : block < length counts)
    (here : before cells (64 * block) + count ≡ before cells (64 * block + 64))
    (lower : (b n : ℕ) → b < block → slice_get counts b ≡ Some n → before cells (64 * b) + n ≡ before cells (64 * b + 64))
    (higher : (b n : ℕ) → block < b → slice_get counts b ≡ Some n → before cells (64 * b) + n ≡ before cells (64 * b + 64)) where
  put-counted : (b n : ℕ) → slice_get (slice_set counts block count) b ≡ Some n → before cells (64 * b) + n ≡ before cells (64 * b + 64)
  put-counted b n at = by (cases_order b block)
    where
      was : b ≢ block → slice_get counts b ≡ Some n
      was other = sym (get-other counts block b count other) ∙ at

      by : (b ≡ block) ⊎ ((b < block) ⊎ (block < b)) → before cells (64 * b) + n ≡ before cells (64 * b + 64)
      by (inl same) =
          let new : count ≡ n = same_Some count n (sym (get-same counts block count within) ∙ ap (slice_get (slice_set counts block count)) (sym same) ∙ at) in
          subst (λ k. before cells (64 * k) + n ≡ before cells (64 * k + 64)) (sym same)
          (subst (λ m. before cells (64 * block) + m ≡ before cells (64 * block + 64)) new here)
      by (inr (inl below)) = lower b n below (was (omega (arith, below)))
      by (inr (inr above)) = higher b n above (was (omega (arith, above)))

pub push-counted : (cells : List Cell) (counts : List ℕ) (slot block count : ℕ) → AreCounted cells counts
    → 64 * block ≤ length cells → length cells < 64 * block + 64
    → slice_get counts block ≡ Some count → AreCounted (cells ++ Some slot ∷ []) (slice_set counts block (count + 1))
push-counted cells counts slot block count kept from to at =
    record {
      counted = put-counted (cells ++ Some slot ∷ []) counts block (count + 1) within here lower higher;
      reached = omega (arith, kept.reached, within, to, length-set counts block (count + 1), length-append cells (Some slot ∷ []));
    }
  where
    within : block < length counts
    within = slice_get_within counts block count at

    here : before (cells ++ Some slot ∷ []) (64 * block) + (count + 1) ≡ before (cells ++ Some slot ∷ []) (64 * block + 64)
    here = omega (arith, kept.counted block count at, before-push slot cells (64 * block) from, behind-push slot cells (64 * block + 64) to)

    lower : (b n : ℕ) → b < block → slice_get counts b ≡ Some n
        → before (cells ++ Some slot ∷ []) (64 * b) + n ≡ before (cells ++ Some slot ∷ []) (64 * b + 64)
    lower b n below at_b =
        omega (
          arith,
          kept.counted b n at_b,
          before-push slot cells (64 * b) (omega (arith, below, from)),
          before-push slot cells (64 * b + 64) (omega (arith, below, from)),
        )

    higher : (b n : ℕ) → block < b → slice_get counts b ≡ Some n
        → before (cells ++ Some slot ∷ []) (64 * b) + n ≡ before (cells ++ Some slot ∷ []) (64 * b + 64)
    higher b n above at_b =
        omega (
          arith,
          kept.counted b n at_b,
          behind-push slot cells (64 * b) (omega (arith, above, to)),
          behind-push slot cells (64 * b + 64) (omega (arith, above, to)),
        )

module _ (cells : List Cell) (counts : List ℕ) (cell slot block count : ℕ) (kept : AreCounted cells counts) (slot_at : slice_get cells cell ≡ Some (Some slot))
    (from : 64 * block ≤ cell) (to : cell < 64 * block + 64) (at : slice_get counts block ≡ Some count) where
  pub gone-some : 1 ≤ count
  gone-some =
      omega (
        arith,
        kept.counted block count at,
        before-gone cells cell (64 * block) from,
        behind-gone cells cell slot (64 * block + 64) slot_at to,
        before-more (slice_set cells cell None) (64 * block) (64 * block + 64) (omega arith),
      )

  pub gone-counted : AreCounted (slice_set cells cell None) (slice_set counts block (count - 1))
  gone-counted =
      record {
        counted = put-counted (slice_set cells cell None) counts block (count - 1) (slice_get_within counts block count at) here lower higher;
        reached = omega (arith, kept.reached, length-set counts block (count - 1), length-set cells cell None);
      }
    where
      here : before (slice_set cells cell None) (64 * block) + (count - 1) ≡ before (slice_set cells cell None) (64 * block + 64)
      here =
          omega (
            arith,
            gone-some,
            kept.counted block count at,
            before-gone cells cell (64 * block) from,
            behind-gone cells cell slot (64 * block + 64) slot_at to,
          )

      lower : (b n : ℕ) → b < block → slice_get counts b ≡ Some n
          → before (slice_set cells cell None) (64 * b) + n ≡ before (slice_set cells cell None) (64 * b + 64)
      lower b n below at_b =
          omega (
            arith,
            kept.counted b n at_b,
            before-gone cells cell (64 * b) (omega (arith, below, from)),
            before-gone cells cell (64 * b + 64) (omega (arith, below, from)),
          )

      higher : (b n : ℕ) → block < b → slice_get counts b ≡ Some n
          → before (slice_set cells cell None) (64 * b) + n ≡ before (slice_set cells cell None) (64 * b + 64)
      higher b n above at_b =
          omega (
            arith,
            kept.counted b n at_b,
            behind-gone cells cell slot (64 * b) slot_at (omega (arith, above, to)),
            behind-gone cells cell slot (64 * b + 64) slot_at (omega (arith, above, to)),
          )

pub closed-counted : (cells : List Cell) (counts later : List ℕ) → AreCounted cells counts → length later ≡ length counts
    → ((block count : ℕ) → slice_get later block ≡ Some count → count ≡ min (length (filter is_some cells) - 64 * block) 64)
    → AreCounted (filter is_some cells) later
closed-counted cells counts later kept same full =
    record {
      counted = λ block count at. omega (arith, full block count at, before-full cells (64 * block), before-full cells (64 * block + 64));
      reached = omega (arith, kept.reached, length-filter is_some cells, count_by-le-length is_some cells, same);
    }
