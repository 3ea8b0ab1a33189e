-- Marked boxes that are dropped from the front on.
use Rattle.std.proofs.Common.{◌≡◌, ℕ, zero, suc, ◌+◌, true, false, List, [], ◌∷◌, ◌++◌, filter, map, take, drop, count_by, slice_get}
use Rattle.std.proofs.Common.{slice_set, Some, refl, sym, ◌∙◌, ap, add-one, append_assoc}
use Rattle.std.proofs.lemmas.List.Elements.{filter_more}
use Rattle.std.proofs.lemmas.List.Sums.{count_by_more_yes, count_by_more_no}
use Rattle.std.proofs.lemmas.Option.{get_or_from_slice_get, slice_get_within}
use Rattle.notice_desk.specs.Desk.{Row, is_marked, marked_row, names_of, retired}

-- the first rows are retired, the others stay, and the count is that of the marked ones among the first
pub record Retiring (start now : List Row) (i count : ℕ) : Type 0 where
  pub rows : now ≡ map retired (take i start) ++ drop i start
  pub counted : count ≡ count_by is_marked (take i start)

-- the next row is still as it was
next : (start : List Row) (i : ℕ) → slice_get (map retired (take i start) ++ drop i start) i ≡ slice_get start i
next [] zero = refl
next [] (suc i) = refl
next (row ∷ rows) zero = refl
next (row ∷ rows) (suc i) = next rows i

-- one row more
one_more : (start : List Row) (i : ℕ) (old : Row) → slice_get start i ≡ Some old
    → slice_set (map retired (take i start) ++ drop i start) i (retired old) ≡ map retired (take (suc i) start) ++ drop (suc i) start
one_more [] i old is = absurd (cc)
one_more (row ∷ rows) zero old is = let same : row ≡ old = cc in ap (λ r. retired r ∷ rows) (sym same)
one_more (row ∷ rows) (suc i) old is = ap (λ rs. retired row ∷ rs) (one_more rows i old is)

-- a row that is still to come is as it was at the start
pub still-there : (start now : List Row) (i count : ℕ) (old : Row) → Retiring start now i count → slice_get now i ≡ Some old
    → slice_get start i ≡ Some old
still-there start now i count old so_far is = sym (next start i) ∙ ap (λ rs. slice_get rs i) (sym so_far.rows) ∙ is

module _ (start now : List Row) (i count : ℕ) (old new : Row) (so_far : Retiring start now i count) (is : slice_get now i ≡ Some old)
    (changed : new ≡ retired old) where
  there : slice_get start i ≡ Some old
  there = still-there start now i count old so_far is

  rows_more : slice_set now i new ≡ map retired (take (i + 1) start) ++ drop (i + 1) start
  rows_more =
      ap (λ rs. slice_set rs i new) so_far.rows ∙ ap (λ r. slice_set (map retired (take i start) ++ drop i start) i r) changed
      ∙ one_more start i old there
      ∙ ap (λ n. map retired (take n start) ++ drop n start) (sym (add-one i))

  pub retiring-marked : is_marked old ≡ true → Retiring start (slice_set now i new) (i + 1) (count + 1)
  retiring-marked is_so = record {
    rows = rows_more;
    counted =
        ap (λ n. n + 1) so_far.counted ∙ sym (count_by_more_yes is_marked start i old (slice_get_within start i old there) (ap is_marked
        (get_or_from_slice_get start i old old there) ∙ is_so));
  }

  pub retiring-unmarked : is_marked old ≡ false → Retiring start (slice_set now i new) (i + 1) count
  retiring-unmarked isnt = record {
    rows = rows_more;
    counted =
        so_far.counted ∙ sym (count_by_more_no is_marked start i old (slice_get_within start i old there)
        (ap is_marked (get_or_from_slice_get start i old old there) ∙ isnt));
  }

-- one row more is behind those that left, where it is marked
pub leaving-more : (start before left left_more : List Row) (i : ℕ) (row : Row) → slice_get start i ≡ Some row
    → left ≡ before ++ filter is_marked (take i start) → left_more ≡ left ++ marked_row row
    → left_more ≡ before ++ filter is_marked (take (i + 1) start)
leaving-more start before left left_more i row there so_far more =
    more ∙ ap (λ rs. rs ++ marked_row row) so_far ∙ append_assoc before (filter is_marked (take i start)) (marked_row row)
    ∙ ap (λ rs. before ++ rs) (sym (filter_more is_marked start i row (slice_get_within start i row there)
    ∙ ap (λ r. filter is_marked (take i start) ++ marked_row r) (get_or_from_slice_get start i row row there)))

-- the names stay
pub names-retired : (rows : List Row) → names_of (map retired rows) ≡ names_of rows
names-retired [] = refl
names-retired (row ∷ rows) = ap (λ names. row.name ∷ names) (names-retired rows)
