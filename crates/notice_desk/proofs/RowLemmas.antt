-- The rows of a desk at a name that is there, and at one that is absent.
use Rattle.std.proofs.Common.{◌≡◌, ◌≢◌, ℕ, zero, suc, ◌↔◌, Bool, true, false, cond, not, ◌&&◌, List, [], ◌∷◌, filter, slice_get}
use Rattle.std.proofs.Common.{slice_set, remove, Option, None, Some, IsNone, IsSome, bytes_eq, is_some, true≢false, refl, sym, ◌∙◌, ap, subst}
use Rattle.std.specs.List.{AllZip}
use Rattle.std.proofs.lemmas.List.Elements.{All-head, All-tail}
use Rattle.notice_desk.specs.Desk.{Held, Row, HeldPosts, RowPosts, Posts, box_under, failures_under, leaves_with, names_of, without}
use Rattle.notice_desk.specs.Names.{AreDistinct, IsAbsent}
use Rattle.notice_desk.specs.declared.notices.PostEnd.{PostEnd}
use Rattle.notice_desk.specs.declared.notices.PostEnd.TheVariants.{NoBox, Delivered, Failed}
use Rattle.notice_desk.proofs.ListLemmas.{slice_get-map}
use Rattle.notice_desk.proofs.NameLemmas.{same_name, other_name, distinct_tail, absent_behind, apart_at}

-- ---- a name that is absent

module _ (name : List ℕ) where
  first : (row : Row) (rows : List Row) → IsAbsent name (names_of (row ∷ rows)) → bytes_eq row.name name ≡ false
  first row rows absent = other_name row.name name (All-head (λ other. other ≢ name) row.name (names_of rows) absent)

  later : (row : Row) (rows : List Row) → IsAbsent name (names_of (row ∷ rows)) → IsAbsent name (names_of rows)
  later row rows absent = All-tail (λ other. other ≢ name) row.name (names_of rows) absent

  pub box-absent : (rows : List Row) → IsAbsent name (names_of rows) → box_under name rows ≡ None
  box-absent [] absent = refl
  box-absent (row ∷ rows) absent = ap (λ b. cond b row.held (box_under name rows)) (first row rows absent) ∙ box-absent rows (later row rows absent)

  pub failures-absent : (rows : List Row) → IsAbsent name (names_of rows) → failures_under name rows ≡ None
  failures-absent [] absent = refl
  failures-absent (row ∷ rows) absent =
      ap (λ b. cond b (Some row.failures) (failures_under name rows)) (first row rows absent) ∙ failures-absent rows (later row rows absent)

  pub without-absent : (rows : List Row) → IsAbsent name (names_of rows) → without name rows ≡ rows
  without-absent [] absent = refl
  without-absent (row ∷ rows) absent =
      ap (λ b. cond (not b) (row ∷ without name rows) (without name rows)) (first row rows absent)
      ∙ ap (λ rs. row ∷ rs) (without-absent rows (later row rows absent))

  pub leaves-absent : (rows : List Row) → IsAbsent name (names_of rows) → filter (leaves_with name) rows ≡ []
  leaves-absent [] absent = refl
  leaves-absent (row ∷ rows) absent =
      ap (λ b. cond (b && is_some row.held) (row ∷ filter (leaves_with name) rows) (filter (leaves_with name) rows)) (first row rows absent)
      ∙ leaves-absent rows (later row rows absent)

  pub posts-absent : (notice : List ℕ) (end : PostEnd) (rows : List Row) → IsAbsent name (names_of rows) → AllZip (Posts name notice end) rows rows
  posts-absent notice end [] absent = tt
  posts-absent notice end (row ∷ rows) absent = (
    record { under = λ e. absurd (All-head (λ other. other ≢ name) row.name (names_of rows) absent e); others = λ ne. refl },
    posts-absent notice end rows (later row rows absent),
  )

-- ---- a name at a place

-- a name that stands somewhere is known
pub failures-known : (name : List ℕ) (rows : List Row) (i : ℕ) → slice_get (names_of rows) i ≡ Some name → IsSome (failures_under name rows)
failures-known name [] i is = absurd (cc)
failures-known name (row ∷ rows) i is = by (failures-known name rows) (bytes_eq row.name name) refl i is
  where
    by : ((j : ℕ) → slice_get (names_of rows) j ≡ Some name → IsSome (failures_under name rows)) → (b : Bool) → bytes_eq row.name name ≡ b
        → (j : ℕ) → slice_get (names_of (row ∷ rows)) j ≡ Some name → is_some (cond b (Some row.failures) (failures_under name rows)) ≡ true
    by rest true e j is = refl
    by rest false e zero is = let same : row.name ≡ name = cc in absurd (true≢false (sym (same_name row.name name same) ∙ e))
    by rest false e (suc j) is = rest j is

module _ (name : List ℕ) (row : Row) (named : row.name ≡ name) where
  -- the row at the front has the name
  here : (r : Row) (rows : List Row) → slice_get (r ∷ rows) zero ≡ Some row → r.name ≡ name
  here r rows is = let same : r ≡ row = cc in ap (λ x. x.name) same ∙ named

  -- the name stands behind the first row, which has another
  behind : (r : Row) (rows : List Row) (i : ℕ) → slice_get rows i ≡ Some row → AreDistinct (names_of (r ∷ rows)) → r.name ≢ name
  behind r rows i is apart = λ e. apart_at r.name (names_of rows) i row.name apart (slice_get-map (λ (x : Row). x.name) rows i row is) (e ∙ sym named)

  -- behind the row with the name it is absent
  none_behind : (r : Row) (rows : List Row) → r.name ≡ name → AreDistinct (names_of (r ∷ rows)) → IsAbsent name (names_of rows)
  none_behind r rows e apart = subst (λ n. IsAbsent n (names_of rows)) e (absent_behind r.name (names_of rows) apart)

  pub box-there : (rows : List Row) (i : ℕ) → slice_get rows i ≡ Some row → AreDistinct (names_of rows) → box_under name rows ≡ row.held
  box-there [] i is apart = absurd (cc)
  box-there (r ∷ rows) zero is apart =
      let same : r ≡ row = cc in ap (λ b. cond b r.held (box_under name rows)) (same_name r.name name (here r rows is)) ∙ ap (λ x. x.held) same
  box-there (r ∷ rows) (suc i) is apart =
      ap (λ b. cond b r.held (box_under name rows)) (other_name r.name name (behind r rows i is apart))
      ∙ box-there rows i is (distinct_tail r.name (names_of rows) apart)

  pub failures-there : (rows : List Row) (i : ℕ) → slice_get rows i ≡ Some row → AreDistinct (names_of rows)
      → failures_under name rows ≡ Some row.failures
  failures-there [] i is apart = absurd (cc)
  failures-there (r ∷ rows) zero is apart =
      let same : r ≡ row =
      cc in ap (λ b. cond b (Some r.failures) (failures_under name rows)) (same_name r.name name (here r rows is)) ∙ ap (λ (x : Row). Some x.failures) same
  failures-there (r ∷ rows) (suc i) is apart =
      ap (λ b. cond b (Some r.failures) (failures_under name rows)) (other_name r.name name (behind r rows i is apart))
      ∙ failures-there rows i is (distinct_tail r.name (names_of rows) apart)

  pub without-there : (rows : List Row) (i : ℕ) → slice_get rows i ≡ Some row → AreDistinct (names_of rows) → remove rows i ≡ without name rows
  without-there [] i is apart = absurd (cc)
  without-there (r ∷ rows) zero is apart =
      let e = here r rows is in
      sym (ap (λ b. cond (not b) (r ∷ without name rows) (without name rows)) (same_name r.name name e)
      ∙ without-absent name rows (none_behind r rows e apart))
  without-there (r ∷ rows) (suc i) is apart =
      ap (λ rs. r ∷ rs) (without-there rows i is (distinct_tail r.name (names_of rows) apart))
      ∙ sym (ap (λ b. cond (not b) (r ∷ without name rows) (without name rows)) (other_name r.name name (behind r rows i is apart)))

  -- the row with the name leaves where it has a box
  pub leaves-there : (rows : List Row) (i : ℕ) → slice_get rows i ≡ Some row → AreDistinct (names_of rows)
      → filter (leaves_with name) rows ≡ cond (is_some row.held) (row ∷ []) []
  leaves-there [] i is apart = absurd (cc)
  leaves-there (r ∷ rows) zero is apart =
      let same : r ≡ row = cc in
      let e = here r rows is in
      ap (λ b. cond (b && is_some r.held) (r ∷ filter (leaves_with name) rows) (filter (leaves_with name) rows)) (same_name r.name name e)
      ∙ ap (λ rs. cond (is_some r.held) (r ∷ rs) rs) (leaves-absent name rows (none_behind r rows e apart))
      ∙ ap (λ (x : Row). cond (is_some x.held) (x ∷ []) []) same
  leaves-there (r ∷ rows) (suc i) is apart =
      ap (λ b. cond (b && is_some r.held) (r ∷ filter (leaves_with name) rows) (filter (leaves_with name) rows))
      (other_name r.name name (behind r rows i is apart))
      ∙ leaves-there rows i is (distinct_tail r.name (names_of rows) apart)

  pub posts-there : (notice : List ℕ) (end : PostEnd) (new : Row) (rows : List Row) (i : ℕ) → slice_get rows i ≡ Some row
      → AreDistinct (names_of rows) → RowPosts notice end row new → AllZip (Posts name notice end) rows (slice_set rows i new)
  posts-there notice end new [] i is apart posts = absurd (cc)
  posts-there notice end new (r ∷ rows) zero is apart posts =
      let same : r ≡ row = cc in
      let e = here r rows is in (
        record { under = λ _. subst (λ x. RowPosts notice end x new) (sym same) posts; others = λ ne. absurd (ne e) },
        posts-absent name notice end rows (none_behind r rows e apart),
      )
  posts-there notice end new (r ∷ rows) (suc i) is apart posts = (
    record { under = λ e. absurd (behind r rows i is apart e); others = λ ne. refl },
    posts-there notice end new rows i is (distinct_tail r.name (names_of rows) apart) posts,
  )

-- ---- no box

-- a post finds no box exactly where none stands there
pub no_box_iff : (notice : List ℕ) (end : PostEnd) (old new : Option Held) → HeldPosts notice end old new → (end ≡ NoBox) ↔ IsNone old
no_box_iff notice NoBox None None posts = (λ _. refl, λ _. refl)
no_box_iff notice NoBox None (Some n) posts = absurd posts
no_box_iff notice NoBox (Some o) None posts = absurd posts
no_box_iff notice NoBox (Some o) (Some n) posts = absurd posts
no_box_iff notice Delivered None None posts = absurd posts
no_box_iff notice Delivered None (Some n) posts = absurd posts
no_box_iff notice Delivered (Some o) None posts = absurd posts
no_box_iff notice Delivered (Some o) (Some n) posts = (λ e. absurd (cc), λ e. absurd (cc))
no_box_iff notice Failed None None posts = absurd posts
no_box_iff notice Failed None (Some n) posts = absurd posts
no_box_iff notice Failed (Some o) None posts = absurd posts
no_box_iff notice Failed (Some o) (Some n) posts = (λ e. absurd (cc), λ e. absurd (cc))
