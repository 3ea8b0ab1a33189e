-- Posts one after the other.
use Rattle.std.proofs.Common.{◌≡◌, ◌≢◌, ◌↔◌, ◌≤◌, ◌<◌, ℕ, suc, zero, ◌+◌, Bool, true}
use Rattle.std.proofs.Common.{false, cond, List, [], ◌∷◌, ◌++◌, filter, length, map, take, Option, None}
use Rattle.std.proofs.Common.{Some, IsNone, OnOk, Result, Ok, Err, option_map, bytes_eq, refl, sym, ◌∙◌, ap, subst, inl, inr, arith, add-one, append_assoc}
use Rattle.std.proofs.Common.{true≢false, slice_get}
use Rattle.std.specs.List.{AllZip, flat_map}
use Rattle.std.proofs.lemmas.Bool.{cases_Bool, false_from_ne_true}
use Rattle.std.proofs.lemmas.Grind.{flat_map-append}
use Rattle.std.proofs.lemmas.List.{append-nil, map-append}
use Rattle.std.proofs.lemmas.List.Elements.{filter-append}
use Rattle.std.proofs.lemmas.List.Sums.{fold-append}
use Rattle.std.proofs.lemmas.Slice.Eq.{bytes_eq-Decides}
use Rattle.pool_io.specs.Flow.{Rose}
use Rattle.pool_io.specs.Memory.{next_count}
use Rattle.notice_desk.specs.Desk.{Held, HeldPosts, Posts, Row, box_under, failures_after, is_marked, retired, unmarked}
use Rattle.notice_desk.specs.declared.notices.PostEnd.{PostEnd}
use Rattle.notice_desk.specs.declared.notices.PostEnd.TheVariants.{NoBox, Delivered, Failed}
use Rattle.pool_state.specs.Posting.{ArePosted, DeskState, HeldAfter, IsPosted, Kept, Post, RowAfter, calls_after, desk_of, lines_to, post_to, swept}
use Rattle.pool_state.specs.Posting.{with_feeds}

-- ---- lists of rows

pub zip_both : {A : Type 0} (R S T : A → A → Type 0) → ((x y z : A) → R x y → S y z → T x z) → (xs ys zs : List A) → AllZip R xs ys → AllZip S ys zs
    → AllZip T xs zs
zip_both R S T both [] [] [] first second = tt
zip_both R S T both [] [] (z ∷ zs) first second = absurd second
zip_both R S T both [] (y ∷ ys) zs first second = absurd first
zip_both R S T both (x ∷ xs) [] zs first second = absurd first
zip_both R S T both (x ∷ xs) (y ∷ ys) [] first second = absurd second
zip_both R S T both (x ∷ xs) (y ∷ ys) (z ∷ zs) first second = (both x y z first.0 second.0, zip_both R S T both xs ys zs first.1 second.1)

pub zip_more : {A : Type 0} (R T : A → A → Type 0) → ((x y : A) → R x y → T x y) → (xs ys : List A) → AllZip R xs ys → AllZip T xs ys
zip_more R T more [] [] all = tt
zip_more R T more [] (y ∷ ys) all = absurd all
zip_more R T more (x ∷ xs) [] all = absurd all
zip_more R T more (x ∷ xs) (y ∷ ys) all = (more x y all.0, zip_more R T more xs ys all.1)

pub zip_same : {A : Type 0} (R : A → A → Type 0) → ((x : A) → R x x) → (xs : List A) → AllZip R xs xs
zip_same R same [] = tt
zip_same R same (x ∷ xs) = (same x, zip_same R same xs)

-- each of the second list is changed further
pub zip_map : {A : Type 0} (R T : A → A → Type 0) (f : A → A) → ((x y : A) → R x y → T x (f y)) → (xs ys : List A) → AllZip R xs ys → AllZip T xs (map f ys)
zip_map R T f more [] [] all = tt
zip_map R T f more [] (y ∷ ys) all = absurd all
zip_map R T f more (x ∷ xs) [] all = absurd all
zip_map R T f more (x ∷ xs) (y ∷ ys) all = (more x y all.0, zip_map R T f more xs ys all.1)

-- ---- a box

taken_nil : (taken : Option (List ℕ)) → taken ≡ option_map (λ bytes. bytes ++ []) taken
taken_nil None = refl
taken_nil (Some bytes) = ap Some (sym (append-nil bytes))

pub Kept-none : (held : Held) → Kept [] held held
Kept-none held = record {
  took = taken_nil held.taking.taken;
  called = refl;
  never_less = omega arith;
  rose = λ some. absurd (omega (arith, some));
  later = omega arith;
  failed = refl;
}

feeds_both : (a b : List (List ℕ)) (taken : Option (List ℕ))
    → option_map (λ bytes. bytes ++ with_feeds b) (option_map (λ bytes. bytes ++ with_feeds a) taken) ≡ option_map (λ bytes. bytes ++ with_feeds (a ++ b)) taken
feeds_both a b None = refl
feeds_both a b (Some bytes) =
    ap Some (append_assoc bytes (with_feeds a) (with_feeds b) ∙ ap (λ l. bytes ++ l) (sym (flat_map-append (λ line. line ++ 10 ∷ []) a b)))

rose_both : (a b : List (List ℕ)) (x y z : ℕ) → y ≡ calls_after a x → y ≤ z → (0 < length a → Rose x y) → (0 < length b → Rose y z) → 0 < length (a ++ b)
    → Rose x z
rose_both [] b x y z is later first second some = subst (λ n. Rose n z) is (second some)
rose_both (line ∷ a) b x y z is later first second some = let rose : Rose x y = first (omega arith) in omega (arith, rose, later)

pub Kept-both : (a b : List (List ℕ)) (o m n : Held) → Kept a o m → Kept b m n → Kept (a ++ b) o n
Kept-both a b o m n first second = record {
  took = second.took ∙ ap (option_map (λ bytes. bytes ++ with_feeds b)) first.took ∙ feeds_both a b o.taking.taken;
  called = second.called ∙ ap (calls_after b) first.called ∙ sym (fold-append (λ k line. next_count k) o.taking.calls a b);
  never_less = omega (arith, first.never_less, second.never_less);
  rose = rose_both a b o.taking.calls m.taking.calls n.taking.calls first.called second.never_less first.rose second.rose;
  later = omega (arith, first.later, second.later);
  failed = second.failed ∙ first.failed;
}

-- a box after some lines, and then after more
held_both : (a b : List (List ℕ)) (o : Option Held) (f : ℕ) (m : Option Held) (g : ℕ) (n : Option Held) (h : ℕ) → HeldAfter a o f m g → HeldAfter b m g n h
    → HeldAfter (a ++ b) o f n h
held_both a b None f None g None h first second = second ∙ first
held_both a b None f None g (Some n) h first second = absurd second
held_both a b None f (Some m) g n h first second = absurd first
held_both a b (Some o) f None g None h first second = elim first [
  | inl marked ↦ inl (marked.0, second ∙ marked.1)
  | inr failed ↦ inr (second ∙ failed)
]
held_both a b (Some o) f None g (Some n) h first second = absurd second
held_both a b (Some o) f (Some m) g None h first second = elim second [
  | inl marked ↦ inl (sym first.0.failed ∙ marked.0, marked.1 ∙ first.1)
  | inr failed ↦ inr (failed ∙ ap next_count first.1)
]
held_both a b (Some o) f (Some m) g (Some n) h first second = (Kept-both a b o m n first.0 second.0, second.1 ∙ first.1)

held_none : (held : Option Held) (f : ℕ) → HeldAfter [] held f held f
held_none None f = refl
held_none (Some held) f = (Kept-none held, refl)

-- ---- a row

lines-append : (name : List ℕ) (a b : List Post) → lines_to name (a ++ b) ≡ lines_to name a ++ lines_to name b
lines-append name a b =
    ap (map (λ (post : Post). post.line)) (filter-append (λ (post : Post). bytes_eq post.name name) a b) ∙ map-append (λ (post : Post). post.line) _ _

pub row_none : (row : Row) → RowAfter [] row row
row_none row = record { name = refl; held = held_none row.held row.failures }

row_both : (a b : List Post) (o m n : Row) → RowAfter a o m → RowAfter b m n → RowAfter (a ++ b) o n
row_both a b o m n first second =
    let here : HeldAfter (lines_to o.name b) m.held m.failures n.held n.failures =
    subst (λ (name : List ℕ). HeldAfter (lines_to name b) m.held m.failures n.held n.failures) first.name second.held in
    record {
      name = second.name ∙ first.name;
      held = subst (λ (lines : List (List ℕ)). HeldAfter lines o.held o.failures n.held n.failures) (sym (lines-append o.name a b))
          (held_both (lines_to o.name a) (lines_to o.name b) o.held o.failures m.held m.failures n.held n.failures first.held here);
    }

pub rows_none : (rows : List Row) → AllZip (RowAfter []) rows rows
rows_none rows = zip_same (RowAfter []) row_none rows

-- some posts and then more
pub rows_both : (a b : List Post) (xs ys zs : List Row) → AllZip (RowAfter a) xs ys → AllZip (RowAfter b) ys zs → AllZip (RowAfter (a ++ b)) xs zs
rows_both a b xs ys zs first second = zip_both (RowAfter a) (RowAfter b) (RowAfter (a ++ b)) (row_both a b) xs ys zs first second

-- ---- one post

module _ (name line : List ℕ) where
  abbrev pub one : List Post
  one = post_to line name ∷ []

  lines-here : (row : Row) → row.name ≡ name → lines_to row.name one ≡ line ∷ []
  lines-here row is = ap (λ b. map (λ (post : Post). post.line) (cond b one [])) ((bytes_eq-Decides name row.name).1 (sym is))

  lines-other : (row : Row) → row.name ≢ name → lines_to row.name one ≡ []
  lines-other row other =
      ap (λ b. map (λ (post : Post). post.line) (cond b one []))
      (false_from_ne_true (bytes_eq name row.name) (λ is. other (sym ((bytes_eq-Decides name row.name).0 is))))

  -- by whether the row has the name
  by_name : (P : Type 0) (row : Row) → (row.name ≡ name → P) → (row.name ≢ name → P) → P
  by_name P row here other = elim (cases_Bool (bytes_eq name row.name)) [
    | inl is ↦ here (sym ((bytes_eq-Decides name row.name).0 is))
    | inr isnt ↦ other (λ same. absurd (true≢false (sym ((bytes_eq-Decides name row.name).1 (sym same)) ∙ isnt)))
  ]

  taken_one : (taken : Option (List ℕ)) → option_map (λ bytes. bytes ++ (line ++ 10 ∷ [])) taken ≡ option_map (λ bytes. bytes ++ with_feeds (line ∷ [])) taken
  taken_one None = refl
  taken_one (Some bytes) = ap (λ l. Some (bytes ++ l)) (sym (append-nil (line ++ 10 ∷ [])))

  rose_one : (x y : ℕ) → y ≡ next_count x → x ≤ y → Rose x y
  rose_one x y is later = omega (arith, is, later)

  held_taken : (end : PostEnd) → end ≢ Failed → (o n : Option Held) (f g : ℕ) → HeldPosts line end o n → g ≡ failures_after end f
      → HeldAfter (line ∷ []) o f n g
  held_taken NoBox fine None None f g posts after = after
  held_taken NoBox fine None (Some n) f g posts after = absurd posts
  held_taken NoBox fine (Some o) None f g posts after = absurd posts
  held_taken NoBox fine (Some o) (Some n) f g posts after = absurd posts
  held_taken Delivered fine None None f g posts after = absurd posts
  held_taken Delivered fine None (Some n) f g posts after = absurd posts
  held_taken Delivered fine (Some o) None f g posts after = absurd posts
  held_taken Delivered fine (Some o) (Some n) f g posts after = (
    record {
      took = posts.0.took ∙ taken_one o.taking.taken;
      called = posts.0.called;
      never_less = posts.0.never_less;
      rose = λ some. rose_one o.taking.calls n.taking.calls posts.0.called posts.0.never_less;
      later = posts.0.later;
      failed = posts.1;
    },
    after,
  )
  held_taken Failed fine o n f g posts after = absurd (fine refl)

  held_failed : (o n : Option Held) (f g : ℕ) → HeldPosts line Failed o n → g ≡ next_count f → HeldAfter (line ∷ []) o f (unmarked n) g
  held_failed None None f g posts after = absurd posts
  held_failed None (Some n) f g posts after = absurd posts
  held_failed (Some o) None f g posts after = absurd posts
  held_failed (Some o) (Some n) f g posts after = subst (λ (b : Bool). HeldAfter (line ∷ []) (Some o) f (cond b None (Some n)) g) (sym posts.1) (inr after)

  -- no post, and then the marked boxes are dropped
  held_unmarked : (o : Option Held) (f : ℕ) → HeldAfter [] o f (unmarked o) f
  held_unmarked None f = refl
  held_unmarked (Some o) f = by o.failed refl
    where
      by : (b : Bool) → o.failed ≡ b → HeldAfter [] (Some o) f (cond b None (Some o)) f
      by true is = inl (is, refl)
      by false is = (Kept-none o, refl)

  taken_row : (end : PostEnd) → end ≢ Failed → (o n : Row) → Posts name line end o n → RowAfter one o n
  taken_row end fine o n posts = by_name (RowAfter one o n) o
      (λ is. record {
        name = (posts.under is).name;
        held = subst (λ (lines : List (List ℕ)). HeldAfter lines o.held o.failures n.held n.failures) (sym (lines-here o is))
            (held_taken end fine o.held n.held o.failures n.failures (posts.under is).held (posts.under is).failures);
      })
      (λ other. subst (λ (row : Row). RowAfter one o row) (sym (posts.others other)) (record {
        name = refl;
        held = subst (λ (lines : List (List ℕ)). HeldAfter lines o.held o.failures o.held o.failures) (sym (lines-other o other)) (held_none o.held o.failures);
      }))

  failed_row : (o n : Row) → Posts name line Failed o n → RowAfter one o (retired n)
  failed_row o n posts = by_name (RowAfter one o (retired n)) o
      (λ is. record {
        name = (posts.under is).name;
        held = subst (λ (lines : List (List ℕ)). HeldAfter lines o.held o.failures (unmarked n.held) n.failures) (sym (lines-here o is))
            (held_failed o.held n.held o.failures n.failures (posts.under is).held (posts.under is).failures);
      })
      (λ other. subst (λ (row : Row). RowAfter one o (retired row)) (sym (posts.others other)) (record {
        name = refl;
        held = subst (λ (lines : List (List ℕ)). HeldAfter lines o.held o.failures (unmarked o.held) o.failures) (sym (lines-other o other))
            (held_unmarked o.held o.failures);
      }))

  -- a post that didn't fail, and one that did, with the marked boxes dropped behind it
  rows_taken : (end : PostEnd) → end ≢ Failed → (xs ys : List Row) → AllZip (Posts name line end) xs ys → AllZip (RowAfter one) xs ys
  rows_taken end fine xs ys posts = zip_more (Posts name line end) (RowAfter one) (taken_row end fine) xs ys posts

  rows_failed : (xs ys : List Row) → AllZip (Posts name line Failed) xs ys → AllZip (RowAfter one) xs (map retired ys)
  rows_failed xs ys posts = zip_map (Posts name line Failed) (RowAfter one) retired failed_row xs ys posts

-- ---- posts of one list after the other

pub take-next : {A : Type 0} (xs : List A) (i : ℕ) (x : A) → slice_get xs i ≡ Some x → take (i + 1) xs ≡ take i xs ++ x ∷ []
take-next {A = A} xs i x at = ap (λ n. take n xs) (add-one i) ∙ by xs i at
  where
    by : (ys : List A) (j : ℕ) → slice_get ys j ≡ Some x → take (suc j) ys ≡ take j ys ++ x ∷ []
    by [] j at = absurd (cc)
    by (y ∷ ys) zero at = let same : y ≡ x = cc in ap (λ z. z ∷ []) same
    by (y ∷ ys) (suc j) at = ap (λ l. y ∷ l) (by ys j at)

-- ---- posts with the boxes that leave

-- the rows behind one post, and behind all
row-posted : (post : Post) (old new : DeskState) → IsPosted post old new → AllZip (RowAfter (post ∷ [])) old.rows new.rows
row-posted post old new posted = by posted.end refl
  where
    to : (end : PostEnd) → posted.end ≡ end → AllZip (RowAfter (post ∷ [])) old.rows (swept end (desk_of posted.rows old.left)).rows
        → AllZip (RowAfter (post ∷ [])) old.rows new.rows
    to end is rows =
        subst (λ (d : DeskState). AllZip (RowAfter (post ∷ [])) old.rows d.rows) (sym (posted.behind ∙ ap (λ e. swept e (desk_of posted.rows old.left)) is))
        rows

    took : (end : PostEnd) → posted.end ≡ end → AllZip (Posts post.name post.line end) old.rows posted.rows
    took end is = subst (λ (e : PostEnd). AllZip (Posts post.name post.line e) old.rows posted.rows) is posted.took

    by : (end : PostEnd) → posted.end ≡ end → AllZip (RowAfter (post ∷ [])) old.rows new.rows
    by Failed is = to Failed is (rows_failed post.name post.line old.rows posted.rows (took Failed is))
    by Delivered is = to Delivered is (rows_taken post.name post.line Delivered (λ e. absurd (cc)) old.rows posted.rows (took Delivered is))
    by NoBox is = to NoBox is (rows_taken post.name post.line NoBox (λ e. absurd (cc)) old.rows posted.rows (took NoBox is))

pub rows-posted : (posts : List Post) (old new : DeskState) → ArePosted posts old new → AllZip (RowAfter posts) old.rows new.rows
rows-posted [] old new same = subst (λ (d : DeskState). AllZip (RowAfter []) old.rows d.rows) (sym same) (rows_none old.rows)
rows-posted (post ∷ posts) old new all =
    rows_both (post ∷ []) posts old.rows all.0.rows new.rows (row-posted post old all.0 all.1) (rows-posted posts all.0 new all.2)

-- some posts and then more
posted-both : (a b : List Post) (x y z : DeskState) → ArePosted a x y → ArePosted b y z → ArePosted (a ++ b) x z
posted-both [] b x y z first second = subst (λ (d : DeskState). ArePosted b d z) first second
posted-both (post ∷ a) b x y z first second = (first.0, first.1, posted-both a b first.0 y z first.2 second)

-- a line whose post failed, and one whose post didn't
pub line-failed : (name line : List ℕ) (end : PostEnd) (old old_left rows left new new_left : List Row) → end ≡ Failed
    → ((end ≡ NoBox) ↔ IsNone (box_under name old)) → AllZip (Posts name line end) old rows → left ≡ old_left → new ≡ map retired rows
    → new_left ≡ left ++ filter is_marked rows → ArePosted (post_to line name ∷ []) (desk_of old old_left) (desk_of new new_left)
line-failed name line end old old_left rows left new new_left failed none took same swept_rows swept_left =
    let left_is : new_left ≡ old_left ++ filter is_marked rows = swept_left ∙ ap (λ l. l ++ filter is_marked rows) same in
    let behind : desk_of new new_left ≡ swept end (desk_of rows old_left) =
    (λ i. desk_of (swept_rows i) (left_is i)) ∙ ap (λ e. swept e (desk_of rows old_left)) (sym failed) in
    (desk_of new new_left, record { end = end; rows = rows; no_box = none; took = took; behind = behind }, refl)

pub line-taken : (name line : List ℕ) (end : PostEnd) (old old_left rows left : List Row) → end ≢ Failed → ((end ≡ NoBox) ↔ IsNone (box_under name old))
    → AllZip (Posts name line end) old rows → left ≡ old_left → ArePosted (post_to line name ∷ []) (desk_of old old_left) (desk_of rows left)
line-taken name line end old old_left rows left fine none took same =
    let behind : desk_of rows left ≡ swept end (desk_of rows old_left) = ap (desk_of rows) same ∙ sym (stays end fine (desk_of rows old_left)) in
    (desk_of rows left, record { end = end; rows = rows; no_box = none; took = took; behind = behind }, refl)
  where
    stays : (e : PostEnd) → e ≢ Failed → (desk : DeskState) → swept e desk ≡ desk
    stays NoBox other desk = refl
    stays Delivered other desk = refl
    stays Failed other desk = absurd (other refl)

-- on a desk without a row a post changes nothing
pub posted-empty : (posts : List Post) (rows left : List Row) → length rows ≡ 0 → ArePosted posts (desk_of rows left) (desk_of rows left)
posted-empty posts (row ∷ rows) left empty = absurd (omega (arith, empty))
posted-empty [] [] left empty = refl
posted-empty (post ∷ posts) [] left empty =
    (desk_of [] left, record { end = NoBox; rows = []; no_box = (λ _. refl, λ _. refl); took = tt; behind = refl }, posted-empty posts [] left empty)

pub on_ok-any : {A E : Type 0} {P : Type 0} (result : Result A E) → P → OnOk result P
on_ok-any (Ok x) holds = holds
on_ok-any (Err e) holds = tt

-- an item more
pub posted_next : {A : Type 0} (f : A → List Post) (xs : List A) (i : ℕ) (x : A) (a b c : DeskState) → slice_get xs i ≡ Some x
    → ArePosted (flat_map f (take i xs)) a b → ArePosted (f x) b c → ArePosted (flat_map f (take (i + 1) xs)) a c
posted_next f xs i x a b c at first second =
    let posts : flat_map f (take (i + 1) xs) ≡ flat_map f (take i xs) ++ f x =
    ap (flat_map f) (take-next xs i x at) ∙ flat_map-append f (take i xs) (x ∷ []) ∙ ap (λ l. flat_map f (take i xs) ++ l) (append-nil (f x)) in
    subst (λ (l : List Post). ArePosted l a c) (sym posts) (posted-both (flat_map f (take i xs)) (f x) a b c first second)

-- a name more
pub posted_name : (f : List ℕ → Post) (names : List (List ℕ)) (i : ℕ) (name : List ℕ) (a b c : DeskState) → slice_get names i ≡ Some name
    → ArePosted (map f (take i names)) a b → ArePosted (f name ∷ []) b c → ArePosted (map f (take (i + 1) names)) a c
posted_name f names i name a b c at first second =
    let posts : map f (take (i + 1) names) ≡ map f (take i names) ++ f name ∷ [] =
    ap (map f) (take-next names i name at) ∙ map-append f (take i names) (name ∷ []) in
    subst (λ (l : List Post). ArePosted l a c) (sym posts) (posted-both (map f (take i names)) (f name ∷ []) a b c first second)
