-- The rows of entries: their names, and one entry that changes, comes or goes.
use Rattle.std.proofs.Common.{◌≡◌, ◌≢◌, ℕ, ◌+◌, ◌<◌, ◌≤◌, ◌↔◌, Bool, true, false, cond, List, [], ◌∷◌, ◌++◌, filter}
use Rattle.std.proofs.Common.{length, map, get_or, remove, slice_get, slice_set, sum_by, take, Option, Some, None, IsNone, IsSome, IfNone, IfSome, IsTrue}
use Rattle.std.proofs.Common.{is_some, refl, sym, ◌∙◌, ap, subst, arith}
use Rattle.std.specs.List.{AllZip}
use Rattle.std.proofs.Math.Seq.{map-set_same}
use Rattle.std.proofs.lemmas.List.{append-nil, length-map, map-append, map-set}
use Rattle.std.proofs.lemmas.List.Quantifiers.{all_pairs_push, all_pairs_remove}
use Rattle.std.proofs.lemmas.List.Sums.{count_by-le-length, sum_by-remove, sum_by-set, sum_by_push}
use Rattle.std.proofs.lemmas.Option.{slice_get_within}
use Rattle.notice_desk.specs.Desk.{Held, Row, Posts, RowPosts, box_under, boxed_row, failures_under, is_marked, leaves_with, marked_row, names_of, retired}
use Rattle.notice_desk.specs.Desk.{without}
use Rattle.notice_desk.specs.Names.{AreDistinct, IsAbsent}
use Rattle.notice_desk.specs.Sight.{Sight, boxes, entry_names, left_rows, row_of, rows_of}
use Rattle.notice_desk.specs.declared.entry.Entry.{Entry}
use Rattle.notice_desk.specs.declared.entry.LeftBox.{LeftBox}
use Rattle.notice_desk.specs.declared.notices.PostEnd.{PostEnd}
use Rattle.notice_desk.specs.declared.notices.PostEnd.TheVariants.{NoBox}
use Rattle.notice_desk.proofs.ListLemmas.{image-there, map-remove}
use Rattle.notice_desk.proofs.RetireLemmas.{Retiring, leaving-more, names-retired, retiring-marked, retiring-unmarked, still-there}
use Rattle.notice_desk.proofs.RowLemmas.{box-absent, box-there, failures-absent, failures-known, failures-there, leaves-absent, leaves-there, no_box_iff}
use Rattle.notice_desk.proofs.RowLemmas.{posts-there, without-there}

-- ---- names

pub names_of-rows : {X : Type 0} {F : X → Type 0} (see : Sight X F) (entries : List (Entry X F)) → names_of (rows_of see entries) ≡ entry_names entries
names_of-rows see [] = refl
names_of-rows see (entry ∷ entries) = ap (λ names. entry.name ∷ names) (names_of-rows see entries)

pub length-names : {X : Type 0} {F : X → Type 0} (entries : List (Entry X F)) → length (entry_names entries) ≡ length entries
length-names {X = X} {F = F} entries = length-map entries (λ (e : Entry X F). e.name)

pub name-there : {X : Type 0} {F : X → Type 0} (entries : List (Entry X F)) (i : ℕ) (entry d : Entry X F) → i < length entries
    → entry ≡ get_or entries i d → slice_get (entry_names entries) i ≡ Some entry.name
name-there {X = X} {F = F} entries i entry d within is = image-there (λ (e : Entry X F). e.name) entries i entry d within is

pub distinct-rows : {X : Type 0} {F : X → Type 0} (see : Sight X F) (entries : List (Entry X F)) → AreDistinct (entry_names entries)
    → AreDistinct (names_of (rows_of see entries))
distinct-rows see entries apart = let P : List (List ℕ) → Type 0 = λ ns. AreDistinct ns in subst P (sym (names_of-rows see entries)) apart

pub absent-rows : {X : Type 0} {F : X → Type 0} (see : Sight X F) (name : List ℕ) (entries : List (Entry X F)) → IsAbsent name (entry_names entries)
    → IsAbsent name (names_of (rows_of see entries))
absent-rows see name entries absent = let P : List (List ℕ) → Type 0 = λ ns. IsAbsent name ns in subst P (sym (names_of-rows see entries)) absent

-- ---- names stay distinct

pub distinct-push : {X : Type 0} {F : X → Type 0} (entries pushed : List (Entry X F)) (entry : Entry X F) → pushed ≡ entries ++ entry ∷ []
    → AreDistinct (entry_names entries) → IsAbsent entry.name (entry_names entries) → AreDistinct (entry_names pushed)
distinct-push {X = X} {F = F} entries pushed entry is apart absent =
    let P : List (List ℕ) → Type 0 = λ ns. AreDistinct ns in
    let names = ap (λ (es : List (Entry X F)). entry_names es) is ∙ map-append (λ (e : Entry X F). e.name) entries (entry ∷ []) in
    subst P (sym names) (all_pairs_push (λ a b. a ≢ b) (entry_names entries) entry.name apart absent)

pub distinct-set : {X : Type 0} {F : X → Type 0} (entries : List (Entry X F)) (i : ℕ) (old new d : Entry X F) → old ≡ get_or entries i d
    → new.name ≡ old.name → AreDistinct (entry_names entries) → AreDistinct (entry_names (slice_set entries i new))
distinct-set {X = X} {F = F} entries i old new d is same apart =
    let P : List (List ℕ) → Type 0 = λ ns. AreDistinct ns in
    subst P (sym (map-set_same (λ (e : Entry X F). e.name) entries i new d (same ∙ ap (λ (e : Entry X F). e.name) is))) apart

pub distinct-remove : {X : Type 0} {F : X → Type 0} (entries left : List (Entry X F)) (i : ℕ) → left ≡ remove entries i → i < length entries
    → AreDistinct (entry_names entries) → AreDistinct (entry_names left)
distinct-remove {X = X} {F = F} entries left i is within apart =
    let P : List (List ℕ) → Type 0 = λ ns. AreDistinct ns in
    let names = ap (λ (es : List (Entry X F)). entry_names es) is ∙ map-remove (λ (e : Entry X F). e.name) entries i in
    subst P (sym names) (all_pairs_remove (λ a b. a ≢ b) (entry_names entries) i (omega (arith, length-names entries)) apart)

pub distinct-retired : {X : Type 0} {F : X → Type 0} (see : Sight X F) (entries changed kept : List (Entry X F)) → kept ≡ changed
    → rows_of see changed ≡ map retired (rows_of see entries) → AreDistinct (entry_names entries) → AreDistinct (entry_names kept)
distinct-retired {X = X} {F = F} see entries changed kept is rows apart =
    let P : List (List ℕ) → Type 0 = λ ns. AreDistinct ns in
    let names =
    ap (λ (es : List (Entry X F)). entry_names es) is ∙ sym (names_of-rows see changed) ∙ ap names_of rows ∙ names-retired (rows_of see entries)
    ∙ names_of-rows see entries in
    subst P (sym names) apart

-- ---- the entry of a name

row-there : {X : Type 0} {F : X → Type 0} (see : Sight X F) (entries : List (Entry X F)) (i : ℕ) (entry d : Entry X F) → i < length entries
    → entry ≡ get_or entries i d → slice_get (rows_of see entries) i ≡ Some (row_of see entry)
row-there see entries i entry d within is = image-there (row_of see) entries i entry d within is

pub within_names : {X : Type 0} {F : X → Type 0} (entries : List (Entry X F)) (i : ℕ) (name : List ℕ) → slice_get (entry_names entries) i ≡ Some name
    → i < length entries
within_names entries i name at = omega (arith, slice_get_within (entry_names entries) i name at, length-names entries)

named : {X : Type 0} {F : X → Type 0} (entries : List (Entry X F)) (i : ℕ) (name : List ℕ) (entry d : Entry X F)
    → slice_get (entry_names entries) i ≡ Some name → entry ≡ get_or entries i d → entry.name ≡ name
named entries i name entry d at is =
    let both : Some entry.name ≡ Some name = sym (name-there entries i entry d (within_names entries i name at) is) ∙ at in cc

pub box-entry : {X : Type 0} {F : X → Type 0} (see : Sight X F) (name : List ℕ) (entries : List (Entry X F)) (i : ℕ) (entry d : Entry X F)
    → slice_get (entry_names entries) i ≡ Some name → entry ≡ get_or entries i d → AreDistinct (entry_names entries)
    → box_under name (rows_of see entries) ≡ (row_of see entry).held
box-entry see name entries i entry d at is apart =
    box-there name (row_of see entry) (named entries i name entry d at is) (rows_of see entries) i
    (row-there see entries i entry d (within_names entries i name at) is) (distinct-rows see entries apart)

pub failures-entry : {X : Type 0} {F : X → Type 0} (see : Sight X F) (name : List ℕ) (entries : List (Entry X F)) (i : ℕ) (entry d : Entry X F)
    → slice_get (entry_names entries) i ≡ Some name → entry ≡ get_or entries i d → AreDistinct (entry_names entries)
    → failures_under name (rows_of see entries) ≡ Some entry.failures
failures-entry see name entries i entry d at is apart =
    failures-there name (row_of see entry) (named entries i name entry d at is) (rows_of see entries) i
    (row-there see entries i entry d (within_names entries i name at) is) (distinct-rows see entries apart)

pub without-entry : {X : Type 0} {F : X → Type 0} (see : Sight X F) (name : List ℕ) (entries left : List (Entry X F)) (i : ℕ) (entry d : Entry X F)
    → slice_get (entry_names entries) i ≡ Some name → entry ≡ get_or entries i d → AreDistinct (entry_names entries) → left ≡ remove entries i
    → rows_of see left ≡ without name (rows_of see entries)
without-entry {X = X} {F = F} see name entries left i entry d at is apart removed =
    ap (λ (es : List (Entry X F)). rows_of see es) removed ∙ map-remove (row_of see) entries i
    ∙ without-there name (row_of see entry) (named entries i name entry d at is) (rows_of see entries) i
    (row-there see entries i entry d (within_names entries i name at) is) (distinct-rows see entries apart)

pub posts-entry : {X : Type 0} {F : X → Type 0} (see : Sight X F) (name notice : List ℕ) (end : PostEnd) (entries : List (Entry X F)) (i : ℕ)
    (old new d : Entry X F) → slice_get (entry_names entries) i ≡ Some name → old ≡ get_or entries i d → AreDistinct (entry_names entries)
    → RowPosts notice end (row_of see old) (row_of see new) → AllZip (Posts name notice end) (rows_of see entries) (rows_of see (slice_set entries i new))
posts-entry see name notice end entries i old new d at is apart posts =
    let P : List Row → Type 0 = λ rs. AllZip (Posts name notice end) (rows_of see entries) rs in
    subst P (sym (map-set (row_of see) entries i new))
    (posts-there name (row_of see old) (named entries i name old d at is) notice end (row_of see new) (rows_of see entries) i
    (row-there see entries i old d (within_names entries i name at) is) (distinct-rows see entries apart) posts)

pub no_box-entry : {X : Type 0} {F : X → Type 0} (see : Sight X F) (name notice : List ℕ) (end : PostEnd) (entries : List (Entry X F)) (i : ℕ)
    (old new d : Entry X F) → slice_get (entry_names entries) i ≡ Some name → old ≡ get_or entries i d → AreDistinct (entry_names entries)
    → RowPosts notice end (row_of see old) (row_of see new) → (end ≡ NoBox) ↔ IsNone (box_under name (rows_of see entries))
no_box-entry see name notice end entries i old new d at is apart posts =
    let P : Option Held → Type 0 = λ o. (end ≡ NoBox) ↔ IsNone o in
    subst P (sym (box-entry see name entries i old d at is apart)) (no_box_iff notice end (row_of see old).held (row_of see new).held posts.held)

-- ---- a name that is absent

pub no_box-none : {X : Type 0} {F : X → Type 0} (see : Sight X F) (name : List ℕ) (entries : List (Entry X F)) → IsAbsent name (entry_names entries)
    → (NoBox ≡ NoBox) ↔ IsNone (box_under name (rows_of see entries))
no_box-none see name entries absent =
    let P : Option Held → Type 0 = λ o. (NoBox ≡ NoBox) ↔ IsNone o in
    subst P (sym (box-absent name (rows_of see entries) (absent-rows see name entries absent))) (λ _. refl, λ _. refl)

pub known-none : {X : Type 0} {F : X → Type 0} (see : Sight X F) (name : List ℕ) (entries : List (Entry X F)) → IsAbsent name (entry_names entries)
    → IsTrue false ↔ IsSome (failures_under name (rows_of see entries))
known-none see name entries absent =
    let P : Option ℕ → Type 0 = λ o. IsTrue false ↔ IsSome o in
    subst P (sym (failures-absent name (rows_of see entries) (absent-rows see name entries absent))) (λ h. absurd (cc), λ h. absurd (cc))

pub known-there : {X : Type 0} {F : X → Type 0} (see : Sight X F) (name : List ℕ) (entries : List (Entry X F)) (i : ℕ) (entry d : Entry X F)
    → slice_get (entry_names entries) i ≡ Some name → entry ≡ get_or entries i d → AreDistinct (entry_names entries)
    → IsTrue true ↔ IsSome (failures_under name (rows_of see entries))
known-there see name entries i entry d at is apart =
    let P : Option ℕ → Type 0 = λ o. IsTrue true ↔ IsSome o in
    subst P (sym (failures-entry see name entries i entry d at is apart)) (λ _. refl, λ _. refl)

-- ---- a search that found a name, or none

pub known-found : {X : Type 0} {F : X → Type 0} (see : Sight X F) (name : List ℕ) (entries : List (Entry X F)) (found : Option ℕ)
    → IfSome found (λ i. slice_get (entry_names entries) i ≡ Some name) → is_some found ≡ true
    → IsTrue true ↔ IsSome (failures_under name (rows_of see entries))
known-found see name entries None is is_so = absurd (cc)
known-found see name entries (Some i) is is_so =
    (λ _. failures-known name (rows_of see entries) i (ap (λ (ns : List (List ℕ)). slice_get ns i) (names_of-rows see entries) ∙ is), λ _. refl)

pub known-absent : {X : Type 0} {F : X → Type 0} (see : Sight X F) (name : List ℕ) (entries : List (Entry X F)) (found : Option ℕ)
    → IfNone found (IsAbsent name (entry_names entries)) → is_some found ≡ false → IsTrue false ↔ IsSome (failures_under name (rows_of see entries))
known-absent see name entries None absent isnt = known-none see name entries absent
known-absent see name entries (Some i) absent isnt = absurd (cc)

pub unknown : {X : Type 0} {F : X → Type 0} (see : Sight X F) (name : List ℕ) (entries : List (Entry X F)) (found : Option ℕ)
    → IfNone found (IsAbsent name (entry_names entries)) → is_some found ≡ false → ⊥ ↔ IsSome (failures_under name (rows_of see entries))
unknown see name entries found absent isnt =
    let known = known-absent see name entries found absent isnt in (λ h. absurd h, λ h. let e = known.1 h in absurd (cc))

-- ---- a box that leaves

-- with the name leaves the box of its entry
pub leaves-entry : {X : Type 0} {F : X → Type 0} (see : Sight X F) (name : List ℕ) (entries : List (Entry X F)) (i : ℕ) (entry d : Entry X F)
    → slice_get (entry_names entries) i ≡ Some name → entry ≡ get_or entries i d → AreDistinct (entry_names entries)
    → filter (leaves_with name) (rows_of see entries) ≡ cond (is_some (row_of see entry).held) (row_of see entry ∷ []) []
leaves-entry see name entries i entry d at is apart =
    leaves-there name (row_of see entry) (named entries i name entry d at is) (rows_of see entries) i
    (row-there see entries i entry d (within_names entries i name at) is) (distinct-rows see entries apart)

pub leaves-none : {X : Type 0} {F : X → Type 0} (see : Sight X F) (name : List ℕ) (entries : List (Entry X F)) (left : List Row)
    → IsAbsent name (entry_names entries) → left ≡ left ++ filter (leaves_with name) (rows_of see entries)
leaves-none see name entries left absent =
    sym (ap (λ rs. left ++ rs) (leaves-absent name (rows_of see entries) (absent-rows see name entries absent)) ∙ append-nil left)

-- so closing a name puts behind them what leaves with it
pub closes-entry : {X : Type 0} {F : X → Type 0} (see : Sight X F) (name : List ℕ) (entries : List (Entry X F)) (i : ℕ) (entry d : Entry X F)
    (left gone : List Row) → slice_get (entry_names entries) i ≡ Some name → entry ≡ get_or entries i d → AreDistinct (entry_names entries)
    → gone ≡ left ++ boxed_row (row_of see entry) → gone ≡ left ++ filter (leaves_with name) (rows_of see entries)
closes-entry see name entries i entry d left gone at is apart gone_is =
    gone_is ∙ ap (λ rs. left ++ rs) (sym (leaves-entry see name entries i entry d at is apart))

-- ---- room for the boxes that can still leave

pub boxes-set : {X : Type 0} {F : X → Type 0} (entries : List (Entry X F)) (i : ℕ) (old new d : Entry X F) → i < length entries
    → old ≡ get_or entries i d → sum_by boxes (slice_set entries i new) + boxes old ≡ sum_by boxes entries + boxes new
boxes-set {X = X} {F = F} entries i old new d within is =
    ap (λ (e : Entry X F). sum_by boxes (slice_set entries i new) + boxes e) is ∙ sum_by-set boxes entries i new d within

pub boxes-remove : {X : Type 0} {F : X → Type 0} (entries left : List (Entry X F)) (i : ℕ) (old d : Entry X F) → i < length entries
    → old ≡ get_or entries i d → left ≡ remove entries i → sum_by boxes left + boxes old ≡ sum_by boxes entries
boxes-remove {X = X} {F = F} entries left i old d within is removed =
    ap (λ (es : List (Entry X F)). sum_by boxes es + boxes old) removed ∙ ap (λ (e : Entry X F). sum_by boxes (remove entries i) + boxes e) is
    ∙ sum_by-remove boxes entries i d within

-- entries hold no more boxes than they are
pub boxes-few : {X : Type 0} {F : X → Type 0} (entries : List (Entry X F)) → sum_by boxes entries ≤ length entries
boxes-few {X = X} {F = F} entries = count_by-le-length (λ (e : Entry X F). is_some e.held) entries

one_box : (b : Bool) → cond b 1 0 ≤ 1
one_box true = omega arith
one_box false = omega arith

-- an entry more
pub boxes-pushed : {X : Type 0} {F : X → Type 0} (entries pushed : List (Entry X F)) (entry : Entry X F) (len capacity : ℕ)
    → pushed ≡ entries ++ entry ∷ [] → len + sum_by boxes entries < capacity → len + sum_by boxes pushed ≤ capacity
boxes-pushed {X = X} {F = F} entries pushed entry len capacity is room =
    let sum : sum_by boxes pushed ≡ sum_by boxes entries + boxes entry =
    ap (λ (es : List (Entry X F)). sum_by boxes es) is ∙ sum_by_push boxes entries entry in
    omega (arith, sum, room, one_box (is_some entry.held))

pub boxes-kept : {X : Type 0} {F : X → Type 0} (changed kept : List (Entry X F)) (len capacity : ℕ) → kept ≡ changed
    → len + sum_by boxes changed ≤ capacity → len + sum_by boxes kept ≤ capacity
boxes-kept {X = X} {F = F} changed kept len capacity is room =
    let P : List (Entry X F) → Type 0 = λ es. len + sum_by boxes es ≤ capacity in subst P (sym is) room

-- ---- retiring

pub retiring-entry-marked : {X : Type 0} {F : X → Type 0} (see : Sight X F) (start now : List (Entry X F)) (i count after : ℕ) (old new d : Entry X F)
    → Retiring (rows_of see start) (rows_of see now) i count → i < length now → old ≡ get_or now i d → row_of see new ≡ retired (row_of see old)
    → is_marked (row_of see old) ≡ true → after ≡ count + 1 → Retiring (rows_of see start) (rows_of see (slice_set now i new)) (i + 1) after
retiring-entry-marked see start now i count after old new d so_far within is changed is_so counted =
    let P : List Row → Type 0 = λ rs. Retiring (rows_of see start) rs (i + 1) after in
    let Q : ℕ → Type 0 = λ n. Retiring (rows_of see start) (slice_set (rows_of see now) i (row_of see new)) (i + 1) n in
    subst P (sym (map-set (row_of see) now i new))
    (subst Q (sym counted) (retiring-marked (rows_of see start) (rows_of see now) i count (row_of see old) (row_of see new) so_far
    (row-there see now i old d within is) changed is_so))

pub retiring-entry-unmarked : {X : Type 0} {F : X → Type 0} (see : Sight X F) (start now : List (Entry X F)) (i count after : ℕ) (old new d : Entry X F)
    → Retiring (rows_of see start) (rows_of see now) i count → i < length now → old ≡ get_or now i d → row_of see new ≡ retired (row_of see old)
    → is_marked (row_of see old) ≡ false → after ≡ count → Retiring (rows_of see start) (rows_of see (slice_set now i new)) (i + 1) after
retiring-entry-unmarked see start now i count after old new d so_far within is changed isnt counted =
    let P : List Row → Type 0 = λ rs. Retiring (rows_of see start) rs (i + 1) after in
    let Q : ℕ → Type 0 = λ n. Retiring (rows_of see start) (slice_set (rows_of see now) i (row_of see new)) (i + 1) n in
    subst P (sym (map-set (row_of see) now i new))
    (subst Q (sym counted) (retiring-unmarked (rows_of see start) (rows_of see now) i count (row_of see old) (row_of see new) so_far
    (row-there see now i old d within is) changed isnt))

-- the first entries were retired, their boxes are behind those that left, and for those that still can leave there is room
pub record RetiresFirst {X : Type 0} {F : X → Type 0} (see : Sight X F) (start now : List (Entry X F)) (before left : List (LeftBox X F))
    (len capacity i count : ℕ) : Type 0 where
  pub rows : Retiring (rows_of see start) (rows_of see now) i count
  pub gone : left_rows see left ≡ left_rows see before ++ filter is_marked (take i (rows_of see start))
  pub room : len + sum_by boxes now ≤ capacity

pub retires-start : {X : Type 0} {F : X → Type 0} (see : Sight X F) (start : List (Entry X F)) (before : List (LeftBox X F)) (len capacity : ℕ)
    → len + sum_by boxes start ≤ capacity → RetiresFirst see start start before before len capacity 0 0
retires-start see start before len capacity room = record {
  rows = record { rows = refl; counted = refl };
  gone = sym (append-nil (left_rows see before));
  room = room;
}

pub retires-marked : {X : Type 0} {F : X → Type 0} (see : Sight X F) (start now : List (Entry X F)) (before left pushed : List (LeftBox X F))
    (len capacity len_more capacity_more i count after : ℕ) (old new d : Entry X F) → RetiresFirst see start now before left len capacity i count
    → i < length now → old ≡ get_or now i d → row_of see new ≡ retired (row_of see old)
    → left_rows see pushed ≡ left_rows see left ++ marked_row (row_of see old) → len_more + boxes new ≡ len + boxes old → capacity_more ≡ capacity
    → is_marked (row_of see old) ≡ true → after ≡ count + 1
    → RetiresFirst see start (slice_set now i new) before pushed len_more capacity_more (i + 1) after
retires-marked see start now before left pushed len capacity len_more capacity_more i count after old new d so_far within is changed left_is len_is capacity_is
    marked counted = record {
      rows = retiring-entry-marked see start now i count after old new d so_far.rows within is changed marked counted;
      gone = leaving-more (rows_of see start) (left_rows see before) (left_rows see left) (left_rows see pushed) i (row_of see old)
          (still-there (rows_of see start) (rows_of see now) i count (row_of see old) so_far.rows (row-there see now i old d within is)) so_far.gone left_is;
      room = omega (arith, so_far.room, boxes-set now i old new d within is, len_is, capacity_is);
    }

pub retires-unmarked : {X : Type 0} {F : X → Type 0} (see : Sight X F) (start now : List (Entry X F)) (before left pushed : List (LeftBox X F))
    (len capacity len_more capacity_more i count after : ℕ) (old new d : Entry X F) → RetiresFirst see start now before left len capacity i count
    → i < length now → old ≡ get_or now i d → row_of see new ≡ retired (row_of see old)
    → left_rows see pushed ≡ left_rows see left ++ marked_row (row_of see old) → len_more + boxes new ≡ len + boxes old → capacity_more ≡ capacity
    → is_marked (row_of see old) ≡ false → after ≡ count
    → RetiresFirst see start (slice_set now i new) before pushed len_more capacity_more (i + 1) after
retires-unmarked see start now before left pushed len capacity len_more capacity_more i count after old new d so_far within is changed left_is len_is
    capacity_is isnt counted = record {
      rows = retiring-entry-unmarked see start now i count after old new d so_far.rows within is changed isnt counted;
      gone = leaving-more (rows_of see start) (left_rows see before) (left_rows see left) (left_rows see pushed) i (row_of see old)
          (still-there (rows_of see start) (rows_of see now) i count (row_of see old) so_far.rows (row-there see now i old d within is)) so_far.gone left_is;
      room = omega (arith, so_far.room, boxes-set now i old new d within is, len_is, capacity_is);
    }
