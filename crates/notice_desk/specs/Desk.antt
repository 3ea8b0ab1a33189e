-- What contracts see of a desk: a row for each name, and what each call does to the rows.
use Rattle.std.specs.Prelude.{◌≡◌, ◌≢◌, ℕ, Bool, true, false, not, ◌&&◌, List, [], ◌∷◌, map, filter, Option, None, Some, is_some}
use Rattle.std.specs.Prelude.{bytes_eq, if◌then◌else◌}
use Rattle.pool_io.specs.Memory.{next_count}
use Rattle.notice_desk.specs.Mail.{Taking, Takes, Refuses}
use Rattle.notice_desk.specs.declared.notices.PostEnd.{PostEnd}
use Rattle.notice_desk.specs.declared.notices.PostEnd.TheVariants.{NoBox, Delivered, Failed}

-- a box on the desk, and whether it is marked as failed
pub record Held : Type 0 where
  pub taking : Taking
  pub failed : Bool

-- a name, its box or none where it was retired, and how many posts to the name failed
pub record Row : Type 0 where
  pub name : List ℕ
  pub held : Option Held
  pub failures : ℕ

-- the names of rows, in order
abbrev pub names_of : List Row → List (List ℕ)
names_of rows = map (λ row. row.name) rows

-- the row of a name that is put on the desk
abbrev pub new_row : List ℕ → Taking → Row
new_row name taking = record { name = name; held = Some (record { taking = taking; failed = false }); failures = 0 }

-- the box under a name
abbrev pub box_under : List ℕ → List Row → Option Held
box_under name [] = None
box_under name (row ∷ rows) = if bytes_eq row.name name then row.held else box_under name rows

-- the failures kept for a name
abbrev pub failures_under : List ℕ → List Row → Option ℕ
failures_under name [] = None
failures_under name (row ∷ rows) = if bytes_eq row.name name then Some row.failures else failures_under name rows

-- what a box tells of what it took
abbrev pub told_by : Option Held → Option (List ℕ)
told_by None = None
told_by (Some held) = held.taking.taken

-- the rows without the name
abbrev pub without : List ℕ → List Row → List Row
without name rows = filter (λ row. not (bytes_eq row.name name)) rows

-- whether a box leaves the desk with the name
abbrev pub leaves_with : List ℕ → Row → Bool
leaves_with name row = bytes_eq row.name name && is_some row.held

-- the row where it has a box
abbrev pub boxed_row : Row → List Row
boxed_row row = if is_some row.held then row ∷ [] else []

-- a box before and after a post to it: it took the notice and its mark stays, or it refused and is marked
abbrev pub HeldPosts : List ℕ → PostEnd → Option Held → Option Held → Type 0
HeldPosts notice NoBox None None = Unit {0}
HeldPosts notice Delivered (Some old) (Some new) = Takes old.taking new.taking notice × (new.failed ≡ old.failed)
HeldPosts notice Failed (Some old) (Some new) = Refuses old.taking new.taking × (new.failed ≡ true)
HeldPosts notice end old new = ⊥

-- one more failure where the post failed
abbrev pub failures_after : PostEnd → ℕ → ℕ
failures_after Failed failures = next_count failures
failures_after end failures = failures

-- the row of the name before and after a post to it
pub record RowPosts (notice : List ℕ) (end : PostEnd) (old new : Row) : Type 0 where
  pub name : new.name ≡ old.name
  pub held : HeldPosts notice end old.held new.held
  pub failures : new.failures ≡ failures_after end old.failures

-- any row before and after a post: that of the name takes the notice, each other stays
pub record Posts (name notice : List ℕ) (end : PostEnd) (old new : Row) : Type 0 where
  pub under : old.name ≡ name → RowPosts notice end old new
  pub others : old.name ≢ name → new ≡ old

-- whether a box stands there and is marked
abbrev pub marked : Option Held → Bool
marked None = false
marked (Some held) = held.failed

-- whether a row's box stands there and is marked
abbrev pub is_marked : Row → Bool
is_marked row = marked row.held

-- the row where it is marked
abbrev pub marked_row : Row → List Row
marked_row row = if is_marked row then row ∷ [] else []

-- the box, or none where it is marked
abbrev pub unmarked : Option Held → Option Held
unmarked None = None
unmarked (Some held) = if held.failed then None else Some held

-- a row without its box where that is marked
abbrev pub retired : Row → Row
retired row = record { name = row.name; held = unmarked row.held; failures = row.failures }
