-- What notices are, and what posting them does to the rows of a desk.
use Rattle.std.specs.Prelude.{◌≡◌, ◌⊎◌, ◌↔◌, ◌≤◌, ◌<◌, ℕ, List, [], ◌∷◌, ◌++◌, filter, fold, length, map, Option, None, Some, IsNone, option_map, bytes_eq}
use Rattle.std.specs.Prelude.{true}
use Rattle.std.specs.List.{AllZip, flat_map}
use Rattle.pool_io.specs.Flow.{Rose}
use Rattle.pool_io.specs.Memory.{next_count}
use Rattle.notice_desk.specs.Desk.{Held, Posts, Row, box_under, is_marked, retired}
use Rattle.notice_desk.specs.declared.notices.PostEnd.{PostEnd}
use Rattle.notice_desk.specs.declared.notices.PostEnd.TheVariants.{NoBox, Failed}
use Rattle.pool_state.specs.declared.posting.Notice.{Notice}

-- ---- posts

-- a line that is posted to a name
pub record Post : Type 0 where
  pub name : List ℕ
  pub line : List ℕ

-- a line as it is posted to a name
abbrev pub post_to : List ℕ → List ℕ → Post
post_to line name = record { name = name; line = line }

-- a notice is posted to each of its names in order
abbrev pub posts_of : Notice → List Post
posts_of notice = map (post_to notice.line) notice.names

-- the posts of notices, in order
abbrev pub posts_of_all : List Notice → List Post
posts_of_all notices = flat_map posts_of notices

-- the lines that go to a name, in order
abbrev pub lines_to : List ℕ → List Post → List (List ℕ)
lines_to name posts = map (λ post. post.line) (filter (λ post. bytes_eq post.name name) posts)

-- ---- a box

-- the lines, each with a line feed behind it
abbrev pub with_feeds : List (List ℕ) → List ℕ
with_feeds lines = flat_map (λ line. line ++ 10 ∷ []) lines

-- the count of the calls once each line was handed over
abbrev pub calls_after : List (List ℕ) → ℕ → ℕ
calls_after lines calls = fold (λ n line. next_count n) calls lines

-- a box that stays: it was called with each line, and where it tells, it has them in order behind what it had
pub record Kept (lines : List (List ℕ)) (old new : Held) : Type 0 where
  pub took : new.taking.taken ≡ option_map (λ bytes. bytes ++ with_feeds lines) old.taking.taken
  pub called : new.taking.calls ≡ calls_after lines old.taking.calls
  pub never_less : old.taking.calls ≤ new.taking.calls
  pub rose : 0 < length lines → Rose old.taking.calls new.taking.calls
  pub later : old.taking.faults ≤ new.taking.faults
  pub failed : new.failed ≡ old.failed

-- a box before and after, each with the failures of its name: it stays, and none of its posts failed; or it is gone, since it
-- was marked before or a post of its name failed
abbrev pub HeldAfter : List (List ℕ) → Option Held → ℕ → Option Held → ℕ → Type 0
HeldAfter lines None before None after = after ≡ before
HeldAfter lines None before (Some new) after = ⊥
HeldAfter lines (Some old) before None after = ((old.failed ≡ true) × (after ≡ before)) ⊎ (after ≡ next_count before)
HeldAfter lines (Some old) before (Some new) after = Kept lines old new × (after ≡ before)

-- ---- a desk

-- the row of a name before the posts and after them
pub record RowAfter (posts : List Post) (old new : Row) : Type 0 where
  pub name : new.name ≡ old.name
  pub held : HeldAfter (lines_to old.name posts) old.held old.failures new.held new.failures

-- ---- the boxes that leave

-- a desk: its rows, and those whose box left it, each as it was then
pub record DeskState : Type 0 where
  pub rows : List Row
  pub left : List Row

-- a desk of these rows, and of these that left
abbrev pub desk_of : List Row → List Row → DeskState
desk_of rows left = record { rows = rows; left = left }

-- the desk behind a post that ended so: where it failed, each marked box leaves, and else none does
abbrev pub swept : PostEnd → DeskState → DeskState
swept Failed desk = desk_of (map retired desk.rows) (desk.left ++ filter is_marked desk.rows)
swept end desk = desk

-- a post: the one box under the name took the line or failed at it, all else stayed, and where it failed the marked boxes left
pub record IsPosted (post : Post) (old new : DeskState) : Type 0 where
  pub end : PostEnd
  pub rows : List Row
  pub no_box : (end ≡ NoBox) ↔ IsNone (box_under post.name old.rows)
  pub took : AllZip (Posts post.name post.line end) old.rows rows
  pub behind : new ≡ swept end (desk_of rows old.left)

-- posts one after the other
abbrev pub ArePosted : List Post → DeskState → DeskState → Type 0
ArePosted [] old new = new ≡ old
ArePosted (post ∷ posts) old new = (between : DeskState) × IsPosted post old between × ArePosted posts between new
