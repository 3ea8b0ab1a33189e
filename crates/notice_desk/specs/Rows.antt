-- The rows of a desk, and those whose box left it.
use Rattle.std.specs.Prelude.{List}
use Rattle.notice_desk.specs.declared.desk.Desk.{Desk}
use Rattle.notice_desk.specs.Desk.{Row}
use Rattle.notice_desk.specs.Sight.{Sight, left_rows, rows_of}

abbrev pub rows : {X : Type 0} {F : X → Type 0} → Sight X F → Desk X F → List Row
rows see desk = rows_of see desk.entries.items

abbrev pub rows_left : {X : Type 0} {F : X → Type 0} → Sight X F → Desk X F → List Row
rows_left see desk = left_rows see desk.left.items
