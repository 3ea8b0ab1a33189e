-- The rows of a desk's entries, by a sight of its boxes.
use Rattle.std.specs.Prelude.{ℕ, List, cond, is_some, map, option_map, Some}
use Rattle.std.specs.Global.{Global}
use Rattle.std.specs.declared.dyn_box.DynBox.{DynBox}
use Rattle.notice_desk.specs.declared.entry.Entry.{Entry}
use Rattle.notice_desk.specs.declared.entry.HeldBox.{HeldBox}
use Rattle.notice_desk.specs.declared.entry.LeftBox.{LeftBox}
use Rattle.notice_desk.specs.Mail.{Taking}
use Rattle.notice_desk.specs.Desk.{Held, Row}

-- what is seen of a box
abbrev pub Sight : (X : Type 0) (F : X → Type 0) → Type 0
Sight X F = DynBox X Global F → Taking

abbrev pub held_of : {X : Type 0} {F : X → Type 0} → Sight X F → HeldBox X F → Held
held_of see held = record { taking = see held.mailbox; failed = held.failed }

abbrev pub row_of : {X : Type 0} {F : X → Type 0} → Sight X F → Entry X F → Row
row_of see entry = record { name = entry.name; held = option_map (held_of see) entry.held; failures = entry.failures }

abbrev pub rows_of : {X : Type 0} {F : X → Type 0} → Sight X F → List (Entry X F) → List Row
rows_of see entries = map (row_of see) entries

abbrev pub entry_names : {X : Type 0} {F : X → Type 0} → List (Entry X F) → List (List ℕ)
entry_names entries = map (λ entry. entry.name) entries

-- the row of a box that left, as it was
abbrev pub left_row : {X : Type 0} {F : X → Type 0} → Sight X F → LeftBox X F → Row
left_row see left = record { name = left.held.name; held = Some (held_of see left.held); failures = left.failures }

abbrev pub left_rows : {X : Type 0} {F : X → Type 0} → Sight X F → List (LeftBox X F) → List Row
left_rows see left = map (left_row see) left

-- how many boxes an entry holds
abbrev pub boxes : {X : Type 0} {F : X → Type 0} → Entry X F → ℕ
boxes entry = cond (is_some entry.held) 1 0
