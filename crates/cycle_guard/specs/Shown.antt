-- What contracts see of a guard: a sight for each attribute.
use Rattle.std.specs.Prelude.{ℕ, Bool, ◌&&◌, ◌==◌, List, [], ◌∷◌, Option, None, Some, Box, cond}
use Rattle.std.specs.Option.{option_or}
use Rattle.std.specs.Global.{Global}
use Rattle.std.specs.HashMap.{get}
use Rattle.pool_text.specs.declared.language.Pos.{Pos}
use Rattle.ad_value.specs.Plain.{plain}
use Rattle.cycle_guard.specs.declared.guard.Entry.{Entry}
use Rattle.cycle_guard.specs.declared.guard.Guard.{Guard}
use Rattle.cycle_guard.specs.declared.guard.Kept.{Kept}
use Rattle.cycle_guard.specs.declared.guard.Others.{Others}
use Rattle.cycle_guard.specs.Sights.{Sight, unseen, pending, done, same_pos}

-- an attribute that was entered is pending, or done where a value is kept
abbrev pub sight_of_kept : Option Kept → Sight
sight_of_kept None = pending
sight_of_kept (Some kept) = done (plain kept.value) kept.height

-- one that wasn't entered is unseen
abbrev pub sight_of_entry : Option (Option Kept) → Sight
sight_of_entry None = unseen
sight_of_entry (Some kept) = sight_of_kept kept

-- what entries have of an attribute
abbrev pub entry_of : List Entry → Pos → Option (Option Kept)
entry_of [] q = None
entry_of (e ∷ es) q = cond (same_pos e.pos q) (Some e.kept) (entry_of es q)

-- the key of an attribute in the map
abbrev pub key_of : Pos → ℕ × ℕ × ℕ
key_of q = (q.ad, q.frame, q.attr)

-- two keys are one
abbrev pub same_key : (ℕ × ℕ × ℕ) → (ℕ × ℕ × ℕ) → Bool
same_key a b = a.0 == b.0 && a.1 == b.1 && a.2 == b.2

-- what the map has of an attribute: nothing before it is made
abbrev pub other_of : Option (Box Others Global) → Pos → Option (Option Kept)
other_of None q = None
other_of (Some others) q = get same_key others.value.kept (key_of q)

-- what the guard knows of an attribute
abbrev pub sight_of : Guard → Pos → Sight
sight_of g q = sight_of_entry (option_or (entry_of g.first.items q) (other_of g.others q))
