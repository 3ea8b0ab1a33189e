-- What is known of an attribute in the course of an evaluation.
use Rattle.std.specs.Prelude.{ℕ, Bool, ◌&&◌, ◌==◌}
use Rattle.pool_text.specs.declared.language.Pos.{Pos}
use Rattle.ad_value.specs.Plain.{Plain, plain}
use Rattle.cycle_guard.specs.declared.guard.Seen.{Seen}

-- nothing; that it was entered and its value isn't known yet; or its value, with the number of references that it needs
pub data Sight : Type 0 where
  unseen : Sight
  pending : Sight
  done : Plain → ℕ → Sight

-- what an answer says
abbrev pub sight : Seen → Sight
sight Seen.Unseen = unseen
sight Seen.Pending = pending
sight (Seen.Done value height) = done (plain value.now) height

-- two attributes are one
abbrev pub same_pos : Pos → Pos → Bool
same_pos a b = a.ad == b.ad && (a.frame == b.frame && a.attr == b.attr)
