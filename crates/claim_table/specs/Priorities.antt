-- The priorities of users: a lower number is better.
use Rattle.std.specs.Prelude.{◌≡◌, ℕ, ◌≤◌, ◌^◌, Bool, not, ◌&&◌, nat_le, List, [], ◌∷◌, find, length, position, bytes_eq, Option, if◌then◌else◌}
use Rattle.std.specs.declared.cmp.Ordering.{Ordering}
use Rattle.std.specs.Cmp.Lexicographic.{slice_cmp}
use Rattle.std.specs.List.{list_any}
use Rattle.std.specs.Option.{option_map_or}
use Rattle.std.specs.Ordering.{nat_cmp, ordering_then}
use Rattle.claim_table.specs.declared.priorities.UserPriority.{UserPriority}

-- a user whose priority is set
pub record Setting : Type 0 where
  pub user : List ℕ
  pub number : ℕ

-- a user's priority as a setting
abbrev pub setting_of : UserPriority → Setting
setting_of priority = record { user = priority.user.items; number = priority.number }

-- a number that may be set
abbrev pub IsInRange : Setting → Type 0
IsInRange setting = (1 ≤ setting.number) × (setting.number ≤ 10 ^ 6)

-- the setting is the user's
abbrev pub is_of : List ℕ → Setting → Bool
is_of user setting = bytes_eq user setting.user

-- the priority of a user for whom none is set
abbrev pub default_priority : ℕ
default_priority = 1000

-- each name leads to the place of the user's setting, and to none where none is set
abbrev pub ArePlaced : (List ℕ → Option ℕ) → List Setting → Type 0
ArePlaced place settings = (user : List ℕ) → place user ≡ position (is_of user) settings

-- the priority of a user: the one that is set, or else the default
abbrev pub priority_of : List ℕ → List Setting → ℕ
priority_of user settings = option_map_or (λ setting. setting.number) (find (is_of user) settings) default_priority

-- users by priority, where a lower number is better, and then by name, byte for byte
abbrev pub user_order : (List ℕ → ℕ) → List ℕ → List ℕ → Ordering
user_order priority a b = ordering_then (nat_cmp (priority a) (priority b)) (slice_cmp nat_cmp a b)

-- the settings with one more, which takes the place of the one of its user, or goes last
abbrev pub with_setting : Setting → List Setting → List Setting
with_setting setting [] = setting ∷ []
with_setting setting (other ∷ settings) = if is_of setting.user other then setting ∷ settings else other ∷ with_setting setting settings

-- how many users may have a priority that is set
abbrev pub settings_limit : ℕ
settings_limit = 10000

-- the user is new, and as many are set as may be
abbrev pub lacks_place : List ℕ → List Setting → Bool
lacks_place user settings = not (list_any (is_of user) settings) && nat_le settings_limit (length settings)
