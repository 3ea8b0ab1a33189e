-- The priorities that are set, and the places of their users.
use Rattle.std.proofs.Common.{◌≡◌, ◌≤◌, ℕ, zero, suc, Bool, true, false, not, ◌&&◌, ◌||◌, nat_le, cond, if◌then◌else◌, List, [], ◌∷◌, ◌++◌}
use Rattle.std.proofs.Common.{find, get_or, length, map, position, slice_get, slice_set, All, Option}
use Rattle.std.proofs.Common.{None, Some, Vec, is_some, bytes_eq, refl, ap, sym, ◌∙◌, arith}
use Rattle.std.specs.declared.alloc.Global.{Global}
use Rattle.std.specs.Prelude.{option_map}
use Rattle.std.specs.List.{list_any}
use Rattle.std.specs.Option.{option_and_then, option_map_or, option_or}
use Rattle.std.proofs.lemmas.List.{map-set}
use Rattle.std.proofs.lemmas.List.Elements.{All-head, All-tail}
use Rattle.std.proofs.lemmas.Option.{none-some, same_Some}
use Rattle.std.proofs.lemmas.Slice.Eq.{bytes_eq-Decides}
use Rattle.claim_table.specs.declared.priorities.UserPriority.{UserPriority}
use Rattle.claim_table.specs.Priorities.{ArePlaced, IsInRange, Setting, default_priority, is_of, lacks_place, priority_of, setting_of, settings_limit}
use Rattle.claim_table.specs.Priorities.{with_setting}
use Rattle.claim_table.proofs.NoteLemmas.{first_at, position-first}

-- ---- the first that passes

module _ {A : Type 0} (test : A → Bool) where
  found-first : (xs : List A) → find test xs ≡ option_and_then (slice_get xs) (first_at test xs)
  unfolding first_at
  found-first [] = refl
  found-first (x ∷ xs) = by (test x) (first_at test xs) (found-first xs)
    where
      by : (b : Bool) (first : Option ℕ) → find test xs ≡ option_and_then (slice_get xs) first
          → cond b (Some x) (find test xs) ≡ option_and_then (slice_get (x ∷ xs)) (cond b (Some 0) (option_map suc first))
      by true first rest = refl
      by false None rest = rest
      by false (Some k) rest = rest

  any-first : (xs : List A) → list_any test xs ≡ is_some (first_at test xs)
  unfolding first_at
  any-first [] = refl
  any-first (x ∷ xs) = by (test x) (first_at test xs) (any-first xs)
    where
      by : (b : Bool) (first : Option ℕ) → list_any test xs ≡ is_some first → b || list_any test xs ≡ is_some (cond b (Some 0) (option_map suc first))
      by true first rest = refl
      by false None rest = rest
      by false (Some k) rest = rest

  first-there : (xs : List A) (i : ℕ) → first_at test xs ≡ Some i → (x : A) × (slice_get xs i ≡ Some x) × (test x ≡ true)
  unfolding first_at
  first-there [] i is = absurd (none-some i is)
  first-there (x ∷ xs) i is = by (test x) refl (first_at test xs) (first-there xs) is
    where
      by : (b : Bool) → test x ≡ b → (first : Option ℕ)
          → ((k : ℕ) → first ≡ Some k → (y : A) × (slice_get xs k ≡ Some y) × (test y ≡ true))
          → cond b (Some 0) (option_map suc first) ≡ Some i → (y : A) × (slice_get (x ∷ xs) i ≡ Some y) × (test y ≡ true)
      by true passes first rest is = (x, ap (slice_get (x ∷ xs)) (sym (same_Some 0 i is)), passes)
      by false fails None rest is = absurd (none-some i is)
      by false fails (Some k) rest is =
          let there = rest k refl in
          (there.0, ap (slice_get (x ∷ xs)) (sym (same_Some (suc k) i is)) ∙ there.1, there.2)

  first-last : (xs : List A) (y : A) → first_at test (xs ++ y ∷ []) ≡ option_or (first_at test xs) (cond (test y) (Some (length xs)) None)
  unfolding first_at
  first-last [] y = refl
  first-last (x ∷ xs) y = ap (λ f. cond (test x) (Some 0) (option_map suc f)) (first-last xs y) ∙ by (test x) (first_at test xs) (test y)
    where
      by : (b : Bool) (first : Option ℕ) (c : Bool)
          → cond b (Some 0) (option_map suc (option_or first (cond c (Some (length xs)) None)))
          ≡ option_or (cond b (Some 0) (option_map suc first)) (cond c (Some (suc (length xs))) None)
      by true first c = refl
      by false (Some k) c = refl
      by false None true = refl
      by false None false = refl

-- ---- the place of a user

module _ (user : List ℕ) (settings : List Setting) where
  -- the setting at the place of a user
  pub stands : (i : ℕ) → position (is_of user) settings ≡ Some i → (s : Setting) × (slice_get settings i ≡ Some s) × (user ≡ s.user)
  stands i is =
      let there = first-there (is_of user) settings i (sym (position-first (is_of user) settings) ∙ is) in
      (there.0, there.1, (bytes_eq-Decides user there.0.user).0 there.2)

  pub number-at : (place : Option ℕ) → place ≡ position (is_of user) settings
      → priority_of user settings ≡ option_map_or (λ (s : Setting). s.number) (option_and_then (slice_get settings) place) default_priority
  number-at place is =
      ap (λ s. option_map_or (λ (s : Setting). s.number) s default_priority)
      (found-first (is_of user) settings ∙ ap (option_and_then (slice_get settings)) (sym (position-first (is_of user) settings) ∙ sym is))

  -- there is room exactly where the user has a place, or fewer have one than may
  pub room-is : (place : Option ℕ) → place ≡ position (is_of user) settings
      → lacks_place user settings ≡ (not (is_some place) && nat_le settings_limit (length settings))
  room-is place is =
      ap (λ b. not b && nat_le settings_limit (length settings))
      (any-first (is_of user) settings ∙ ap is_some (sym (position-first (is_of user) settings) ∙ sym is))

pub in-range : (user : List ℕ) (settings : List Setting) → All IsInRange settings → (1 ≤ priority_of user settings) × (priority_of user settings ≤ 1000000)
in-range user [] h = (omega arith, omega arith)
in-range user (s ∷ settings) h = by (is_of user s) (in-range user settings (All-tail IsInRange s settings h))
  where
    here : IsInRange s
    here = All-head IsInRange s settings h

    by : (b : Bool) → (1 ≤ priority_of user settings) × (priority_of user settings ≤ 1000000)
        → (1 ≤ option_map_or (λ (s : Setting). s.number) (cond b (Some s) (find (is_of user) settings)) default_priority)
        × (option_map_or (λ (s : Setting). s.number) (cond b (Some s) (find (is_of user) settings)) default_priority ≤ 1000000)
    by true rest = here
    by false rest = rest

-- ---- a setting in its place

pub shown : (items : List UserPriority) (i : ℕ) (s : Setting) (item : UserPriority) → slice_get (map setting_of items) i ≡ Some s
    → item ≡ get_or items i item → slice_get (map setting_of items) i ≡ Some (setting_of item)
shown [] i s item at is = absurd (none-some s at)
shown (x ∷ items) zero s item at is = ap (λ y. Some (setting_of y)) (sym is)
shown (x ∷ items) (suc i) s item at is = shown items i s item at is

-- the number at a user's place is changed
pub record Change (items : List UserPriority) (i n : ℕ) (user : List ℕ) (item : UserPriority) : Type 0 where
  pub was : Setting
  pub at : slice_get (map setting_of items) i ≡ Some was
  pub same : user ≡ was.user
  pub is : map setting_of (slice_set items i (record { user = item.user; number = n }))
      ≡ slice_set (map setting_of items) i (record { user = user; number = n })

pub change : (items : List UserPriority) (i n : ℕ) (user : List ℕ) (item : UserPriority) → item ≡ get_or items i item
    → position (is_of user) (map setting_of items) ≡ Some i → Change items i n user item
change items i n user item here placed =
    let there = stands user (map setting_of items) i placed in
    let shows = shown items i there.0 item there.1 here in
    let same : user ≡ item.user.items =
    there.2 ∙ ap (λ (s : Setting). s.user) (same_Some there.0 (setting_of item) (sym there.1 ∙ shows)) in
    record {
      was = there.0;
      at = there.1;
      same = there.2;
      is =
          map-set setting_of items i (record { user = item.user; number = n })
          ∙ ap (λ (u : List ℕ). slice_set (map setting_of items) i (record { user = u; number = n })) (sym same);
    }

pub last-setting : (items : List UserPriority) (name : Vec ℕ Global) (n : ℕ) (user : List ℕ) → name.items ≡ user
    → map setting_of (items ++ record { user = name; number = n } ∷ []) ≡ map setting_of items ++ record { user = user; number = n } ∷ []
last-setting [] name n user same = ap (λ (u : List ℕ). record { user = u; number = n } ∷ []) same
last-setting (x ∷ items) name n user same = ap (λ l. setting_of x ∷ l) (last-setting items name n user same)

-- ---- a setting that is changed, or comes

module _ (setting : Setting) where
  with-first : (settings : List Setting)
      → with_setting setting settings ≡ option_map_or (λ i. slice_set settings i setting) (first_at (is_of setting.user) settings) (settings ++ setting ∷ [])
  unfolding first_at
  with-first [] = refl
  with-first (s ∷ settings) = by (is_of setting.user s) (first_at (is_of setting.user) settings) (with-first settings)
    where
      by : (b : Bool) (first : Option ℕ)
          → with_setting setting settings ≡ option_map_or (λ i. slice_set settings i setting) first (settings ++ setting ∷ [])
          → (if b then setting ∷ settings else s ∷ with_setting setting settings)
          ≡ option_map_or (λ i. slice_set (s ∷ settings) i setting) (cond b (Some 0) (option_map suc first)) (s ∷ settings ++ setting ∷ [])
      by true first rest = refl
      by false None rest = ap (λ l. s ∷ l) rest
      by false (Some k) rest = ap (λ l. s ∷ l) rest

  pub with-placed : (settings : List Setting) (place : Option ℕ) → position (is_of setting.user) settings ≡ place
      → with_setting setting settings ≡ option_map_or (λ i. slice_set settings i setting) place (settings ++ setting ∷ [])
  with-placed settings place is =
      with-first settings
      ∙ ap (λ f. option_map_or (λ i. slice_set settings i setting) f (settings ++ setting ∷ [])) (sym (position-first (is_of setting.user) settings) ∙ is)

  same-first : (other : List ℕ) (settings : List Setting) (i : ℕ) (was : Setting) → slice_get settings i ≡ Some was → setting.user ≡ was.user
      → first_at (is_of other) (slice_set settings i setting) ≡ first_at (is_of other) settings
  unfolding first_at
  same-first other [] i was at same = absurd (none-some was at)
  same-first other (s ∷ settings) zero was at same =
      ap (λ u. cond (bytes_eq other u) (Some 0) (option_map suc (first_at (is_of other) settings)))
      (same ∙ ap (λ (t : Setting). t.user) (sym (same_Some s was at)))
  same-first other (s ∷ settings) (suc i) was at same =
      ap (λ f. cond (is_of other s) (Some 0) (option_map suc f)) (same-first other settings i was at same)

  -- a changed number leaves each user's place
  pub places-stay : (place : List ℕ → Option ℕ) (settings : List Setting) (i : ℕ) (was : Setting) → slice_get settings i ≡ Some was
      → setting.user ≡ was.user → ArePlaced place settings → ArePlaced place (slice_set settings i setting)
  places-stay place settings i was at same placed = λ other.
      placed other ∙ position-first (is_of other) settings ∙ sym (same-first other settings i was at same)
      ∙ sym (position-first (is_of other) (slice_set settings i setting))

  -- a new user's place is behind all others
  pub place-comes : (old new : List ℕ → Option ℕ) (settings : List Setting) → position (is_of setting.user) settings ≡ None → ArePlaced old settings
      → ((other : List ℕ) → new other ≡ cond (bytes_eq setting.user other) (Some (length settings)) (old other)) → ArePlaced new (settings ++ setting ∷ [])
  place-comes old new settings none placed turns = λ other.
      turns other ∙ ap (cond (bytes_eq setting.user other) (Some (length settings))) (placed other ∙ position-first (is_of other) settings)
      ∙ by other (bytes_eq setting.user other) refl
      ∙ sym (position-first (is_of other) (settings ++ setting ∷ []) ∙ first-last (is_of other) settings setting)
    where
      by : (other : List ℕ) (b : Bool) → bytes_eq setting.user other ≡ b
          → cond b (Some (length settings)) (first_at (is_of other) settings)
          ≡ option_or (first_at (is_of other) settings) (cond (is_of other setting) (Some (length settings)) None)
      by other true is =
          let same : setting.user ≡ other = (bytes_eq-Decides setting.user other).0 is in
          let absent : first_at (is_of other) settings ≡ None =
          ap (λ u. first_at (is_of u) settings) (sym same) ∙ sym (position-first (is_of setting.user) settings) ∙ none in
          let here : is_of other setting ≡ true = (bytes_eq-Decides other setting.user).1 (sym same) in
          sym (ap (λ f. option_or f (cond (is_of other setting) (Some (length settings)) None)) absent ∙ ap (λ c. cond c (Some (length settings)) None) here)
      by other false is = tested (is_of other setting) refl
        where
          tested : (c : Bool) → is_of other setting ≡ c
              → first_at (is_of other) settings ≡ option_or (first_at (is_of other) settings) (cond c (Some (length settings)) None)
          tested true same = let back = (bytes_eq-Decides setting.user other).1 (sym ((bytes_eq-Decides other setting.user).0 same)) in absurd (cc)
          tested false other_user = kept (first_at (is_of other) settings)
            where
              kept : (f : Option ℕ) → f ≡ option_or f None
              kept None = refl
              kept (Some k) = refl
