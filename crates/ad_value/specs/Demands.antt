-- The operators that don't demand all that they are given. A result is none where the bound on references was passed; so is the
-- whole where a part that is demanded is none.
use Rattle.std.specs.Prelude.{ℕ, ℤ, pos, negsuc, true, false, List, [], ◌∷◌, Option, Some, option_map, option_and_then, slice_get, unwrap_or, if◌then◌else◌}
use Rattle.pool_text.specs.declared.language.AdPlace.{AdPlace}
use Rattle.ad_value.specs.Plain.{Plain, undefined, error, boolean, integer, text, list, ad_at, Plains, plains_of, elements}
use Rattle.ad_value.specs.Limits.{bounded}
use Rattle.ad_value.specs.Logic.{and_is_decided, and_value, or_is_decided, or_value}

-- ---- all are demanded

-- the values of results
abbrev pub all_demanded : List (Option Plain) → Option (List Plain)
all_demanded [] = Some []
all_demanded (r ∷ rs) = option_and_then (λ p. option_map (λ ps. p ∷ ps) (all_demanded rs)) r

-- a list literal is Error where it is too heavy
abbrev pub list_value : List Plain → Plain
list_value ps = bounded (list (plains_of ps))

-- ---- as many as are needed

-- `left && r1 && r2 && ..`, from the left up to the first operand that decides
abbrev pub conjunction : Plain → List (Option Plain) → Option Plain
conjunction left [] = Some left
conjunction left (r ∷ rs) = if and_is_decided left then Some left else option_and_then (λ p. conjunction (and_value left p) rs) r

-- `left || r1 || r2 || ..`, likewise
abbrev pub disjunction : Plain → List (Option Plain) → Option Plain
disjunction left [] = Some left
disjunction left (r ∷ rs) = if or_is_decided left then Some left else option_and_then (λ p. disjunction (or_value left p) rs) r

-- `condition ? first : second`: the branch that isn't chosen isn't demanded
abbrev pub chosen : Option Plain → Option Plain → Plain → Option Plain
chosen first second (boolean true) = first
chosen first second (boolean false) = second
chosen first second undefined = Some undefined
chosen first second condition = Some error

-- ---- attributes of an ad, which `look` finds by the ad's place and the attribute's name

-- `base.name`
abbrev pub selected : (AdPlace → List ℕ → Option Plain) → List ℕ → Plain → Option Plain
selected look name (ad_at place) = look place name
selected look name undefined = Some undefined
selected look name base = Some error

-- the element of a list at an index from 0, Error where there is none
abbrev pub element : Plains → ℤ → Plain
element items (pos n) = unwrap_or (slice_get (elements items) n) error
element items (negsuc n) = error

-- `base[index]`, by the first line that fits
abbrev pub subscripted : (AdPlace → List ℕ → Option Plain) → Plain → Plain → Option Plain
subscripted look error index = Some error
subscripted look base error = Some error
subscripted look undefined index = Some undefined
subscripted look base undefined = Some undefined
subscripted look (list items) (integer n) = Some (element items n)
subscripted look (ad_at place) (text name) = look place name
subscripted look base index = Some error
