-- The ads that are held, as contracts see them, and the rules for them.
use Rattle.std.specs.Prelude.{ℕ, ◌+◌, ◌≤◌, Bool, not, ◌&&◌, nat_le, nat_lt, List, [], ◌∷◌, All, length, sum_by, Option, None, Some, bytes_eq, if◌then◌else◌}
use Rattle.std.specs.List.{list_any}
use Rattle.ad_tree.specs.Frames.{Frame}
use Rattle.ad_store.specs.declared.answers.PutFault.{PutFault}

-- an ad as it is held: its name, the moment of its birth and its lifetime in seconds, the length of its text in bytes, and its frames
pub record Advert : Type 0 where
  pub name : List ℕ
  pub born : ℕ
  pub lifetime : ℕ
  pub size : ℕ
  pub ad : List Frame

-- the ads in order, and beside each the number of its slot
pub record Stock : Type 0 where
  pub ads : List Advert
  pub slots : List ℕ

-- the ad has this name
abbrev pub is_named : List ℕ → Advert → Bool
is_named name advert = bytes_eq name advert.name

-- an ad of this name is held
abbrev pub has : List ℕ → List Advert → Bool
has name ads = list_any (is_named name) ads

-- the ads with one more, which takes the place of the ad of its name, or goes last
abbrev pub placed : Advert → List Advert → List Advert
placed advert [] = advert ∷ []
placed advert (other ∷ ads) = if is_named advert.name other then advert ∷ ads else other ∷ placed advert ads

-- the ads without the one of this name
abbrev pub without : List ℕ → List Advert → List Advert
without name [] = []
without name (advert ∷ ads) = if is_named name advert then ads else advert ∷ without name ads

-- the slots beside the ads that stay when the one of this name leaves
abbrev pub slots_without : List ℕ → List Advert → List ℕ → List ℕ
slots_without name (advert ∷ ads) (slot ∷ slots) = if is_named name advert then slots else slot ∷ slots_without name ads slots
slots_without name ads slots = slots

-- the slot beside the first ad that passes a test
abbrev pub slot_beside : (Advert → Bool) → List Advert → List ℕ → Option ℕ
slot_beside test (advert ∷ ads) (slot ∷ slots) = if test advert then Some slot else slot_beside test ads slots
slot_beside test ads slots = None

-- the slots beside the ads that pass a test, in order
abbrev pub slots_beside : (Advert → Bool) → List Advert → List ℕ → List ℕ
slots_beside test (advert ∷ ads) (slot ∷ slots) = if test advert then slot ∷ slots_beside test ads slots else slots_beside test ads slots
slots_beside test ads slots = []

-- the slot of the ad of this name
abbrev pub slot_named : List ℕ → Stock → Option ℕ
slot_named name stock = slot_beside (is_named name) stock.ads stock.slots

-- ---- time

-- the ad has not outlived its lifetime
abbrev pub is_live : ℕ → Advert → Bool
is_live now advert = nat_lt now (advert.born + advert.lifetime)

-- the slot of the first ad that isn't live
abbrev pub first_expired : ℕ → Stock → Option ℕ
first_expired now stock = slot_beside (λ advert. not (is_live now advert)) stock.ads stock.slots

-- no ad's lifetime ends before this moment
abbrev pub EndFrom : ℕ → List Advert → Type 0
EndFrom moment ads = All (λ advert. moment ≤ advert.born + advert.lifetime) ads

-- the slots of all ads that aren't live, in order
abbrev pub expired_slots : ℕ → Stock → List ℕ
expired_slots now stock = slots_beside (λ advert. not (is_live now advert)) stock.ads stock.slots

-- ---- limits

-- the greatest number of ads
abbrev pub ads_limit : ℕ
ads_limit = 10000

-- the greatest length of the texts of all ads together, in bytes
abbrev pub text_limit : ℕ
text_limit = 33554432

-- the length of the texts of all ads together, in bytes
abbrev pub text_held : List Advert → ℕ
text_held ads = sum_by (λ advert. advert.size) ads

-- what there is no room for, where an ad of this name with a text of so many bytes is to be put: first a place, then its text beside those of the others
abbrev pub lack : List ℕ → ℕ → List Advert → Option PutFault
lack name size ads =
    if not (has name ads) && nat_le ads_limit (length ads) then Some PutFault.Full
    else if nat_lt text_limit (text_held (without name ads) + size) then Some PutFault.FullText
    else None
