-- What names feed the hashers of a frame, by which it finds its attributes.
use Rattle.std.specs.Prelude.{ℕ, ◌+◌, ◌-◌, ◌*◌, ◌^◌, List, [], ◌∷◌, drop, length, map, take}
use Rattle.std.specs.Cmp.Lexicographic.{bytes_decides}
use Rattle.std.specs.Hash as fed
use Rattle.std.specs.Hash.{Alike, on_Alike, same_Alike}
use Rattle.std.specs.Int.{w16, w32, w64, from_be_bytes}
use Rattle.std.specs.List.{flat_map}
use Rattle.pool_text.specs.Digests.{letter}
use Rattle.pool_text.specs.Folding.{folded}
use Rattle.ad_tree.specs.Names.{same_name}

-- fewer than eight letters as a word: the first four and the last four, of which some may be the same; or all three, two or one
unfoldable pub last_word : List ℕ → ℕ
last_word [] = 0
last_word (a ∷ []) = a
last_word (a ∷ b ∷ []) = from_be_bytes w16 (a ∷ b ∷ [])
last_word (a ∷ b ∷ c ∷ []) = from_be_bytes w32 (0 ∷ a ∷ b ∷ c ∷ [])
last_word letters = from_be_bytes w32 (take 4 letters) * 2 ^ 32 + from_be_bytes w32 (drop (length letters - 4) letters)

-- the words of letters: each eight are one, and those that are left are the last
unfoldable pub words : List ℕ → List ℕ
words (a ∷ b ∷ c ∷ d ∷ e ∷ f ∷ g ∷ h ∷ letters) = from_be_bytes w64 (a ∷ b ∷ c ∷ d ∷ e ∷ f ∷ g ∷ h ∷ []) ∷ words letters
words letters = last_word letters ∷ []

-- what a name feeds a hasher: the words of its letters, none of which tells a small one from a capital one
abbrev pub hashed_name : List ℕ → List (List ℕ)
hashed_name name = flat_map fed.u64 (words (map letter (folded name)))

-- equal names feed it alike
pub equal_names : Alike same_name hashed_name
equal_names = on_Alike folded (same_Alike (λ bytes. flat_map fed.u64 (words (map letter bytes))) bytes_decides)
