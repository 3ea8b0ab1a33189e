-- Digests of names: numbers that equal names share, whatever the case of their letters.
use Rattle.std.specs.Prelude.{ℕ, ◌+◌, ◌*◌, ◌/◌, ◌%◌, ◌^◌, List, [], ◌∷◌, bit_or}
use Rattle.std.specs.Int.{w64, from_be_bytes}
use Rattle.pool_text.specs.Folding.{folded}

-- a letter with the bit in which small letters differ from capital ones
abbrev pub letter : ℕ → ℕ
letter b = bit_or b 32

-- the number of 64 bits that letters give behind those that gave w, the last letter lowest
abbrev pub word_from : ℕ → List ℕ → ℕ
word_from w [] = w
word_from w (b ∷ bytes) = word_from (((w * 256) % (2 ^ 64) + letter b) % (2 ^ 64)) bytes

-- the product of 128 bits of a multiplier and what h and w add up to
abbrev pub product : ℕ → ℕ → ℕ
product h w = ((h + w) % (2 ^ 64)) * 6364136223846793005

-- the digest h with one word more: the halves of the product, added
abbrev pub stirred : ℕ → ℕ → ℕ
stirred h w = (product h w % (2 ^ 64) + product h w / (2 ^ 64)) % (2 ^ 64)

-- a number of 64 bits that bytes give behind those that gave h: eight bytes are one word, and fewer at the end are too
unfoldable pub digest_from : ℕ → List ℕ → ℕ
digest_from h (a ∷ b ∷ c ∷ d ∷ e ∷ f ∷ g ∷ i ∷ bytes) =
    digest_from (stirred h (from_be_bytes w64 (letter a ∷ letter b ∷ letter c ∷ letter d ∷ letter e ∷ letter f ∷ letter g ∷ letter i ∷ []))) bytes
digest_from h bytes = stirred h (word_from 0 bytes)

-- the number of a name
abbrev pub name_digest : List ℕ → ℕ
name_digest name = digest_from 0 (folded name)
