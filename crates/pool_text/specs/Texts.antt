-- What a text stands for.
use Rattle.std.specs.Prelude.{ℕ, ◌<◌, List, length}
use Rattle.pool_text.specs.declared.text.Bytes.{Bytes}

-- the bytes of a text, wherever they stand
abbrev pub bytes_of : Bytes → List ℕ
bytes_of (Bytes.Short short) = short
bytes_of (Bytes.Long long) = long.value.items

-- bytes that take memory are more than stand in place
abbrev pub StandInPlaceIfShort : Bytes → Type 0
StandInPlaceIfShort (Bytes.Short short) = Unit {0}
StandInPlaceIfShort (Bytes.Long long) = 22 < length long.value.items
