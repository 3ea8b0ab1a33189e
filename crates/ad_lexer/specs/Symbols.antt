-- The symbols of the language, which are tokens.
use Rattle.std.specs.Prelude.{ℕ, Bool, List, [], ◌∷◌, codes}
use Rattle.std.specs.List.{list_any}
use Rattle.std.specs.Str.{bytes_eq}

-- each symbol by its bytes
abbrev pub symbols : List (List ℕ)
symbols =
    codes "(" ∷ codes ")" ∷ codes "[" ∷ codes "]" ∷ codes "{" ∷ codes "}" ∷ codes "," ∷ codes ";" ∷ codes "." ∷ codes "="
    ∷ codes "?" ∷ codes ":" ∷ codes "||" ∷ codes "&&" ∷ codes "|" ∷ codes "^" ∷ codes "&" ∷ codes "==" ∷ codes "!="
    ∷ codes "=?=" ∷ codes "=!=" ∷ codes "<" ∷ codes "<=" ∷ codes ">" ∷ codes ">=" ∷ codes "<<" ∷ codes ">>" ∷ codes ">>>"
    ∷ codes "+" ∷ codes "-" ∷ codes "*" ∷ codes "/" ∷ codes "%" ∷ codes "!" ∷ codes "~" ∷ []

-- the bytes are one of the symbols
abbrev pub is_symbol : List ℕ → Bool
is_symbol bytes = list_any (bytes_eq bytes) symbols
