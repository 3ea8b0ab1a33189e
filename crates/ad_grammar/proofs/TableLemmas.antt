-- Each symbol stands in the table of marks, and each reserved word in that of its meanings.
use Rattle.std.proofs.Common.{◌≡◌, ℕ, true, List, IsSome, refl, sym, subst}
use Rattle.std.proofs.lemmas.Slice.Eq.{bytes_eq-Decides}
use Rattle.std.specs.Prelude.{is_some}
use Rattle.std.specs.Str.{bytes_eq}
use Rattle.pool_text.specs.Folding.{folded}
use Rattle.ad_lexer.specs.Marks.{marks, meaning_of}
use Rattle.ad_lexer.specs.Symbols.{is_symbol}
use Rattle.ad_lexer.specs.Words.{is_reserved, reserved}
use Rattle.ad_lexer.proofs.Runs.{any_all}
use Rattle.ad_lexer.proofs.SymbolLemmas.{symbol_passes}
use Rattle.ad_grammar.specs.Words.{reserved_words}

pub symbol-mark : (bytes : List ℕ) → is_symbol bytes ≡ true → IsSome (meaning_of marks bytes)
symbol-mark bytes is = symbol_passes (λ b. is_some (meaning_of marks b)) bytes refl is

pub reserved-meaning : (bytes : List ℕ) → is_reserved bytes ≡ true → IsSome (meaning_of reserved_words (folded bytes))
reserved-meaning bytes is =
    let row = any_all (bytes_eq (folded bytes)) (λ b. is_some (meaning_of reserved_words b)) reserved is refl in
    subst (λ (b : List ℕ). is_some (meaning_of reserved_words b) ≡ true) (sym ((bytes_eq-Decides (folded bytes) row.0).0 row.1)) row.2
