use Rattle.std.proofs.Common.{◌≡◌, ◌++◌, length, map}
use Rattle.ad_lexer.specs.Quoted.{spellings}
use Rattle.ad_printer.specs.Quotes.{letter_for}
use Rattle.ad_printer.proofs.quoting.write_quoted.Given as goal

-- what is written, and the letters of what is left
abbrev pub invariant-loop-rest : goal.invariant-loop-rest
invariant-loop-rest l = l.out.items ++ spellings (map (letter_for l.quote) l.rest) ≡ l.initial.out.items ++ spellings (map (letter_for l.quote) l.text)

abbrev pub decreases-loop-rest : goal.decreases-loop-rest
decreases-loop-rest l = length l.rest
