use Rattle.std.proofs.Common.{◌≡◌, ◌-◌, ◌≤◌, length, drop, true}
use Rattle.ad_lexer.specs.Spans.{lexemes_of, are_within, openings_of, AreMarked}
use Rattle.ad_lexer.proofs.Texts.{Reached}
use Rattle.ad_lexer.proofs.lexer.divide.Given as goal

abbrev pub invariant-loop-spans : goal.invariant-loop-spans
invariant-loop-spans l =
    Reached l.text (drop l.at l.text) (lexemes_of l.text l.spans.items) l.at × (l.at ≤ length l.text) × (are_within (length l.text) l.spans.items ≡ true)
    × AreMarked l.text l.spans.items × (openings_of l.spans.items ≤ l.openings) × (l.openings ≤ l.at)

abbrev pub decreases-loop-spans : goal.decreases-loop-spans
decreases-loop-spans l = length l.text - l.at
