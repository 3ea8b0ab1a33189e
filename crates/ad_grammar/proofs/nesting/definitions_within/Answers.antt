use Rattle.std.proofs.Common.{arith, ◌≡◌, ◌+◌, ◌∷◌, drop, ap, subst, sym, ◌∙◌}
use Rattle.ad_grammar.specs.HeldMarks.{IsTurn}
use Rattle.ad_grammar.specs.Nesting.{nests_deeper, nests_too_deep}
use Rattle.ad_grammar.specs.Words.{words}
use Rattle.ad_grammar.proofs.NestingLemmas.{level, opened-next, passed-next, deep-next}
use Rattle.ad_grammar.proofs.WordLemmas.{stands}
use Rattle.ad_grammar.proofs.nesting.definitions_within.Goals as goal
use Rattle.ad_grammar.proofs.nesting.definitions_within.Goals.{in-Opens+else-room-eq0, in-Closes, in-Neither}

pub loop-i-init : goal.loop-i-init
loop-i-init c = record { rest = level 130 (words c.args.tokens.now); few = omega arith }

pub returns-then-room-eq0-clause-none : goal.returns-then-room-eq0-clause-none
returns-then-room-eq0-clause-none c = λ is.
    let room = c.loop-i.room in
    let at = stands c.args.tokens.now c.loop-i.i c.mark-mark.result c.mark-mark.ensures in
    let turned = subst (λ t. IsTurn t at.here) c.in-Opens.is (c.turn_of.ensures at.here at.marked) in
    sym c.loop-i.invariant.rest ∙ ap (nests_deeper 130 room) at.behind
    ∙ deep-next 130 room at.here (drop (c.loop-i.i + 1) (words c.args.tokens.now)) 1 0 turned.0 turned.1 (omega (arith, c.if-room-eq0.true))

pub loop-i-preserved : goal.loop-i-preserved
loop-i-preserved c =
    let room = c.loop-i.room in
    let next = c.match-turn_of.room in
    let at = stands c.args.tokens.now c.loop-i.i c.mark-mark.result c.mark-mark.ensures in
    let more = drop (c.loop-i.i + 1) (words c.args.tokens.now) in
    let here : nests_deeper 130 room (at.here ∷ more) ≡ nests_too_deep (words c.args.tokens.now) =
    sym (ap (nests_deeper 130 room) at.behind) ∙ c.loop-i.invariant.rest in
    elim c.match-turn_of.branch [
      | in-Opens+else-room-eq0 b ↦
          let turned = subst (λ t. IsTurn t at.here) b.in-Opens.is (c.turn_of.ensures at.here at.marked) in
          record {
            rest = sym (opened-next 130 room at.here more 1 0 turned.0 turned.1 next (omega arith) (omega arith)
                (omega (arith, b.if-room-eq0.false, b.room-is))) ∙ here;
            few = omega (arith, b.room-is, c.loop-i.invariant.few);
          }
      | in-Closes b ↦
          let turned = subst (λ t. IsTurn t at.here) b.in-Closes.is (c.turn_of.ensures at.here at.marked) in
          record {
            rest = sym (passed-next 130 room at.here more 0 1 turned.0 turned.1 next (omega arith) (omega arith) (omega (arith, b.room-is))) ∙ here;
            few = omega (arith, b.room-is, c.loop-i.invariant.few);
          }
      | in-Neither b ↦
          let turned = subst (λ t. IsTurn t at.here) b.in-Neither.is (c.turn_of.ensures at.here at.marked) in
          record {
            rest = sym (passed-next 130 room at.here more 0 0 turned.0 turned.1 next (omega arith) (omega arith) (omega (arith, b.room-is))) ∙ here;
            few = omega (arith, b.room-is, c.loop-i.invariant.few);
          }
    ]
