-- The laws of a wire's rules.
use Rattle.std.proofs.Common.{◌≤◌, length, Option, None, Some, Result, Ok, Err, refl, ◌∙◌, arith}
use Rattle.claim_wire.specs.Lines.{event_of}
use Rattle.claim_wire.specs.Wires.{WireState, fault_of}
use Rattle.claim_wire.specs.declared.event.Event.{Event}
use Rattle.claim_wire.specs.declared.fault.LineFault.{LineFault}
use Rattle.claim_wire.specs.declared.fault.WireFault.{WireFault}
use Rattle.pool_script.specs.declared.lines.Line.{Line}
use Rattle.pool_script.specs.declared.lines.Line.TheVariants as line
use Rattle.pool_script.proofs.CountLemmas.{given_lines-length, lines_before_more, lines_before_whole}
use Rattle.script_run.specs.Rules.{IsLawful}
use Rattle.run_rules.specs.WireRules.{answer, answer_event, answer_read, wire_rules}

one_event : (fault : Option WireFault) (event : Event) (w : WireState) → (answer_event fault event w).refusals ≤ 1
one_event None event w = omega arith
one_event (Some fault) event w = omega arith

one_read : (read : Result (Option Event) LineFault) (w : WireState) → (answer_read read w).refusals ≤ 1
one_read (Ok None) w = omega arith
one_read (Ok (Some event)) w = one_event (fault_of event w) event w
one_read (Err fault) w = omega arith

-- a reply is one refusal at most
answer-one : (w : WireState) (l : Line) → (answer w l).refusals ≤ 1
unfolding answer
answer-one w line.TooLong = omega arith
answer-one w (line.Words bytes) = one_read (event_of (length w.resources) (length w.customers) bytes) w

pub wire_lawful : IsLawful wire_rules
wire_lawful = record {
  few = given_lines-length;
  more = lines_before_more;
  whole = lines_before_whole;
  one = answer-one;
  none = λ w k. refl;
  append = λ w a b k m n first second. second ∙ first;
  idle = λ w l k. refl;
}
