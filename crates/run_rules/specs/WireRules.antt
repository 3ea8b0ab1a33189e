-- The rules of the wire of the claiming protocol: what it answers to the lines of a schedule.
use Rattle.std.specs.Prelude.{◌≡◌, ℕ, List, [], length, codes, Option, None, Some, Result, Ok, Err}
use Rattle.claim_wire.specs.Lines.{event_of}
use Rattle.claim_wire.specs.Replies.{reply_of}
use Rattle.claim_wire.specs.Wires.{WireState, fault_of, happens}
use Rattle.claim_wire.specs.declared.event.Event.{Event}
use Rattle.claim_wire.specs.declared.fault.LineFault.{LineFault}
use Rattle.claim_wire.specs.declared.fault.LineFault.TheVariants as line_faults
use Rattle.claim_wire.specs.declared.fault.WireFault.{WireFault}
use Rattle.claim_wire.specs.declared.fault.WireFault.TheVariants as wire_faults
use Rattle.pool_replies.specs.Refusals.{line_refusal}
use Rattle.pool_script.specs.GivenLines.{given_lines}
use Rattle.pool_script.specs.declared.lines.Line.{Line}
use Rattle.pool_script.specs.declared.lines.Line.TheVariants as line
use Rattle.script_run.specs.Rules.{Rules}

-- the wire behind a line, the text of the reply, and how many refusals that is, 0 or 1
pub record WireAnswer : Type 0 where
  pub wire : WireState
  pub text : List ℕ
  pub refusals : ℕ

-- a line that is refused changes nothing
abbrev pub refused : WireState → List ℕ → WireAnswer
refused w text = record { wire = w; text = text; refusals = 1 }

-- the line of a refused event; want of memory refuses none
abbrev pub wire_refusal : WireFault → List ℕ
wire_refusal wire_faults.NotIdle = codes "refused 16 customer not idle\n"
wire_refusal wire_faults.NothingToLeave = codes "refused 17 nothing to leave\n"
wire_refusal wire_faults.NothingToSend = codes "refused 18 nothing to send\n"
wire_refusal wire_faults.NoMessage = codes "refused 19 no such message\n"
wire_refusal wire_faults.TooMany = codes "refused 20 too many messages\n"
wire_refusal wire_faults.OutOfMemory = []

-- the line of a line that names no event
abbrev pub event_refusal : LineFault → List ℕ
event_refusal line_faults.Unknown = line_refusal 2
event_refusal line_faults.Words = line_refusal 3

-- an event happens where it isn't refused
abbrev pub answer_event : Option WireFault → Event → WireState → WireAnswer
answer_event None event w = record { wire = happens event w; text = reply_of event w; refusals = 0 }
answer_event (Some fault) event w = refused w (wire_refusal fault)

-- a line without an event has no reply
abbrev pub answer_read : Result (Option Event) LineFault → WireState → WireAnswer
answer_read (Ok None) w = record { wire = w; text = []; refusals = 0 }
answer_read (Ok (Some event)) w = answer_event (fault_of event w) event w
answer_read (Err fault) w = refused w (event_refusal fault)

-- what a wire answers to a line
unfoldable pub answer : WireState → Line → WireAnswer
answer w line.TooLong = refused w (line_refusal 1)
answer w (line.Words bytes) = answer_read (event_of (length w.resources) (length w.customers) bytes) w

-- the rules by which a wire answers the lines of a schedule; it counts and posts nothing
abbrev pub wire_rules : Rules WireState Line
wire_rules = record {
  given = given_lines;
  next = λ w l. (answer w l).wire;
  text = λ w l. (answer w l).text;
  refusals = λ w l. (answer w l).refusals;
  Does = λ w lines k m. m ≡ k;
  Tries = λ w l k m. m ≡ k;
}
