-- The lines that answer an event.
use Rattle.std.specs.Prelude.{ℕ, ◌+◌, List, [], ◌∷◌, ◌++◌, codes, decimal, length, drop, Option, None, Some, unwrap_or}
use Rattle.std.specs.List.{flat_map}
use Rattle.claim_wire.specs.declared.customer.Phase.{Phase}
use Rattle.claim_wire.specs.declared.customer.Phase.TheVariants as phases
use Rattle.claim_wire.specs.declared.event.Event.{Event}
use Rattle.claim_wire.specs.declared.event.Event.TheVariants as events
use Rattle.claim_wire.specs.declared.message.Holder.{Holder}
use Rattle.claim_wire.specs.declared.message.Message.{Message}
use Rattle.claim_wire.specs.declared.message.MessageKind.{MessageKind}
use Rattle.claim_wire.specs.declared.message.MessageKind.TheVariants as kinds
use Rattle.claim_wire.specs.Customers.{CustomerState}
use Rattle.claim_wire.specs.Resources.{ResourceState}
use Rattle.claim_wire.specs.Wires.{WireState, happens}

-- the word of a kind of messages
abbrev pub kind_word : MessageKind → List ℕ
kind_word kinds.Ask = codes "ask"
kind_word kinds.Grant = codes "grant"
kind_word kinds.Leave = codes "leave"
kind_word kinds.Gone = codes "gone"

-- ` C R K`, or two of the numbers
abbrev pub numbers_text : ℕ → ℕ → List ℕ
numbers_text a b = codes " " ++ decimal a ++ codes " " ++ decimal b

-- `sent M KIND C R K`
abbrev pub sent_line : ℕ → Message → List ℕ
sent_line n m = codes "sent " ++ decimal n ++ codes " " ++ kind_word m.kind ++ codes " " ++ decimal m.customer ++ numbers_text m.resource m.number ++ codes "\n"

-- a line for each message that is sent after n others
abbrev pub sent_lines : ℕ → List Message → List ℕ
sent_lines n [] = []
sent_lines n (m ∷ ms) = sent_line (n + 1) m ++ sent_lines (n + 1) ms

-- a line for each message that is sent after n others, or `quiet` where none is
abbrev pub sent_text : ℕ → List Message → List ℕ
sent_text n [] = codes "quiet\n"
sent_text n (m ∷ ms) = sent_lines n (m ∷ ms)

-- ` free`, or ` held C K` with the claim that holds
abbrev pub holder_text : Option Holder → List ℕ
holder_text None = codes " free"
holder_text (Some h) = codes " held" ++ numbers_text h.customer h.number

-- `resource R free` or `resource R held C K`
abbrev pub resource_line : ResourceState → List ℕ
resource_line r = codes "resource " ++ decimal r.id ++ holder_text r.holder ++ codes "\n"

-- ` idle`, or the phase with the target and the number
abbrev pub phase_text : Phase → ℕ → ℕ → List ℕ
phase_text phases.Idle r k = codes " idle"
phase_text phases.Asked r k = codes " asked" ++ numbers_text r k
phase_text phases.Holding r k = codes " holding" ++ numbers_text r k
phase_text phases.Leaving r k = codes " leaving" ++ numbers_text r k

-- `customer C idle` or `customer C PHASE R K`
abbrev pub customer_line : CustomerState → List ℕ
customer_line c = codes "customer " ++ decimal c.id ++ phase_text c.phase (unwrap_or c.target 0) c.number ++ codes "\n"

-- all resources, then all customers
abbrev pub show_text : WireState → List ℕ
show_text w = flat_map resource_line w.resources ++ flat_map customer_line w.customers

-- the messages that a later wire has sent beyond those of an earlier one
abbrev pub told : WireState → WireState → List ℕ
told w v = sent_text (length w.sent) (drop (length w.sent) v.sent)

-- a look at the wire shows it; any other event tells what it sends
abbrev pub reply_of : Event → WireState → List ℕ
reply_of events.Show w = show_text w
reply_of event w = told w (happens event w)
