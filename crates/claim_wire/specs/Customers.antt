-- The customer's end of a claim. What it sends carries its own id, its target and its number.
use Rattle.std.specs.Prelude.{ℕ, ◌+◌, Bool, false, ◌&&◌, ◌==◌, Option, None, Some, unwrap_or, if◌then◌else◌}
use Rattle.claim_wire.specs.declared.customer.Phase.{Phase}
use Rattle.claim_wire.specs.declared.customer.Phase.TheVariants as phases
use Rattle.claim_wire.specs.declared.message.Message.{Message}
use Rattle.claim_wire.specs.declared.message.MessageKind.{MessageKind}
use Rattle.claim_wire.specs.declared.message.MessageKind.TheVariants as kinds

-- a customer: its id, its stored number and target, and its phase, which isn't stored
pub record CustomerState : Type 0 where
  pub id : ℕ
  pub number : ℕ
  pub target : Option ℕ
  pub phase : Phase

-- a customer that never asked
abbrev pub new_customer : ℕ → CustomerState
new_customer id = record { id = id; number = 0; target = None; phase = phases.Idle }

-- a message of this kind; a customer that has no target sends none
abbrev pub message_of : MessageKind → CustomerState → Message
message_of kind c = record { kind = kind; customer = c.id; resource = unwrap_or c.target 0; number = c.number }

-- a customer that changed, and what it sent
abbrev pub Move : Type 0
Move = CustomerState × Option Message

-- an idle customer asks for a resource: its number rises by one; in any other phase nothing happens
abbrev pub ask_by : Phase → ℕ → CustomerState → Move
ask_by phases.Idle r c = (
  record { id = c.id; number = c.number + 1; target = Some r; phase = phases.Asked },
  Some (record { kind = kinds.Ask; customer = c.id; resource = r; number = c.number + 1 }),
)
ask_by phase r c = (c, None)

-- a customer asks for a resource, by its phase
abbrev pub ask : ℕ → CustomerState → Move
ask r c = ask_by c.phase r c

-- what a customer that asked, or leaves, sends again
abbrev pub again_by : Phase → CustomerState → Option Message
again_by phases.Asked c = Some (message_of kinds.Ask c)
again_by phases.Leaving c = Some (message_of kinds.Leave c)
again_by phase c = None

-- what a customer sends again, by its phase
abbrev pub again : CustomerState → Option Message
again c = again_by c.phase c

-- the customer in this phase
abbrev pub in_phase : Phase → CustomerState → CustomerState
in_phase phase c = record { id = c.id; number = c.number; target = c.target; phase = phase }

-- a customer that asked, or holds, leaves and says so; in any other phase nothing happens
abbrev pub leave_by : Phase → CustomerState → Move
leave_by phases.Asked c = (in_phase phases.Leaving c, Some (message_of kinds.Leave c))
leave_by phases.Holding c = (in_phase phases.Leaving c, Some (message_of kinds.Leave c))
leave_by phase c = (c, None)

-- a customer leaves, by its phase
abbrev pub leave : CustomerState → Move
leave c = leave_by c.phase c

-- the target is this resource
abbrev pub is_target : Option ℕ → ℕ → Bool
is_target None r = false
is_target (Some t) r = t == r

-- a message is of the customer's target and number
abbrev pub is_for : Message → CustomerState → Bool
is_for m c = is_target c.target m.resource && c.number == m.number

-- a grant of what was asked for is held, and what is left is gone; any other message does nothing
abbrev pub take_by : Phase → MessageKind → CustomerState → CustomerState
take_by phases.Asked kinds.Grant c = in_phase phases.Holding c
take_by phases.Leaving kinds.Gone c = record { id = c.id; number = c.number; target = None; phase = phases.Idle }
take_by phase kind c = c

-- a message comes to a customer: one that isn't of its target and number does nothing
abbrev pub take : Message → CustomerState → CustomerState
take m c = if is_for m c then take_by c.phase m.kind c else c

-- the phase in which a customer starts again: it leaves its target, if there is one
abbrev pub phase_again : Option ℕ → Phase
phase_again None = phases.Idle
phase_again (Some r) = phases.Leaving

-- a customer starts again, with what it has stored
abbrev pub restart : CustomerState → CustomerState
restart c = in_phase (phase_again c.target) c
