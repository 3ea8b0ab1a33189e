-- The wire: resources, customers, and all messages that were ever sent. A message may be delivered any number of times,
-- in any order, or never.
use Rattle.std.specs.Prelude.{◌≡◌, ℕ, zero, suc, ◌<◌, ◌≤◌, nat_lt, List, [], ◌∷◌, ◌++◌, length, slice_get, slice_set, Option, None}
use Rattle.std.specs.Prelude.{Some, option_map, option_and_then, is_some, if◌then◌else◌}
use Rattle.claim_wire.specs.declared.customer.Phase.{Phase}
use Rattle.claim_wire.specs.declared.customer.Phase.TheVariants as phases
use Rattle.claim_wire.specs.declared.event.Event.{Event}
use Rattle.claim_wire.specs.declared.event.Event.TheVariants as events
use Rattle.claim_wire.specs.declared.message.Answers.{Answers}
use Rattle.claim_wire.specs.declared.message.Message.{Message}
use Rattle.claim_wire.specs.declared.message.MessageKind.{MessageKind}
use Rattle.claim_wire.specs.declared.message.MessageKind.TheVariants as kinds
use Rattle.claim_wire.specs.declared.fault.WireFault.{WireFault}
use Rattle.claim_wire.specs.declared.fault.WireFault.TheVariants as faults
use Rattle.claim_wire.specs.Customers as customer
use Rattle.claim_wire.specs.Customers.{CustomerState, Move, new_customer}
use Rattle.claim_wire.specs.Resources as resource
use Rattle.claim_wire.specs.Resources.{ResourceState, Change, silent, new_resource}

-- the customers and the resources, each at its id counted from 1, and all messages that were ever sent, in order
pub record WireState : Type 0 where
  pub customers : List CustomerState
  pub resources : List ResourceState
  pub sent : List Message

-- what has this number in a list, counted from 1
abbrev pub at : {A : Type 0} → List A → ℕ → Option A
at xs zero = None
at xs (suc i) = slice_get xs i

-- the list with another in the place of this number, counted from 1
abbrev pub put : {A : Type 0} → ℕ → A → List A → List A
put zero x xs = xs
put (suc i) x xs = slice_set xs i x

-- a message as a list, which is empty where there is none
abbrev pub listed : Option Message → List Message
listed None = []
listed (Some m) = m ∷ []

-- the messages of answers, in order
abbrev pub answers_of : Answers → List Message
answers_of a = listed a.first ++ listed a.second

-- a customer moved so, and what it sent joins the messages; nothing happens where there is no such customer
abbrev pub moved : ℕ → Option Move → WireState → WireState
moved c None w = w
moved c (Some move) w = record { customers = put c move.0 w.customers; resources = w.resources; sent = w.sent ++ listed move.1 }

-- the customer of an id moves by this rule
abbrev pub with_customer : ℕ → (CustomerState → Move) → WireState → WireState
with_customer c f w = moved c (option_map f (at w.customers c)) w

-- a resource changed so, and its answers join the messages; nothing happens where there is no such resource
abbrev pub changed : ℕ → Option Change → WireState → WireState
changed r None w = w
changed r (Some change) w = record { customers = w.customers; resources = put r change.0 w.resources; sent = w.sent ++ answers_of change.1 }

-- the resource of an id changes by this rule
abbrev pub with_resource : ℕ → (ResourceState → Change) → WireState → WireState
with_resource r f w = changed r (option_map f (at w.resources r)) w

-- a message of this kind comes to the end that it names
abbrev pub comes_by : MessageKind → Message → WireState → WireState
comes_by kinds.Ask m w = with_resource m.resource (resource.take m) w
comes_by kinds.Leave m w = with_resource m.resource (resource.take m) w
comes_by kinds.Grant m w = with_customer m.customer (λ c. (customer.take m c, None)) w
comes_by kinds.Gone m w = with_customer m.customer (λ c. (customer.take m c, None)) w

-- a message comes to the end that it names; nothing happens where there is none
abbrev pub comes : Option Message → WireState → WireState
comes None w = w
comes (Some m) w = comes_by m.kind m w

-- what happens next
abbrev pub happens : Event → WireState → WireState
happens (events.Ask c r) w = with_customer c (customer.ask r) w
happens (events.Again c) w = with_customer c (λ s. (s, customer.again s)) w
happens (events.Leave c) w = with_customer c customer.leave w
happens (events.Deliver n) w = comes (at w.sent n) w
happens (events.RestartCustomer c) w = with_customer c (λ s. (customer.restart s, None)) w
happens (events.RestartResource r) w = with_resource r (λ s. (resource.restart s, silent)) w
happens events.Show w = w

-- ---- refusals

-- why a customer can't ask, by its phase
abbrev pub ask_fault : Phase → Option WireFault
ask_fault phases.Idle = None
ask_fault phase = Some faults.NotIdle

-- why a customer can't send again, by its phase
abbrev pub again_fault : Phase → Option WireFault
again_fault phases.Idle = Some faults.NothingToSend
again_fault phases.Holding = Some faults.NothingToSend
again_fault phase = None

-- why a customer can't leave, by its phase
abbrev pub leave_fault : Phase → Option WireFault
leave_fault phases.Idle = Some faults.NothingToLeave
leave_fault phases.Leaving = Some faults.NothingToLeave
leave_fault phase = None

-- the phase of the customer of an id, if there is one
abbrev pub phase_of : ℕ → WireState → Option Phase
phase_of c w = option_map (λ s. s.phase) (at w.customers c)

-- why a message can't be delivered: it was never sent
abbrev pub message_fault : Option Message → Option WireFault
message_fault None = Some faults.NoMessage
message_fault (Some m) = None

-- first of all, too many messages were sent
abbrev pub limited : List Message → Option WireFault → Option WireFault
limited sent fault = if nat_lt 999998 (length sent) then Some faults.TooMany else fault

-- why an event is refused; a restart and a look at the wire never are
abbrev pub fault_of : Event → WireState → Option WireFault
fault_of (events.Ask c r) w = limited w.sent (option_and_then ask_fault (phase_of c w))
fault_of (events.Again c) w = limited w.sent (option_and_then again_fault (phase_of c w))
fault_of (events.Leave c) w = limited w.sent (option_and_then leave_fault (phase_of c w))
fault_of (events.Deliver n) w = limited w.sent (message_fault (at w.sent n))
fault_of event w = None

-- what is told of a fault: it is told as it is, and where there is none only memory was wanting
abbrev pub IsFaultOf : Option WireFault → WireFault → Type 0
IsFaultOf None told = told ≡ faults.OutOfMemory
IsFaultOf (Some fault) told = told ≡ fault

-- ---- runs

-- a step: an event that is refused changes nothing
abbrev pub step : Event → WireState → WireState
step event w = if is_some (fault_of event w) then w else happens event w

-- events one after another
abbrev pub run : List Event → WireState → WireState
run [] w = w
run (event ∷ events) w = run events (step event w)

-- a number from 1 to the most
abbrev pub IsNumber : ℕ → ℕ → Type 0
IsNumber most n = (0 < n) × (n ≤ most)

-- an event that names its ends by numbers from 1
abbrev pub IsNamed : ℕ → ℕ → Event → Type 0
IsNamed resources customers (events.Ask c r) = IsNumber customers c × IsNumber resources r
IsNamed resources customers (events.Again c) = IsNumber customers c
IsNamed resources customers (events.Leave c) = IsNumber customers c
IsNamed resources customers (events.Deliver n) = Unit {0}
IsNamed resources customers (events.RestartCustomer c) = IsNumber customers c
IsNamed resources customers (events.RestartResource r) = IsNumber resources r
IsNamed resources customers events.Show = Unit {0}

-- so many customers that never asked, numbered from 1
abbrev pub new_customers : ℕ → List CustomerState
new_customers zero = []
new_customers (suc n) = new_customers n ++ new_customer (suc n) ∷ []

-- so many resources that nobody held, numbered from 1, with room for so many customers each
abbrev pub new_resources : ℕ → ℕ → List ResourceState
new_resources customers zero = []
new_resources customers (suc n) = new_resources customers n ++ new_resource customers (suc n) ∷ []

-- a wire of so many resources and customers on which nothing happened
abbrev pub new_wire : ℕ → ℕ → WireState
new_wire resources customers = record { customers = new_customers customers; resources = new_resources customers resources; sent = [] }
