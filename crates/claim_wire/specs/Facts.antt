-- What every run of the wire keeps.
use Rattle.std.specs.Prelude.{◌≡◌, ◌⊎◌, ℕ, ◌<◌, ◌≤◌, length, Option, None, Some, Contains}
use Rattle.claim_wire.specs.declared.customer.Phase.{Phase}
use Rattle.claim_wire.specs.declared.customer.Phase.TheVariants as phases
use Rattle.claim_wire.specs.declared.message.Message.{Message}
use Rattle.claim_wire.specs.declared.message.MessageKind.{MessageKind}
use Rattle.claim_wire.specs.declared.message.MessageKind.TheVariants as kinds
use Rattle.claim_wire.specs.Customers.{CustomerState}
use Rattle.claim_wire.specs.Resources.{ResourceState, claim_of, freed_of}
use Rattle.claim_wire.specs.Wires.{WireState, at, IsNumber}

-- a claim that was granted is held, or its customer freed it
abbrev pub IsHeldOrFreed : ResourceState → Message → Type 0
IsHeldOrFreed r m = (r.holder ≡ Some (claim_of m)) ⊎ (m.number ≤ freed_of r m.customer)

-- a customer that left a claim is past it, or no longer asks for it or holds it
abbrev pub IsAway : Phase → Type 0
IsAway phases.Idle = Unit {0}
IsAway phases.Leaving = Unit {0}
IsAway phase = ⊥

abbrev pub IsPast : ℕ → CustomerState → Type 0
IsPast k c = (k < c.number) ⊎ ((k ≡ c.number) × IsAway c.phase)

-- a customer that isn't idle has a target, and one that has a target has a number of at least 1
abbrev pub IsTargeted : Option ℕ → Phase → ℕ → Type 0
IsTargeted None phase n = phase ≡ phases.Idle
IsTargeted (Some r) phase n = 0 < n

-- a message that a customer sends
abbrev pub IsRequest : MessageKind → Type 0
IsRequest kinds.Ask = Unit {0}
IsRequest kinds.Leave = Unit {0}
IsRequest kind = ⊥

-- the message that a customer leaves a claim, and that a resource grants one
abbrev pub leave_message : ℕ → ℕ → ℕ → Message
leave_message c r k = record { kind = kinds.Leave; customer = c; resource = r; number = k }

abbrev pub grant_message : ℕ → ℕ → ℕ → Message
grant_message c r k = record { kind = kinds.Grant; customer = c; resource = r; number = k }

pub record Facts (w : WireState) : Type 0 where
  pub customers : (c : ℕ) (s : CustomerState) → at w.customers c ≡ Some s → s.id ≡ c
  pub resources : (i : ℕ) (r : ResourceState) → at w.resources i ≡ Some r → r.id ≡ i
  -- each claim that was ever granted is held or freed
  pub granted : (m : Message) → Contains w.sent m → m.kind ≡ kinds.Grant → (r : ResourceState) → at w.resources m.resource ≡ Some r
      → IsHeldOrFreed r m
  -- what is freed was left
  pub freed : (i c : ℕ) (r : ResourceState) → at w.resources i ≡ Some r → 0 < freed_of r c → Contains w.sent (leave_message c i (freed_of r c))
  -- who left a claim is past it
  pub left : (m : Message) → Contains w.sent m → m.kind ≡ kinds.Leave → (s : CustomerState) → at w.customers m.customer ≡ Some s
      → IsPast m.number s
  -- who holds a claim was granted it
  pub holding : (c : ℕ) (s : CustomerState) → at w.customers c ≡ Some s → s.phase ≡ phases.Holding
      → (r : ℕ) × (s.target ≡ Some r) × Contains w.sent (grant_message c r s.number)
  pub targeted : (c : ℕ) (s : CustomerState) → at w.customers c ≡ Some s → IsTargeted s.target s.phase s.number
  -- each claim took a message
  pub numbered : (c : ℕ) (s : CustomerState) → at w.customers c ≡ Some s → s.number ≤ length w.sent
  -- who sent a message is one of the customers, and each resource has a number for each of them
  pub named : (m : Message) → Contains w.sent m → IsRequest m.kind → IsNumber (length w.customers) m.customer
  pub sized : (i : ℕ) (r : ResourceState) → at w.resources i ≡ Some r → length r.freed ≡ length w.customers

-- a customer that holds a resource with a number is the holder of that resource with that number
abbrev pub IsSafe : WireState → Type 0
IsSafe w =
    (c : ℕ) (s : CustomerState) → at w.customers c ≡ Some s → s.phase ≡ phases.Holding
    → (i : ℕ) (r : ResourceState) → s.target ≡ Some i → at w.resources i ≡ Some r → r.holder ≡ Some (record { customer = c; number = s.number })

-- so no two customers hold one resource
abbrev pub HasOneHolder : WireState → Type 0
HasOneHolder w =
    (c d i : ℕ) (s t : CustomerState) (r : ResourceState) → at w.resources i ≡ Some r → at w.customers c ≡ Some s → at w.customers d ≡ Some t
    → s.phase ≡ phases.Holding → t.phase ≡ phases.Holding → s.target ≡ Some i → t.target ≡ Some i → c ≡ d
