-- The resource's end of a claim.
use Rattle.std.specs.Prelude.{ℕ, zero, suc, max, Bool, true, false, not, ◌&&◌, ◌||◌, ◌==◌, nat_le, List, [], ◌∷◌, drop, slice_index}
use Rattle.std.specs.Prelude.{slice_set, Option, None, Some, option_map, if◌then◌else◌}
use Rattle.claim_wire.specs.declared.message.Answers.{Answers}
use Rattle.claim_wire.specs.declared.message.Holder.{Holder}
use Rattle.claim_wire.specs.declared.message.Message.{Message}
use Rattle.claim_wire.specs.declared.message.MessageKind.{MessageKind}
use Rattle.claim_wire.specs.declared.message.MessageKind.TheVariants as kinds

-- a resource: its id, its stored holder, the stored numbers that each customer freed, and who waits, which isn't stored
pub record ResourceState : Type 0 where
  pub id : ℕ
  pub holder : Option Holder
  pub freed : List ℕ
  pub waiting : List Holder

-- the greatest number that a customer freed, customers counted from 1
abbrev pub freed_in : List ℕ → ℕ → ℕ
freed_in freed zero = 0
freed_in freed (suc i) = slice_index freed i

-- the greatest number that a customer freed from a resource, 0 where it freed none
abbrev pub freed_of : ResourceState → ℕ → ℕ
freed_of r c = freed_in r.freed c

-- these numbers once a customer freed one more: the greater of its two stays
abbrev pub raised : List ℕ → ℕ → ℕ → List ℕ
raised freed zero k = freed
raised freed (suc i) k = slice_set freed i (max (slice_index freed i) k)

-- the claim that a message is about
abbrev pub claim_of : Message → Holder
claim_of m = record { customer = m.customer; number = m.number }

-- an answer of this kind to a message, about the same claim
abbrev pub answer : MessageKind → Message → Message
answer kind m = record { kind = kind; customer = m.customer; resource = m.resource; number = m.number }

-- the grant of a claim
abbrev pub grant : ℕ → Holder → Message
grant id h = record { kind = kinds.Grant; customer = h.customer; resource = id; number = h.number }

-- no answer
abbrev pub silent : Answers
silent = record { first = None; second = None }

-- one answer
abbrev pub one : Message → Answers
one m = record { first = Some m; second = None }

-- a resource that changed, and what it sent
abbrev pub Change : Type 0
Change = ResourceState × Answers

-- the holder is this claim
abbrev pub is_claim : Option Holder → Holder → Bool
is_claim None h = false
is_claim (Some g) h = g.customer == h.customer && g.number == h.number

-- who waits after a claim does: a customer waits once, with its greatest number
abbrev pub put_waiting : Holder → List Holder → List Holder
put_waiting h [] = h ∷ []
put_waiting h (w ∷ ws) = if h.customer == w.customer then record { customer = w.customer; number = max w.number h.number } ∷ ws else w ∷ put_waiting h ws

-- a claim that isn't held and isn't freed: it holds the resource that nobody holds, or it waits
abbrev pub ask_by : Option Holder → Message → ResourceState → Change
ask_by None m r = (record { id = r.id; holder = Some (claim_of m); freed = r.freed; waiting = r.waiting }, one (grant r.id (claim_of m)))
ask_by (Some h) m r = (record { id = r.id; holder = r.holder; freed = r.freed; waiting = put_waiting (claim_of m) r.waiting }, silent)

-- a customer asks: a claim that was freed is gone, the one that holds is granted again, and any other holds where nobody does, or waits
abbrev pub ask : Message → ResourceState → Change
ask m r =
    if nat_le m.number (freed_of r m.customer) then (r, one (answer kinds.Gone m))
    else (if is_claim r.holder (claim_of m) then (r, one (grant r.id (claim_of m)))
    else ask_by r.holder m r)

-- a claim was freed: its customer's number is at most the number that is freed
abbrev pub is_freed : List ℕ → ℕ → Holder → Bool
is_freed freed c h = h.customer == c && nat_le h.number (freed_in freed c)

-- the resource is held by a claim of the customer that was freed
abbrev pub holds_freed : List ℕ → ℕ → Option Holder → Bool
holds_freed freed c None = false
holds_freed freed c (Some h) = is_freed freed c h

-- who waits after a customer freed a number: a customer waits once
abbrev pub without : List ℕ → ℕ → List Holder → List Holder
without freed c [] = []
without freed c (w ∷ ws) = if is_freed freed c w then ws else w ∷ without freed c ws

-- the first that waits, if any does
abbrev pub first_of : List Holder → Option Holder
first_of [] = None
first_of (w ∷ ws) = Some w

-- the first that waits once a customer freed a number
abbrev pub first_after : ℕ → ℕ → List Holder → Option Holder
first_after c k [] = None
first_after c k (w ∷ ws) = if w.customer == c && nat_le w.number k then first_of ws else Some w

-- the first that waits holds the resource, or nobody where none waits
abbrev pub next_holder : ResourceState → ResourceState
next_holder r = record { id = r.id; holder = first_of r.waiting; freed = r.freed; waiting = drop 1 r.waiting }

-- the grant to the first that waits, if any does
abbrev pub next_grant : ResourceState → Option Message
next_grant r = option_map (grant r.id) (first_of r.waiting)

-- where the claim that is held is freed, it passes on
abbrev pub leave_by : Message → ResourceState → Change
leave_by m r =
    if holds_freed r.freed m.customer r.holder then (next_holder r, record { first = Some (answer kinds.Gone m); second = next_grant r })
    else (r, one (answer kinds.Gone m))

-- a resource after a customer freed a number
abbrev pub freeing : Message → ResourceState → ResourceState
freeing m r =
    let freed = raised r.freed m.customer m.number in
    record { id = r.id; holder = r.holder; freed = freed; waiting = without freed m.customer r.waiting }

-- a customer leaves: its number is freed, it waits no longer with a number that is freed, and neither does it hold
abbrev pub leave : Message → ResourceState → Change
leave m r = leave_by m (freeing m r)

-- a message of this kind comes to a resource: only an ask and a leave do anything
abbrev pub take_by : MessageKind → Message → ResourceState → Change
take_by kinds.Ask m r = ask m r
take_by kinds.Leave m r = leave m r
take_by kind m r = (r, silent)

-- a message comes to a resource, by its kind
abbrev pub take : Message → ResourceState → Change
take m r = take_by m.kind m r

-- a resource that starts again knows no more who waits
abbrev pub restart : ResourceState → ResourceState
restart r = record { id = r.id; holder = r.holder; freed = r.freed; waiting = [] }

-- ---- room for all that wait

-- a customer waits
abbrev pub waits : ℕ → List Holder → Bool
waits c [] = false
waits c (w ∷ ws) = c == w.customer || waits c ws

-- each that waits is one of so many customers, and waits once
abbrev pub are_waiting : ℕ → List Holder → Bool
are_waiting n [] = true
are_waiting n (w ∷ ws) = (nat_le w.customer n && not (waits w.customer ws)) && are_waiting n ws

-- ---- the beginning

-- so many zeros
abbrev pub zeros : ℕ → List ℕ
zeros zero = []
zeros (suc n) = 0 ∷ zeros n

-- a resource that nobody held, with room for so many customers
abbrev pub new_resource : ℕ → ℕ → ResourceState
new_resource customers id = record { id = id; holder = None; freed = zeros customers; waiting = [] }
