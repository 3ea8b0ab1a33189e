-- Every run of the wire keeps the facts, and they make it safe.
use Rattle.std.proofs.Common.{◌≡◌, ◌⊎◌, ℕ, zero, suc, ◌<◌, ◌≤◌, List, [], ◌∷◌, ◌++◌, length, get_or, slice_get, Option, None}
use Rattle.std.proofs.Common.{Some, option_map, is_some, cond, refl, sym, ◌∙◌, ap, subst, inl, inr, arith, length-append}
use Rattle.std.specs.List.{Contains}
use Rattle.claim_wire.specs.declared.customer.Phase.TheVariants as phases
use Rattle.claim_wire.specs.declared.event.Event.{Event}
use Rattle.claim_wire.specs.declared.event.Event.TheVariants as events
use Rattle.claim_wire.specs.declared.fault.WireFault.{WireFault}
use Rattle.claim_wire.specs.declared.message.Holder.{Holder}
use Rattle.claim_wire.specs.declared.message.Message.{Message}
use Rattle.claim_wire.specs.declared.message.MessageKind.{MessageKind}
use Rattle.claim_wire.specs.declared.message.MessageKind.TheVariants as kinds
use Rattle.claim_wire.specs.Customers as customer
use Rattle.claim_wire.specs.Customers.{CustomerState, Move, new_customer}
use Rattle.claim_wire.specs.Facts.{Facts, IsAway, IsPast, IsTargeted, IsRequest, IsSafe, HasOneHolder, leave_message, grant_message}
use Rattle.claim_wire.specs.Resources as resource
use Rattle.claim_wire.specs.Resources.{ResourceState, Change, freed_in, freed_of, new_resource, silent, zeros}
use Rattle.claim_wire.specs.Wires.{WireState, at, with_customer, moved, with_resource, changed, comes, comes_by, happens, fault_of, step, run, new_wire}
use Rattle.claim_wire.specs.Wires.{new_customers, new_resources}
use Rattle.claim_wire.proofs.CustomerLemmas as moves
use Rattle.claim_wire.proofs.CustomerLemmas.{moved-facts}
use Rattle.claim_wire.proofs.ListLemmas.{contains-none}
use Rattle.claim_wire.proofs.WaitingLemmas.{zeros-length}
use Rattle.claim_wire.proofs.ResourceLemmas as changes
use Rattle.claim_wire.proofs.ResourceLemmas.{changed-facts}

-- ---- one event

moved-by : (w : WireState) (c : ℕ) (f : CustomerState → Move) → Facts w → ((s : CustomerState) → s.id ≡ c → moves.Keeps w.sent s (f s).0 (f s).1)
    → (o : Option CustomerState) → at w.customers c ≡ o → Facts (moved c (option_map f o) w)
moved-by w c f facts keeps None is = facts
moved-by w c f facts keeps (Some s) is = moved-facts w facts c s (f s).0 (f s).1 is (keeps s (facts.customers c s is))

with_customer-facts : (w : WireState) (c : ℕ) (f : CustomerState → Move) → Facts w
    → ((s : CustomerState) → s.id ≡ c → moves.Keeps w.sent s (f s).0 (f s).1) → Facts (with_customer c f w)
with_customer-facts w c f facts keeps = moved-by w c f facts keeps (at w.customers c) refl

changed-by : (w : WireState) (i : ℕ) (f : ResourceState → Change) → Facts w
    → ((r : ResourceState) → r.id ≡ i → changes.Keeps w.sent r (f r).0 (f r).1) → (o : Option ResourceState) → at w.resources i ≡ o
    → Facts (changed i (option_map f o) w)
changed-by w i f facts keeps None is = facts
changed-by w i f facts keeps (Some r) is = changed-facts w facts i r (f r).0 (f r).1 is (keeps r (facts.resources i r is))

with_resource-facts : (w : WireState) (i : ℕ) (f : ResourceState → Change) → Facts w
    → ((r : ResourceState) → r.id ≡ i → changes.Keeps w.sent r (f r).0 (f r).1) → Facts (with_resource i f w)
with_resource-facts w i f facts keeps = changed-by w i f facts keeps (at w.resources i) refl

-- a message that was sent comes
taken-ask : (sent : List Message) (r : ResourceState) (m : Message) → m.kind ≡ kinds.Ask
    → changes.Keeps sent r (resource.take m r).0 (resource.take m r).1
taken-ask sent r m kind =
    subst (λ (k : MessageKind). changes.Keeps sent r (resource.take_by k m r).0 (resource.take_by k m r).1) (sym kind) (changes.ask-keeps sent r m)

taken-leave : (sent : List Message) (r : ResourceState) (m : Message) → m.kind ≡ kinds.Leave → m.resource ≡ r.id → Contains sent m
    → changes.Keeps sent r (resource.take m r).0 (resource.take m r).1
taken-leave sent r m kind to has =
    subst (λ (k : MessageKind). changes.Keeps sent r (resource.take_by k m r).0 (resource.take_by k m r).1) (sym kind)
    (changes.leave-keeps sent r m kind to has)

comes-by : (w : WireState) (m : Message) (kind : MessageKind) → Facts w → Contains w.sent m → m.kind ≡ kind → Facts (comes_by kind m w)
comes-by w m kinds.Ask facts has kind = with_resource-facts w m.resource (resource.take m) facts (λ r to. taken-ask w.sent r m kind)
comes-by w m kinds.Leave facts has kind = with_resource-facts w m.resource (resource.take m) facts (λ r to. taken-leave w.sent r m kind (sym to) has)
comes-by w m kinds.Grant facts has kind =
    with_customer-facts w m.customer (λ s. (customer.take m s, None)) facts (λ s to. moves.take-keeps w.sent s m (sym to) has)
comes-by w m kinds.Gone facts has kind =
    with_customer-facts w m.customer (λ s. (customer.take m s, None)) facts (λ s to. moves.take-keeps w.sent s m (sym to) has)

contains-at : {A : Type 0} (xs : List A) (i : ℕ) (x : A) → slice_get xs i ≡ Some x → Contains xs x
contains-at [] i x is = absurd (cc)
contains-at (y ∷ ys) zero x is = let same : y ≡ x = cc in (0, omega arith, same)
contains-at (y ∷ ys) (suc i) x is = let there = contains-at ys i x is in (suc there.0, omega (arith, there.1), there.2)

pub at-contains : {A : Type 0} (xs : List A) (n : ℕ) (x : A) → at xs n ≡ Some x → Contains xs x
at-contains xs zero x is = absurd (cc)
at-contains xs (suc i) x is = contains-at xs i x is

pub given-facts : (w : WireState) (m : Message) → Facts w → Contains w.sent m → Facts (with_customer m.customer (λ s. (customer.take m s, None)) w)
given-facts w m facts has = with_customer-facts w m.customer (λ s. (customer.take m s, None)) facts (λ s to. moves.take-keeps w.sent s m (sym to) has)

pub requested-facts : (w : WireState) (m : Message) → Facts w → Contains w.sent m → IsRequest m.kind
    → Facts (with_resource m.resource (resource.take m) w)
requested-facts w m facts has request = by m.kind refl
  where
    by : (kind : MessageKind) → m.kind ≡ kind → Facts (with_resource m.resource (resource.take m) w)
    by kinds.Ask is = comes-by w m kinds.Ask facts has is
    by kinds.Leave is = comes-by w m kinds.Leave facts has is
    by kinds.Grant is = absurd (subst IsRequest is request)
    by kinds.Gone is = absurd (subst IsRequest is request)

comes-facts : (w : WireState) (n : ℕ) → Facts w → (o : Option Message) → at w.sent n ≡ o → Facts (comes o w)
comes-facts w n facts None is = facts
comes-facts w n facts (Some m) is = comes-by w m m.kind facts (at-contains w.sent n m is) refl

pub happens-facts : (event : Event) (w : WireState) → Facts w → Facts (happens event w)
happens-facts (events.Ask c r) w facts = with_customer-facts w c (customer.ask r) facts (λ s to. moves.ask-keeps w.sent r s s.phase refl)
happens-facts (events.Again c) w facts = with_customer-facts w c (λ s. (s, customer.again s)) facts (λ s to. moves.again-keeps w.sent s s.phase refl)
happens-facts (events.Leave c) w facts = with_customer-facts w c customer.leave facts (λ s to. moves.leave-keeps w.sent s s.phase refl)
happens-facts (events.Deliver n) w facts = comes-facts w n facts (at w.sent n) refl
happens-facts (events.RestartCustomer c) w facts =
    with_customer-facts w c (λ s. (customer.restart s, None)) facts (λ s to. moves.restart-keeps w.sent s s.target refl)
happens-facts (events.RestartResource i) w facts = with_resource-facts w i (λ r. (resource.restart r, silent)) facts (λ r to. changes.restart-keeps w.sent r)
happens-facts events.Show w facts = facts

step-by : (fault : Option WireFault) (event : Event) (w : WireState) → Facts w → Facts (cond (is_some fault) w (happens event w))
step-by None event w facts = happens-facts event w facts
step-by (Some fault) event w facts = facts

pub step-facts : (event : Event) (w : WireState) → Facts w → Facts (step event w)
step-facts event w facts = step-by (fault_of event w) event w facts

pub run-facts : (list : List Event) (w : WireState) → Facts w → Facts (run list w)
run-facts [] w facts = facts
run-facts (event ∷ list) w facts = run-facts list (step event w) (step-facts event w facts)

-- ---- the beginning

last-at : {A : Type 0} (xs : List A) (x y : A) (j : ℕ) → slice_get (xs ++ x ∷ []) j ≡ Some y
    → ((j ≡ length xs) × (y ≡ x)) ⊎ (slice_get xs j ≡ Some y)
last-at [] x y zero is = let same : x ≡ y = cc in inl (refl, sym same)
last-at [] x y (suc j) is = absurd (cc)
last-at (z ∷ zs) x y zero is = inr is
last-at (z ∷ zs) x y (suc j) is = elim (last-at zs x y j is) [ inl here ↦ inl (omega (arith, here.0), here.1) | inr other ↦ inr other ]

pub new_customers-length : (n : ℕ) → length (new_customers n) ≡ n
new_customers-length zero = refl
new_customers-length (suc n) = omega (arith, new_customers-length n, length-append (new_customers n) (new_customer (suc n) ∷ []))

pub new_resources-length : (customers n : ℕ) → length (new_resources customers n) ≡ n
new_resources-length customers zero = refl
new_resources-length customers (suc n) =
    omega (arith, new_resources-length customers n, length-append (new_resources customers n) (new_resource customers (suc n) ∷ []))

new_customers-at : (n j : ℕ) (s : CustomerState) → slice_get (new_customers n) j ≡ Some s → s ≡ new_customer (suc j)
new_customers-at zero j s is = absurd (cc)
new_customers-at (suc n) j s is =
    elim (last-at (new_customers n) (new_customer (suc n)) s j is) [
      | inl here ↦ let same : n ≡ j = omega (arith, here.0, new_customers-length n) in here.1 ∙ ap (λ (k : ℕ). new_customer (suc k)) same
      | inr other ↦ new_customers-at n j s other
    ]

new_resources-at : (customers n j : ℕ) (r : ResourceState) → slice_get (new_resources customers n) j ≡ Some r → r ≡ new_resource customers (suc j)
new_resources-at customers zero j r is = absurd (cc)
new_resources-at customers (suc n) j r is =
    elim (last-at (new_resources customers n) (new_resource customers (suc n)) r j is) [
      | inl here ↦ let same : n ≡ j =
          omega (arith, here.0, new_resources-length customers n) in here.1 ∙ ap (λ (k : ℕ). new_resource customers (suc k)) same
      | inr other ↦ new_resources-at customers n j r other
    ]

zeros-get : (n i : ℕ) → get_or (zeros n) i 0 ≡ 0
zeros-get zero i = refl
zeros-get (suc n) zero = refl
zeros-get (suc n) (suc i) = zeros-get n i

zeros-freed : (n c : ℕ) → freed_in (zeros n) c ≡ 0
zeros-freed n zero = refl
zeros-freed n (suc i) = zeros-get n i

customers-at : (n c : ℕ) (s : CustomerState) → at (new_customers n) c ≡ Some s → s ≡ new_customer c
customers-at n zero s is = absurd (cc)
customers-at n (suc j) s is = new_customers-at n j s is

resources-at : (customers n i : ℕ) (r : ResourceState) → at (new_resources customers n) i ≡ Some r → r ≡ new_resource customers i
resources-at customers n zero r is = absurd (cc)
resources-at customers n (suc j) r is = new_resources-at customers n j r is

pub new-facts : (resources customers : ℕ) → Facts (new_wire resources customers)
new-facts resources customers = record {
  customers = λ c s is. ap (λ (v : CustomerState). v.id) (customers-at customers c s is);
  resources = λ i r is. ap (λ (v : ResourceState). v.id) (resources-at customers resources i r is);
  granted = λ m has. absurd (contains-none m has);
  freed = λ i c r is some.
      let none : freed_of r c ≡ 0 = ap (λ (v : ResourceState). freed_of v c) (resources-at customers resources i r is) ∙ zeros-freed customers c in
      absurd (omega arith);
  left = λ m has. absurd (contains-none m has);
  holding = λ c s is phase. let idle : s.phase ≡ phases.Idle = ap (λ (v : CustomerState). v.phase) (customers-at customers c s is) in absurd (cc);
  targeted = λ c s is. subst (λ (v : CustomerState). IsTargeted v.target v.phase v.number) (sym (customers-at customers c s is)) refl;
  numbered = λ c s is. let none : s.number ≡ 0 = ap (λ (v : CustomerState). v.number) (customers-at customers c s is) in omega arith;
  named = λ m has. absurd (contains-none m has);
  sized =
      λ i r is. ap (λ (v : ResourceState). length v.freed) (resources-at customers resources i r is) ∙ zeros-length customers
      ∙ sym (new_customers-length customers);
}

-- ---- safety

module _ (w : WireState) (facts : Facts w) where
  -- a customer that holds is not past its own number
  not_past : (s : CustomerState) (k : ℕ) → s.phase ≡ phases.Holding → s.number ≤ k → IsPast k s → ⊥
  not_past s k phase low past =
      elim past [
        | inl less ↦ omega arith
        | inr same ↦ subst IsAway phase same.1
      ]

  pub facts-safe : IsSafe w
  facts-safe c s here phase i r target there =
      let granted = facts.holding c s here phase in
      let own : granted.0 ≡ i = cc in
      let number : 0 < s.number = subst (λ o. IsTargeted o s.phase s.number) target (facts.targeted c s here) in
      let message : Contains w.sent (grant_message c i s.number) = subst (λ (j : ℕ). Contains w.sent (grant_message c j s.number)) own granted.2 in
      elim (facts.granted (grant_message c i s.number) message refl r there) [
        | inl holds ↦ holds
        | inr low ↦
            let left = facts.freed i c r there (omega arith) in
            absurd (not_past s (freed_of r c) phase low (facts.left (leave_message c i (freed_of r c)) left refl s here))
      ]

  pub facts-one : HasOneHolder w
  facts-one c d i s t r there here other holds also target same =
      let a = facts-safe c s here holds i r target there in
      let b = facts-safe d t other also i r same there in
      ap (λ (h : Holder). h.customer) (holder-same (sym a ∙ b))
    where
      holder-same : {g h : Holder} → Some g ≡ Some h → g ≡ h
      holder-same {g} {h} e = cc
