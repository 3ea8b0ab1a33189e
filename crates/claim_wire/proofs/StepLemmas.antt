-- What an end does, as a step of the wire.
use Rattle.std.proofs.Common.{◌≡◌, ℕ, zero, suc, ◌-◌, ◌<◌, ◌≤◌, List, [], ◌++◌, length, drop, set, slice_get, get_or, cond, true}
use Rattle.std.proofs.Common.{false, IsTrue, is_some, Option, None, Some, option_map, Result, IfOk, OnOk, refl, sym, ◌∙◌, ap, subst, arith}
use Rattle.std.specs.List.{Contains}
use Rattle.std.proofs.Math.Seq.{drop-append_seam, drop-length}
use Rattle.std.proofs.lemmas.List.{append-nil}
use Rattle.std.proofs.lemmas.Option.{slice_get_read}
use Rattle.claim_wire.specs.declared.event.Event.{Event}
use Rattle.claim_wire.specs.declared.event.Event.TheVariants as events
use Rattle.claim_wire.specs.declared.message.Answers.{Answers}
use Rattle.claim_wire.specs.declared.message.Message.{Message}
use Rattle.claim_wire.specs.declared.message.MessageKind.{MessageKind}
use Rattle.claim_wire.specs.declared.message.MessageKind.TheVariants as kinds
use Rattle.claim_wire.specs.Customers.{CustomerState, Move}
use Rattle.claim_wire.specs.Facts.{Facts, IsRequest}
use Rattle.claim_wire.specs.Replies.{told, sent_text}
use Rattle.claim_wire.specs.Resources.{ResourceState, Change, silent, take}
use Rattle.claim_wire.specs.Wires.{WireState, at, put, listed, answers_of, with_customer, moved, with_resource, changed, comes, comes_by, happens, fault_of}
use Rattle.claim_wire.specs.Wires.{step, IsNumber}
use Rattle.claim_wire.proofs.ListLemmas.{at-some, at-within, length-put}

-- the end with a number stands at the place before it
pub at-place : {A : Type 0} (xs : List A) (c : ℕ) (x : A) → 0 < c → slice_get xs (c - 1) ≡ Some x → at xs c ≡ Some x
at-place xs zero x some is = absurd (omega arith)
at-place xs (suc i) x some is = let same : suc i - 1 ≡ i = omega arith in ap (slice_get xs) (sym same) ∙ is

pub put-place : {A : Type 0} (xs : List A) (c : ℕ) (x : A) → 0 < c → put c x xs ≡ set xs (c - 1) x
put-place xs zero x some = absurd (omega arith)
put-place xs (suc i) x some = let same : suc i - 1 ≡ i = omega arith in ap (λ (j : ℕ). set xs j x) (sym same)

-- no end has a number that none of them has
absent : {A : Type 0} (xs : List A) (n : ℕ) → (IsNumber (length xs) n → ⊥) → (o : Option A) → at xs n ≡ o → o ≡ None
absent xs n not None is = refl
absent xs n not (Some x) is = absurd (not (at-some xs n x is, at-within xs n x is))

pub at-none : {A : Type 0} (xs : List A) (n : ℕ) → (IsNumber (length xs) n → ⊥) → at xs n ≡ None
at-none xs n not = absent xs n not (at xs n) refl

pub only-answers : (out : Option Message) → answers_of (record { first = out; second = None }) ≡ listed out
only-answers None = refl
only-answers (Some m) = refl

-- a customer that is put in its place, with what it sent
pub put-at : (w : WireState) (c : ℕ) (s : CustomerState) (out : Option Message) → 0 < c
    → record { customers = set w.customers (c - 1) s; resources = w.resources; sent = w.sent ++ answers_of (record { first = out; second = None }) }
    ≡ moved c (Some (s, out)) w
put-at w c s out some =
    ap (λ (xs : List CustomerState). record { customers = xs; resources = w.resources; sent = w.sent ++ answers_of (record { first = out; second = None }) })
    (sym (put-place w.customers c s some))
    ∙ ap (λ (xs : List Message). record { customers = put c s w.customers; resources = w.resources; sent = w.sent ++ xs }) (only-answers out)

-- a customer that moved, with what it sent
pub moved-is : (w : WireState) (c : ℕ) (f : CustomerState → Move) (s t : CustomerState) (out : Option Message) → at w.customers c ≡ Some s
    → t ≡ (f s).0 → out ≡ (f s).1 → moved c (Some (t, out)) w ≡ with_customer c f w
moved-is w c f s t out here new sends =
    ap (λ (u : CustomerState). moved c (Some (u, out)) w) new
    ∙ ap (λ (o : Option Message). moved c (Some ((f s).0, o)) w) sends
    ∙ ap (λ (o : Option CustomerState). moved c (option_map f o) w) (sym here)

pub no-customer : (w : WireState) (c : ℕ) (f : CustomerState → Move) → at w.customers c ≡ None → with_customer c f w ≡ w
no-customer w c f none = ap (λ (o : Option CustomerState). moved c (option_map f o) w) none

pub no-resource : (w : WireState) (i : ℕ) (f : ResourceState → Change) → at w.resources i ≡ None → with_resource i f w ≡ w
no-resource w i f none = ap (λ (o : Option ResourceState). changed i (option_map f o) w) none

-- a resource that changed, with what it answered
pub changed-at : (w : WireState) (i : ℕ) (f : ResourceState → Change) (r : ResourceState) → 0 < i → slice_get w.resources (i - 1) ≡ Some r
    → record { customers = w.customers; resources = set w.resources (i - 1) (f r).0; sent = w.sent ++ answers_of (f r).1 } ≡ with_resource i f w
changed-at w i f r some here =
    ap (λ (xs : List ResourceState). record { customers = w.customers; resources = xs; sent = w.sent ++ answers_of (f r).1 })
    (sym (put-place w.resources i (f r).0 some))
    ∙ ap (λ (o : Option ResourceState). changed i (option_map f o) w) (sym (at-place w.resources i r some here))

-- what is told of messages that were added
pub told-more : (w v : WireState) (ms : List Message) → v.sent ≡ w.sent ++ ms → told w v ≡ sent_text (length w.sent) ms
told-more w v ms is =
    ap (λ (xs : List Message). sent_text (length w.sent) (drop (length w.sent) xs)) is ∙ ap (sent_text (length w.sent)) (drop-append_seam w.sent ms)

pub told-nothing : (w : WireState) → told w w ≡ sent_text 0 []
told-nothing w = ap (sent_text (length w.sent)) (drop-length w.sent)

-- a resource that changed and answered nothing
pub changed-quietly : (w : WireState) (i : ℕ) (f : ResourceState → ResourceState) (r t : ResourceState) → 0 < i
    → slice_get w.resources (i - 1) ≡ Some r → t ≡ f r
    → record { customers = w.customers; resources = set w.resources (i - 1) t; sent = w.sent } ≡ with_resource i (λ s. (f s, silent)) w
changed-quietly w i f r t some here new =
    ap (λ (u : ResourceState). record { customers = w.customers; resources = set w.resources (i - 1) u; sent = w.sent }) new
    ∙ ap (λ (ms : List Message). record { customers = w.customers; resources = set w.resources (i - 1) (f r); sent = ms }) (sym (append-nil w.sent))
    ∙ changed-at w i (λ s. (f s, silent)) r some here

-- what is read at a place
pub read-at : {A : Type 0} (xs : List A) (i : ℕ) (x : A) → i < length xs → x ≡ get_or xs i x → slice_get xs i ≡ Some x
read-at xs i x less is = slice_get_read xs (length xs) i x refl less is

pub is_true : IsTrue true
is_true = refl

pub untrue : IsTrue false → ⊥
untrue is = absurd (cc)

-- ---- clauses on a result, at equal values

pub made-as : {T E : Type 0} (r : Result T E) (x : WireState) {v u : WireState} → v ≡ u → OnOk r (x ≡ v) → OnOk r (x ≡ u)
made-as r x same is = subst (λ y. OnOk r (x ≡ y)) same is

pub text-as : {E : Type 0} (r : Result (List ℕ) E) {a b : List ℕ} → a ≡ b → IfOk r (λ t. t ≡ a) → IfOk r (λ t. t ≡ b)
text-as r same is = subst (λ y. IfOk r (λ t. t ≡ y)) same is

-- ---- the ends stay as many

length-moved : (c : ℕ) (o : Option Move) (w : WireState)
    → (length (moved c o w).customers ≡ length w.customers) × (length (moved c o w).resources ≡ length w.resources)
length-moved c None w = (refl, refl)
length-moved c (Some move) w = (length-put c move.0 w.customers, refl)

length-changed : (i : ℕ) (o : Option Change) (w : WireState)
    → (length (changed i o w).customers ≡ length w.customers) × (length (changed i o w).resources ≡ length w.resources)
length-changed i None w = (refl, refl)
length-changed i (Some change) w = (refl, length-put i change.0 w.resources)

length-brought : (kind : MessageKind) (m : Message) (w : WireState)
    → (length (comes_by kind m w).customers ≡ length w.customers) × (length (comes_by kind m w).resources ≡ length w.resources)
length-brought kinds.Ask m w = length-changed m.resource _ w
length-brought kinds.Leave m w = length-changed m.resource _ w
length-brought kinds.Grant m w = length-moved m.customer _ w
length-brought kinds.Gone m w = length-moved m.customer _ w

length-comes : (o : Option Message) (w : WireState)
    → (length (comes o w).customers ≡ length w.customers) × (length (comes o w).resources ≡ length w.resources)
length-comes None w = (refl, refl)
length-comes (Some m) w = length-brought m.kind m w

pub length-happens : (event : Event) (w : WireState)
    → (length (happens event w).customers ≡ length w.customers) × (length (happens event w).resources ≡ length w.resources)
length-happens (events.Ask c r) w = length-moved c _ w
length-happens (events.Again c) w = length-moved c _ w
length-happens (events.Leave c) w = length-moved c _ w
length-happens (events.Deliver n) w = length-comes (at w.sent n) w
length-happens (events.RestartCustomer c) w = length-moved c _ w
length-happens (events.RestartResource i) w = length-changed i _ w
length-happens events.Show w = (refl, refl)

-- an event that isn't refused happens
pub step-happens : (event : Event) (w : WireState) → fault_of event w ≡ None → happens event w ≡ step event w
step-happens event w none = ap (λ o. cond (is_some o) w (happens event w)) (sym none)

-- ---- a message that comes to a resource

pub answered : (v w : WireState) (m : Message) (r : ResourceState) → v ≡ w → Facts v → Contains w.sent m → IsRequest m.kind → 0 < m.resource
    → slice_get v.resources (m.resource - 1) ≡ Some r → (0 < m.customer) × (m.customer ≤ length r.freed)
answered v w m r same facts has request some here =
    let number = facts.named m (subst (λ (u : WireState). Contains u.sent m) (sym same) has) request in
    let size = facts.sized m.resource r (at-place v.resources m.resource r some here) in
    (number.0, omega arith)

some-is : {A : Type 0} (a b : A) → Some a ≡ Some b → a ≡ b
some-is a b e = cc

pub brought : (v w : WireState) (m : Message) (r q t : ResourceState) (a : Answers) (sent : List Message) → v ≡ w → 0 < m.resource
    → slice_get v.resources (m.resource - 1) ≡ Some r → slice_get v.resources (m.resource - 1) ≡ Some q → a ≡ (take m r).1 → t ≡ (take m q).0
    → sent ≡ v.sent ++ answers_of a
    → record { customers = v.customers; resources = set v.resources (m.resource - 1) t; sent = sent } ≡ with_resource m.resource (take m) w
brought v w m r q t a sent same some here there answers change sends =
    let one : q ≡ r = some-is q r (sym there ∙ here) in
    ap (λ (u : ResourceState). record { customers = v.customers; resources = set v.resources (m.resource - 1) u; sent = sent })
    (change ∙ ap (λ (u : ResourceState). (take m u).0) one)
    ∙ ap (λ (ms : List Message). record { customers = v.customers; resources = set v.resources (m.resource - 1) (take m r).0; sent = ms })
    (sends ∙ ap (λ (b : Answers). v.sent ++ answers_of b) answers)
    ∙ changed-at v m.resource (take m) r some here
    ∙ ap (λ (u : WireState). with_resource m.resource (take m) u) same
