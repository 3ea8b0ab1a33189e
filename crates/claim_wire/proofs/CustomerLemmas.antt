-- A customer's moves keep the facts.
use Rattle.std.proofs.Common.{◌≡◌, ◌≢◌, ◌⊎◌, ℕ, ◌+◌, ◌<◌, ◌≤◌, Bool, true, false, cond, eqb, List, ◌++◌, length, Option}
use Rattle.std.proofs.Common.{None, Some, refl, sym, ◌∙◌, ap, subst, inl, inr, arith, length-append}
use Rattle.std.proofs.lemmas.Bool.{and_parts, eqb-true}
use Rattle.std.specs.List.{Contains}
use Rattle.std.proofs.lemmas.List.Elements.{Contains-append_left, Contains-append_cases}
use Rattle.claim_wire.specs.declared.customer.Phase.{Phase}
use Rattle.claim_wire.specs.declared.customer.Phase.TheVariants as phases
use Rattle.claim_wire.specs.declared.message.Message.{Message}
use Rattle.claim_wire.specs.declared.message.MessageKind.{MessageKind}
use Rattle.claim_wire.specs.declared.message.MessageKind.TheVariants as kinds
use Rattle.claim_wire.specs.Customers.{CustomerState, message_of, ask_by, again_by, leave_by, in_phase, is_target, is_for, take, take_by, phase_again}
use Rattle.claim_wire.specs.Facts.{IsAway, IsPast, IsTargeted, Facts, grant_message}
use Rattle.claim_wire.specs.Wires.{WireState, at, put, listed}
use Rattle.claim_wire.proofs.ListLemmas.{put-cases, at-some, at-within, length-put, listed-is}

-- what a move of a customer keeps
pub record Keeps (sent : List Message) (s t : CustomerState) (out : Option Message) : Type 0 where
  pub same : t.id ≡ s.id
  pub past : (k : ℕ) → IsPast k s → IsPast k t
  pub targeted : IsTargeted s.target s.phase s.number → IsTargeted t.target t.phase t.number
  pub holding : t.phase ≡ phases.Holding
      → ((s.phase ≡ phases.Holding) × (t.target ≡ s.target) × (t.number ≡ s.number)) ⊎
      ((r : ℕ) × (t.target ≡ Some r) × Contains sent (grant_message s.id r t.number))
  pub no_grant : (m : Message) → out ≡ Some m → m.kind ≢ kinds.Grant
  pub left : (m : Message) → out ≡ Some m → m.kind ≡ kinds.Leave → (m.customer ≡ s.id) × IsPast m.number t
  pub numbered : t.number ≤ s.number + length (listed out)
  pub sender : (m : Message) → out ≡ Some m → m.customer ≡ s.id

module _ (w : WireState) (facts : Facts w) (c : ℕ) (s t : CustomerState) (out : Option Message) (here : at w.customers c ≡ Some s)
    (keeps : Keeps w.sent s t out) where
  abbrev after : WireState
  after = record { customers = put c t w.customers; resources = w.resources; sent = w.sent ++ listed out }

  known : s.id ≡ c
  known = facts.customers c s here

  pub moved-facts : Facts after
  moved-facts = record {
    customers = λ d u is.
        elim (put-cases w.customers c d t u (at-some w.customers c s here) is) [
          | inl one ↦ ap (λ (v : CustomerState). v.id) one.1 ∙ keeps.same ∙ known ∙ sym one.0
          | inr other ↦ facts.customers d u other.1
        ];
    resources = facts.resources;
    granted = λ m has kind r is.
        elim (Contains-append_cases w.sent (listed out) m has) [
          | inl old ↦ facts.granted m old kind r is
          | inr new ↦ absurd (keeps.no_grant m (listed-is out m new) kind)
        ];
    freed = λ i d r is some. Contains-append_left w.sent (listed out) _ (facts.freed i d r is some);
    left = λ m has kind u is.
        elim (Contains-append_cases w.sent (listed out) m has) [
          | inl old ↦
              elim (put-cases w.customers c m.customer t u (at-some w.customers c s here) is) [
                | inl one ↦
                    let before : at w.customers m.customer ≡ Some s = ap (λ (d : ℕ). at w.customers d) one.0 ∙ here in
                    subst (IsPast m.number) (sym one.1) (keeps.past m.number (facts.left m old kind s before))
                | inr other ↦ facts.left m old kind u other.1
              ]
          | inr new ↦
              let own = keeps.left m (listed-is out m new) kind in
              elim (put-cases w.customers c m.customer t u (at-some w.customers c s here) is) [
                | inl one ↦ subst (IsPast m.number) (sym one.1) own.1
                | inr other ↦ absurd (other.0 (own.0 ∙ known))
              ]
        ];
    holding = λ d u is phase.
        elim (put-cases w.customers c d t u (at-some w.customers c s here) is) [
          | inl one ↦
              let mine : t.phase ≡ phases.Holding = ap (λ (v : CustomerState). v.phase) (sym one.1) ∙ phase in
              let found : (r : ℕ) × (t.target ≡ Some r) × Contains after.sent (grant_message c r t.number) = held mine in
              subst (λ (v : CustomerState). (r : ℕ) × (v.target ≡ Some r) × Contains after.sent (grant_message d r v.number)) (sym one.1)
              (subst (λ (e : ℕ). (r : ℕ) × (t.target ≡ Some r) × Contains after.sent (grant_message e r t.number)) (sym one.0) found)
          | inr other ↦
              let found = facts.holding d u other.1 phase in
              (found.0, found.1, Contains-append_left w.sent (listed out) _ found.2)
        ];
    targeted = λ d u is.
        elim (put-cases w.customers c d t u (at-some w.customers c s here) is) [
          | inl one ↦ subst (λ (v : CustomerState). IsTargeted v.target v.phase v.number) (sym one.1) (keeps.targeted (facts.targeted c s here))
          | inr other ↦ facts.targeted d u other.1
        ];
    numbered = λ d u is.
        let more = length-append w.sent (listed out) in
        elim (put-cases w.customers c d t u (at-some w.customers c s here) is) [
          | inl one ↦
              let before = facts.numbered c s here in
              let moved = keeps.numbered in
              let same : u.number ≡ t.number = ap (λ (v : CustomerState). v.number) one.1 in
              omega arith
          | inr other ↦ let before = facts.numbered d u other.1 in omega arith
        ];
    named = λ m has request.
        let size = length-put c t w.customers in
        elim (Contains-append_cases w.sent (listed out) m has) [
          | inl old ↦ let number = facts.named m old request in (number.0, omega arith)
          | inr new ↦
              let own : m.customer ≡ c = keeps.sender m (listed-is out m new) ∙ known in
              let least = at-some w.customers c s here in
              let most = at-within w.customers c s here in
              (omega arith, omega arith)
        ];
    sized = λ i r is. facts.sized i r is ∙ sym (length-put c t w.customers);
  }
    where
      held : t.phase ≡ phases.Holding → (r : ℕ) × (t.target ≡ Some r) × Contains after.sent (grant_message c r t.number)
      held mine =
          elim (keeps.holding mine) [
            | inl old ↦
                let found = facts.holding c s here old.0 in (
                  found.0,
                  old.1 ∙ found.1,
                  Contains-append_left w.sent (listed out) _ (subst (λ (k : ℕ). Contains w.sent (grant_message c found.0 k))
                      (sym old.2) found.2),
                )
            | inr new ↦ (
              new.0,
              new.1,
              Contains-append_left w.sent (listed out) _ (subst (λ (e : ℕ). Contains w.sent (grant_message e new.0 t.number))
                  known new.2),
            )
          ]

-- ---- the moves

-- nothing changes, and nothing is sent that matters
pub stays : (sent : List Message) (s : CustomerState) (out : Option Message) → ((m : Message) → out ≡ Some m → m.kind ≢ kinds.Grant)
    → ((m : Message) → out ≡ Some m → m.kind ≡ kinds.Leave → (m.customer ≡ s.id) × IsPast m.number s)
    → ((m : Message) → out ≡ Some m → m.customer ≡ s.id) → Keeps sent s s out
stays sent s out no_grant left sender =
    record {
      same =
          refl;
      past =
          λ k p. p;
      targeted = λ is. is;
      holding = λ is. inl (is, refl, refl);
      no_grant = no_grant;
      left = left;
      numbered = omega arith;
      sender = sender;
    }

pub quiet : (sent : List Message) (s : CustomerState) → Keeps sent s s None
quiet sent s = stays sent s None (λ m is. absurd (cc)) (λ m is. absurd (cc)) (λ m is. absurd (cc))

pub ask-keeps : (sent : List Message) (r : ℕ) (s : CustomerState) (phase : Phase) → s.phase ≡ phase
    → Keeps sent s (ask_by phase r s).0 (ask_by phase r s).1
ask-keeps sent r s phases.Idle is = record {
  same = refl;
  past = λ k p. elim p [ inl less ↦ inl (omega arith) | inr same ↦ inl (omega (arith, same.0)) ];
  targeted = λ old. omega arith;
  holding = λ held. absurd (cc);
  no_grant = λ m sends grants. let kind : m.kind ≡ kinds.Ask = ap (λ (n : Message). n.kind) (sym (some-same sends)) in absurd (cc);
  left = λ m sends leaves. let kind : m.kind ≡ kinds.Ask = ap (λ (n : Message). n.kind) (sym (some-same sends)) in absurd (cc);
  numbered = omega arith;
  sender = λ m sends. ap (λ (n : Message). n.customer) (sym (some-same sends));
}
  where
    some-same : {a b : Message} → Some a ≡ Some b → a ≡ b
    some-same {a} {b} e = cc
ask-keeps sent r s phases.Asked is = quiet sent s
ask-keeps sent r s phases.Holding is = quiet sent s
ask-keeps sent r s phases.Leaving is = quiet sent s

-- the message that was sent is the one that is meant
some-is : {A : Type 0} (a b : A) → Some a ≡ Some b → a ≡ b
some-is a b e = cc

kind-is : (kind : MessageKind) (s : CustomerState) (m : Message) → Some (message_of kind s) ≡ Some m → m.kind ≡ kind
kind-is kind s m sends = ap (λ (n : Message). n.kind) (sym (some-is (message_of kind s) m sends))

sender-is : (kind : MessageKind) (s : CustomerState) (m : Message) → Some (message_of kind s) ≡ Some m → m.customer ≡ s.id
sender-is kind s m sends = ap (λ (n : Message). n.customer) (sym (some-is (message_of kind s) m sends))

left-is : (kind : MessageKind) (s t : CustomerState) (m : Message) → Some (message_of kind s) ≡ Some m → t.number ≡ s.number → IsAway t.phase
    → (m.customer ≡ s.id) × IsPast m.number t
left-is kind s t m sends number away =
    let same : message_of kind s ≡ m = some-is (message_of kind s) m sends in
    (ap (λ (n : Message). n.customer) (sym same), inr (ap (λ (n : Message). n.number) (sym same) ∙ sym number, away))

pub again-keeps : (sent : List Message) (s : CustomerState) (phase : Phase) → s.phase ≡ phase → Keeps sent s s (again_by phase s)
again-keeps sent s phases.Idle is = quiet sent s
again-keeps sent s phases.Asked is =
    stays sent s _ (λ m sends grants. let kind : m.kind ≡ kinds.Ask = kind-is kinds.Ask s m sends in absurd (cc))
    (λ m sends leaves. let kind : m.kind ≡ kinds.Ask = kind-is kinds.Ask s m sends in absurd (cc)) (sender-is kinds.Ask s)
again-keeps sent s phases.Holding is = quiet sent s
again-keeps sent s phases.Leaving is =
    stays sent s _ (λ m sends grants. let kind : m.kind ≡ kinds.Leave = kind-is kinds.Leave s m sends in absurd (cc))
    (λ m sends leaves. left-is kinds.Leave s s m sends refl (subst IsAway (sym is) tt)) (sender-is kinds.Leave s)

-- where the phase alone changes, to one in which the claim is no longer asked for or held
targeted-in : (target : Option ℕ) (phase other : Phase) (n : ℕ) → phase ≢ phases.Idle → IsTargeted target phase n → IsTargeted target other n
targeted-in None phase other n busy is = absurd (busy is)
targeted-in (Some r) phase other n busy is = is

leaves-to : (sent : List Message) (s : CustomerState) → s.phase ≢ phases.Idle → Keeps sent s (in_phase phases.Leaving s) (Some (message_of kinds.Leave s))
leaves-to sent s busy = record {
  same = refl;
  past = λ k p. elim p [ inl less ↦ inl less | inr same ↦ inr (same.0, tt) ];
  targeted = targeted-in s.target s.phase phases.Leaving s.number busy;
  holding = λ held. absurd (cc);
  no_grant = λ m sends grants. let kind : m.kind ≡ kinds.Leave = kind-is kinds.Leave s m sends in absurd (cc);
  left = λ m sends leaves. left-is kinds.Leave s (in_phase phases.Leaving s) m sends refl tt;
  numbered = omega arith;
  sender = sender-is kinds.Leave s;
}

pub leave-keeps : (sent : List Message) (s : CustomerState) (phase : Phase) → s.phase ≡ phase → Keeps sent s (leave_by phase s).0 (leave_by phase s).1
leave-keeps sent s phases.Idle is = quiet sent s
leave-keeps sent s phases.Asked is = leaves-to sent s (λ idle. absurd (cc))
leave-keeps sent s phases.Holding is = leaves-to sent s (λ idle. absurd (cc))
leave-keeps sent s phases.Leaving is = quiet sent s

-- a restart
pub restart-keeps : (sent : List Message) (s : CustomerState) (target : Option ℕ) → s.target ≡ target
    → Keeps sent s (in_phase (phase_again target) s) None
restart-keeps sent s None is = record {
  same = refl;
  past = λ k p. elim p [ inl less ↦ inl less | inr same ↦ inr (same.0, tt) ];
  targeted = λ old. subst (λ o. IsTargeted o phases.Idle s.number) (sym is) refl;
  holding = λ held. absurd (cc);
  no_grant = λ m sends. absurd (cc);
  left = λ m sends. absurd (cc);
  numbered = omega arith;
  sender = λ m sends. absurd (cc);
}
restart-keeps sent s (Some r) is = record {
  same = refl;
  past = λ k p. elim p [ inl less ↦ inl less | inr same ↦ inr (same.0, tt) ];
  targeted = λ old. let n : 0 < s.number = subst (λ o. IsTargeted o s.phase s.number) is old in subst (λ o. IsTargeted o phases.Leaving s.number) (sym is) n;
  holding = λ held. absurd (cc);
  no_grant = λ m sends. absurd (cc);
  left = λ m sends. absurd (cc);
  numbered = omega arith;
  sender = λ m sends. absurd (cc);
}

-- ---- messages that come

target-is : (o : Option ℕ) (r : ℕ) → is_target o r ≡ true → o ≡ Some r
target-is None r is = absurd (cc)
target-is (Some t) r is = ap Some (eqb-true t r is)

-- the phase alone changes to Holding, by a grant that was sent
grants-to : (sent : List Message) (s : CustomerState) (m : Message) → s.phase ≡ phases.Asked → m.kind ≡ kinds.Grant → m.customer ≡ s.id
    → Contains sent m → s.target ≡ Some m.resource → s.number ≡ m.number → Keeps sent s (in_phase phases.Holding s) None
grants-to sent s m asked kind to has target number = record {
  same = refl;
  past = λ k p. elim p [ inl less ↦ inl less | inr same ↦ absurd (subst IsAway asked same.1) ];
  targeted = targeted-in s.target s.phase phases.Holding s.number (λ idle. absurd (cc));
  holding = λ held. inr (m.resource, target, subst (Contains sent) message has);
  no_grant = λ n sends. absurd (cc);
  left = λ n sends. absurd (cc);
  numbered = omega arith;
  sender = λ n sends. absurd (cc);
}
  where
    message : m ≡ grant_message s.id m.resource s.number
    message =
        ap (λ (k : MessageKind). record { kind = k; customer = m.customer; resource = m.resource; number = m.number }) kind
        ∙ ap (λ (c : ℕ). grant_message c m.resource m.number) to ∙ ap (λ (k : ℕ). grant_message s.id m.resource k) (sym number)

gone-to : (sent : List Message) (s : CustomerState) → s.phase ≡ phases.Leaving
    → Keeps sent s (record { id = s.id; number = s.number; target = None; phase = phases.Idle }) None
gone-to sent s leaving = record {
  same = refl;
  past = λ k p. elim p [ inl less ↦ inl less | inr same ↦ inr (same.0, tt) ];
  targeted = λ old. refl;
  holding = λ held. absurd (cc);
  no_grant = λ n sends. absurd (cc);
  left = λ n sends. absurd (cc);
  numbered = omega arith;
  sender = λ n sends. absurd (cc);
}

take-by : (sent : List Message) (s : CustomerState) (m : Message) (phase : Phase) (kind : MessageKind) → s.phase ≡ phase → m.kind ≡ kind
    → m.customer ≡ s.id → Contains sent m → s.target ≡ Some m.resource → s.number ≡ m.number → Keeps sent s (take_by phase kind s) None
take-by sent s m phases.Asked kinds.Grant is kind to has target number = grants-to sent s m is kind to has target number
take-by sent s m phases.Leaving kinds.Gone is kind to has target number = gone-to sent s is
take-by sent s m phases.Asked kinds.Ask is kind to has target number = quiet sent s
take-by sent s m phases.Asked kinds.Leave is kind to has target number = quiet sent s
take-by sent s m phases.Asked kinds.Gone is kind to has target number = quiet sent s
take-by sent s m phases.Leaving kinds.Ask is kind to has target number = quiet sent s
take-by sent s m phases.Leaving kinds.Grant is kind to has target number = quiet sent s
take-by sent s m phases.Leaving kinds.Leave is kind to has target number = quiet sent s
take-by sent s m phases.Idle kind is k to has target number = quiet sent s
take-by sent s m phases.Holding kind is k to has target number = quiet sent s

take-if : (sent : List Message) (s : CustomerState) (m : Message) (mine : Bool) → is_for m s ≡ mine → m.customer ≡ s.id → Contains sent m
    → Keeps sent s (cond mine (take_by s.phase m.kind s) s) None
take-if sent s m true is to has =
    let both = and_parts (is_target s.target m.resource) (eqb s.number m.number) is in
    take-by sent s m s.phase m.kind refl refl to has (target-is s.target m.resource both.0) (eqb-true s.number m.number both.1)
take-if sent s m false is to has = quiet sent s

pub take-keeps : (sent : List Message) (s : CustomerState) (m : Message) → m.customer ≡ s.id → Contains sent m → Keeps sent s (take m s) None
take-keeps sent s m to has = take-if sent s m (is_for m s) refl to has
