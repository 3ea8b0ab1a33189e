-- A resource's changes keep the facts.
use Rattle.std.proofs.Common.{◌≡◌, ◌⊎◌, ℕ, ◌<◌, ◌≤◌, Bool, true, false, cond, eqb, leb, List, [], ◌∷◌, ◌++◌, length, drop}
use Rattle.std.proofs.Common.{Option, None, Some, option_map, refl, sym, ◌∙◌, ap, subst, inl, inr, arith, length-append}
use Rattle.std.proofs.lemmas.Bool.{and_parts, eqb-true, leb-true}
use Rattle.std.specs.List.{Contains}
use Rattle.std.proofs.lemmas.List.Elements.{Contains-append_left, Contains-append_cases}
use Rattle.claim_wire.specs.declared.message.Answers.{Answers}
use Rattle.claim_wire.specs.declared.message.Holder.{Holder}
use Rattle.claim_wire.specs.declared.message.Message.{Message}
use Rattle.claim_wire.specs.declared.message.MessageKind.{MessageKind}
use Rattle.claim_wire.specs.declared.message.MessageKind.TheVariants as kinds
use Rattle.claim_wire.specs.Facts.{Facts, IsHeldOrFreed, IsRequest, leave_message}
use Rattle.claim_wire.specs.Resources.{ResourceState, Change, freed_in, freed_of, raised, claim_of, answer, grant, silent, one, is_claim, ask, ask_by, is_freed}
use Rattle.claim_wire.specs.Resources.{holds_freed, first_of, next_holder, next_grant, freeing, leave, take, take_by, restart}
use Rattle.claim_wire.specs.Wires.{WireState, at, put, answers_of}
use Rattle.claim_wire.proofs.ListLemmas.{put-cases, at-some, answers-cases, raised-cases, raised-most, length-raised}

-- what a message of an answer must be
abbrev pub IsFair : ResourceState → ResourceState → Message → Type 0
IsFair r t m = (IsRequest m.kind → ⊥) × (m.kind ≡ kinds.Grant → (m.resource ≡ r.id) × IsHeldOrFreed t m)

pub record Keeps (sent : List Message) (r t : ResourceState) (a : Answers) : Type 0 where
  pub same : t.id ≡ r.id
  pub granted : (m : Message) → IsHeldOrFreed r m → IsHeldOrFreed t m
  pub freed : (c : ℕ) → (freed_of t c ≡ freed_of r c) ⊎ Contains sent (leave_message c r.id (freed_of t c))
  pub sized : length t.freed ≡ length r.freed
  pub fair : (m : Message) → (a.first ≡ Some m) ⊎ (a.second ≡ Some m) → IsFair r t m

module _ (w : WireState) (facts : Facts w) (i : ℕ) (r t : ResourceState) (a : Answers) (here : at w.resources i ≡ Some r) (keeps : Keeps w.sent r t a) where
  abbrev after : WireState
  after = record { customers = w.customers; resources = put i t w.resources; sent = w.sent ++ answers_of a }

  known : r.id ≡ i
  known = facts.resources i r here

  pub changed-facts : Facts after
  changed-facts = record {
    customers = facts.customers;
    resources = λ j u is.
        elim (put-cases w.resources i j t u (at-some w.resources i r here) is) [
          | inl own ↦ ap (λ (v : ResourceState). v.id) own.1 ∙ keeps.same ∙ known ∙ sym own.0
          | inr other ↦ facts.resources j u other.1
        ];
    granted = λ m has kind u is.
        elim (Contains-append_cases w.sent (answers_of a) m has) [
          | inl old ↦
              elim (put-cases w.resources i m.resource t u (at-some w.resources i r here) is) [
                | inl own ↦
                    let before : at w.resources m.resource ≡ Some r = ap (λ (j : ℕ). at w.resources j) own.0 ∙ here in
                    subst (λ (v : ResourceState). IsHeldOrFreed v m) (sym own.1) (keeps.granted m (facts.granted m old kind r before))
                | inr other ↦ facts.granted m old kind u other.1
              ]
          | inr new ↦
              let fair = (keeps.fair m (answers-cases a m new)).1 kind in
              elim (put-cases w.resources i m.resource t u (at-some w.resources i r here) is) [
                | inl own ↦ subst (λ (v : ResourceState). IsHeldOrFreed v m) (sym own.1) fair.1
                | inr other ↦ absurd (other.0 (fair.0 ∙ known))
              ]
        ];
    freed = λ j c u is some.
        elim (put-cases w.resources i j t u (at-some w.resources i r here) is) [
          | inl own ↦
              let found : Contains after.sent (leave_message c i (freed_of t c)) = left c (subst (λ (v : ResourceState). 0 < freed_of v c) own.1 some) in
              subst (λ (v : ResourceState). Contains after.sent (leave_message c j (freed_of v c))) (sym own.1)
              (subst (λ (k : ℕ). Contains after.sent (leave_message c k (freed_of t c))) (sym own.0) found)
          | inr other ↦ Contains-append_left w.sent (answers_of a) _ (facts.freed j c u other.1 some)
        ];
    left = λ m has kind s is.
        elim (Contains-append_cases w.sent (answers_of a) m has) [
          | inl old ↦ facts.left m old kind s is
          | inr new ↦ absurd ((keeps.fair m (answers-cases a m new)).0 (subst IsRequest (sym kind) tt))
        ];
    holding = λ c s is phase. let found = facts.holding c s is phase in (found.0, found.1, Contains-append_left w.sent (answers_of a) _ found.2);
    targeted = facts.targeted;
    numbered = λ c s is. let before = facts.numbered c s is in let more = length-append w.sent (answers_of a) in omega arith;
    named = λ m has request.
        elim (Contains-append_cases w.sent (answers_of a) m has) [
          | inl old ↦ facts.named m old request
          | inr new ↦ absurd ((keeps.fair m (answers-cases a m new)).0 request)
        ];
    sized = λ j u is.
        elim (put-cases w.resources i j t u (at-some w.resources i r here) is) [
          | inl own ↦ ap (λ (v : ResourceState). length v.freed) own.1 ∙ keeps.sized ∙ facts.sized i r here
          | inr other ↦ facts.sized j u other.1
        ];
  }
    where
      left : (c : ℕ) → 0 < freed_of t c → Contains after.sent (leave_message c i (freed_of t c))
      left c some =
          elim (keeps.freed c) [
            | inl same ↦
                Contains-append_left w.sent (answers_of a) _
                (subst (λ (k : ℕ). Contains w.sent (leave_message c i k)) (sym same) (facts.freed i c r here (subst (λ (k : ℕ). 0 < k) same some)))
            | inr new ↦ Contains-append_left w.sent (answers_of a) _ (subst (λ (j : ℕ). Contains w.sent (leave_message c j (freed_of t c))) known new)
          ]

-- ---- answers

some-is : {A : Type 0} (a b : A) → Some a ≡ Some b → a ≡ b
some-is a b e = cc

none-fair : (r t : ResourceState) (m : Message) → ((silent.first ≡ Some m) ⊎ (silent.second ≡ Some m)) → IsFair r t m
none-fair r t m sends = elim sends [ inl e ↦ absurd (cc) | inr e ↦ absurd (cc) ]

gone-fair : (r t : ResourceState) (m n : Message) → answer kinds.Gone m ≡ n → IsFair r t n
gone-fair r t m n same =
    let kind : n.kind ≡ kinds.Gone = ap (λ (x : Message). x.kind) (sym same) in (λ request. subst IsRequest kind request, λ grants. absurd (cc))

grant-fair : (r t : ResourceState) (h : Holder) (n : Message) → t.holder ≡ Some h → grant r.id h ≡ n → IsFair r t n
grant-fair r t h n holds same =
    let kind : n.kind ≡ kinds.Grant = ap (λ (x : Message). x.kind) (sym same) in (
      λ request. subst IsRequest kind request,
      λ grants. (
        ap (λ (x : Message). x.resource) (sym same),
        inl (holds ∙ ap (λ (x : Message). Some (claim_of x)) same),
      ),
    )

one-fair : (r t : ResourceState) (m n : Message) → ((x : Message) → m ≡ x → IsFair r t x)
    → (((one m).first ≡ Some n) ⊎ ((one m).second ≡ Some n)) → IsFair r t n
one-fair r t m n fair sends = elim sends [ inl e ↦ fair n (some-is m n e) | inr e ↦ absurd (cc) ]

-- ---- asks

claim-is : (o : Option Holder) (h : Holder) → is_claim o h ≡ true → o ≡ Some h
claim-is None h is = absurd (cc)
claim-is (Some g) h is =
    let both = and_parts (eqb g.customer h.customer) (eqb g.number h.number) is in
    let c : g.customer ≡ h.customer = eqb-true g.customer h.customer both.0 in
    let n : g.number ≡ h.number = eqb-true g.number h.number both.1 in
    ap (λ (x : ℕ). Some (record { customer = x; number = g.number })) c ∙ ap (λ (x : ℕ). Some (record { customer = h.customer; number = x })) n

-- the same resource
same-keeps : (sent : List Message) (r : ResourceState) (a : Answers) → ((m : Message) → (a.first ≡ Some m) ⊎ (a.second ≡ Some m) → IsFair r r m)
    → Keeps sent r r a
same-keeps sent r a fair = record { same = refl; granted = λ m is. is; freed = λ c. inl refl; sized = refl; fair = fair }

asked-by : (sent : List Message) (r : ResourceState) (m : Message) (holder : Option Holder) → r.holder ≡ holder
    → Keeps sent r (ask_by holder m r).0 (ask_by holder m r).1
asked-by sent r m None is = record {
  same = refl;
  granted = λ n held. elim held [ inl holds ↦ absurd (cc) | inr freed ↦ inr freed ];
  freed = λ c. inl refl;
  sized = refl;
  fair = λ n sends. one-fair r (ask_by None m r).0 (grant r.id (claim_of m)) n (λ x same. grant-fair r (ask_by None m r).0 (claim_of m) x refl same) sends;
}
asked-by sent r m (Some h) is =
    record { same = refl; granted = λ n held. held; freed = λ c. inl refl; sized = refl; fair = λ n sends. none-fair r (ask_by (Some h) m r).0 n sends }

claim-by : (sent : List Message) (r : ResourceState) (m : Message) (mine : Bool) → is_claim r.holder (claim_of m) ≡ mine
    → Keeps sent r (cond mine (r, one (grant r.id (claim_of m))) (ask_by r.holder m r)).0
    (cond mine (r, one (grant r.id (claim_of m))) (ask_by r.holder m r)).1
claim-by sent r m true is =
    same-keeps sent r (one (grant r.id (claim_of m))) (λ n sends. one-fair r r (grant r.id (claim_of m)) n
    (λ x same. grant-fair r r (claim_of m) x (claim-is r.holder (claim_of m) is) same) sends)
claim-by sent r m false is = asked-by sent r m r.holder refl

late-by : (sent : List Message) (r : ResourceState) (m : Message) (late : Bool) → leb m.number (freed_of r m.customer) ≡ late
    → let rest : Change =
    cond (is_claim r.holder (claim_of m)) (r, one (grant r.id (claim_of m))) (ask_by r.holder m r) in Keeps sent r
    (cond late (r, one (answer kinds.Gone m)) rest).0 (cond late (r, one (answer kinds.Gone m)) rest).1
late-by sent r m true is =
    same-keeps sent r (one (answer kinds.Gone m)) (λ n sends. one-fair r r (answer kinds.Gone m) n (λ x same. gone-fair r r m x same) sends)
late-by sent r m false is = claim-by sent r m (is_claim r.holder (claim_of m)) refl

pub ask-keeps : (sent : List Message) (r : ResourceState) (m : Message) → Keeps sent r (ask m r).0 (ask m r).1
ask-keeps sent r m = late-by sent r m (leb m.number (freed_of r m.customer)) refl

-- ---- leaves

module _ (sent : List Message) (r : ResourceState) (m : Message) (kind : m.kind ≡ kinds.Leave) (to : m.resource ≡ r.id) (has : Contains sent m) where
  abbrev now_freed : List ℕ
  now_freed = raised r.freed m.customer m.number

  -- what the message freed was left
  freed-is : (c : ℕ) → (freed_in now_freed c ≡ freed_of r c) ⊎ Contains sent (leave_message c r.id (freed_in now_freed c))
  freed-is c =
      elim (raised-cases r.freed m.customer c m.number) [
        | inl same ↦ inl same
        | inr here ↦ inr (subst (Contains sent) (message c here.0 here.1) has)
      ]
    where
      message : (d : ℕ) → d ≡ m.customer → freed_in now_freed d ≡ m.number → m ≡ leave_message d r.id (freed_in now_freed d)
      message d one is =
          ap (λ (k : MessageKind). record { kind = k; customer = m.customer; resource = m.resource; number = m.number }) kind
          ∙ ap (λ (x : ℕ). leave_message x m.resource m.number) (sym one) ∙ ap (λ (x : ℕ). leave_message d x m.number) to
          ∙ ap (λ (x : ℕ). leave_message d r.id x) (sym is)

  -- where the holder's claim is freed, the granted claims that it held are freed
  held-freed : (h : Holder) (n : Message) → is_freed now_freed m.customer h ≡ true → h ≡ claim_of n → n.number ≤ freed_in now_freed n.customer
  held-freed h n is same =
      let both = and_parts (eqb h.customer m.customer) (leb h.number (freed_in now_freed m.customer)) is in
      let c : h.customer ≡ m.customer = eqb-true h.customer m.customer both.0 in
      let low : h.number ≤ freed_in now_freed m.customer = leb-true h.number (freed_in now_freed m.customer) both.1 in
      let own : n.customer ≡ m.customer = ap (λ (x : Holder). x.customer) (sym same) ∙ c in
      let number : n.number ≡ h.number = ap (λ (x : Holder). x.number) (sym same) in
      let there : freed_in now_freed n.customer ≡ freed_in now_freed m.customer = ap (freed_in now_freed) own in
      omega arith

  freed-more : (t : ResourceState) (n : Message) → t.freed ≡ now_freed → n.number ≤ freed_of r n.customer → IsHeldOrFreed t n
  freed-more t n is low =
      let most = raised-most r.freed m.customer n.customer m.number in
      let there : freed_of t n.customer ≡ freed_in now_freed n.customer = ap (λ (f : List ℕ). freed_in f n.customer) is in
      inr (omega arith)

  granted-next : (t : ResourceState) (n : Message) (holder : Option Holder) → r.holder ≡ holder → holds_freed now_freed m.customer holder ≡ true
      → t.freed ≡ now_freed → IsHeldOrFreed r n → IsHeldOrFreed t n
  granted-next t n None at_r is freed held = absurd (cc)
  granted-next t n (Some h) at_r is freed held =
      elim held [
        | inl holds ↦
            let same : h ≡ claim_of n = some-is h (claim_of n) (sym at_r ∙ holds) in
            let there : freed_of t n.customer ≡ freed_in now_freed n.customer = ap (λ (f : List ℕ). freed_in f n.customer) freed in
            let low : n.number ≤ freed_in now_freed n.customer = held-freed h n is same in
            inr (omega arith)
        | inr low ↦ freed-more t n freed low
      ]

  abbrev now_r : ResourceState
  now_r = freeing m r

  next-fair : (waiting : List Holder) → r.id ≡ r.id → (n : Message)
      → let t : ResourceState = record { id = r.id; holder = first_of waiting; freed = now_freed; waiting = drop 1 waiting } in
      ((Some (answer kinds.Gone m) ≡ Some n) ⊎ (option_map (grant r.id) (first_of waiting) ≡ Some n)) → IsFair r t n
  next-fair [] e n sends =
      elim sends [
        | inl one_is ↦ gone-fair r (record { id = r.id; holder = None; freed = now_freed; waiting = [] }) m n
            (some-is (answer kinds.Gone m) n one_is)
        | inr two ↦ absurd (cc)
      ]
  next-fair (h ∷ hs) e n sends =
      let t : ResourceState = record { id = r.id; holder = Some h; freed = now_freed; waiting = hs } in
      elim sends [
        | inl one_is ↦ gone-fair r t m n (some-is (answer kinds.Gone m) n one_is)
        | inr two ↦ grant-fair r t h n refl (some-is (grant r.id h) n two)
      ]

  leave-by : (next : Bool) → holds_freed now_freed m.customer r.holder ≡ next
      → let passed : Change = (next_holder now_r, record { first = Some (answer kinds.Gone m); second = next_grant now_r }) in
      let kept : Change = (now_r, one (answer kinds.Gone m)) in Keeps sent r (cond next passed kept).0 (cond next passed kept).1
  leave-by true is = record {
    same = refl;
    granted = λ n held. granted-next (next_holder now_r) n r.holder refl is refl held;
    freed = freed-is;
    sized = length-raised r.freed m.customer m.number;
    fair = λ n sends. next-fair now_r.waiting refl n sends;
  }
  leave-by false is = record {
    same = refl;
    granted = λ n held. elim held [ inl holds ↦ inl holds | inr low ↦ freed-more now_r n refl low ];
    freed = freed-is;
    sized = length-raised r.freed m.customer m.number;
    fair = λ n sends. one-fair r now_r (answer kinds.Gone m) n (λ x same. gone-fair r now_r m x same) sends;
  }

  pub leave-keeps : Keeps sent r (leave m r).0 (leave m r).1
  leave-keeps = leave-by (holds_freed now_freed m.customer r.holder) refl

pub restart-keeps : (sent : List Message) (r : ResourceState) → Keeps sent r (restart r) silent
restart-keeps sent r =
    record { same = refl; granted = λ m held. held; freed = λ c. inl refl; sized = refl; fair = λ m sends. none-fair r (restart r) m sends }

-- ---- a resource has a number for each of its customers

either-freed : (b : Bool) (x y : Change) (n : ℕ) → length x.0.freed ≡ n → length y.0.freed ≡ n → length (cond b x y).0.freed ≡ n
either-freed true x y n a b = a
either-freed false x y n a b = b

length-asked : (holder : Option Holder) (m : Message) (r : ResourceState) → length (ask_by holder m r).0.freed ≡ length r.freed
length-asked None m r = refl
length-asked (Some h) m r = refl

length-ask : (m : Message) (r : ResourceState) → length (ask m r).0.freed ≡ length r.freed
length-ask m r =
    let granted : Change = (r, one (grant r.id (claim_of m))) in
    let asked : Change = ask_by r.holder m r in
    either-freed (leb m.number (freed_of r m.customer)) (r, one (answer kinds.Gone m)) (cond (is_claim r.holder (claim_of m)) granted asked) (length r.freed)
    refl
    (either-freed (is_claim r.holder (claim_of m)) granted asked (length r.freed) refl (length-asked r.holder m r))

length-leave : (m : Message) (r : ResourceState) → length (leave m r).0.freed ≡ length r.freed
length-leave m r =
    let left : ResourceState = freeing m r in
    let size = length-raised r.freed m.customer m.number in
    either-freed (holds_freed left.freed m.customer left.holder) (next_holder left, record { first = Some (answer kinds.Gone m); second = next_grant left })
    (left, one (answer kinds.Gone m)) (length r.freed) size size

length-taken : (kind : MessageKind) (m : Message) (r : ResourceState) → length (take_by kind m r).0.freed ≡ length r.freed
length-taken kinds.Ask m r = length-ask m r
length-taken kinds.Leave m r = length-leave m r
length-taken kinds.Grant m r = refl
length-taken kinds.Gone m r = refl

pub length-take : (m : Message) (r : ResourceState) → length (take m r).0.freed ≡ length r.freed
length-take m r = length-taken m.kind m r
