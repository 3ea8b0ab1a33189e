-- Items that were answered one after the other, and those at which answering stopped.
use Rattle.std.proofs.Common.{◌≡◌, ℕ, ◌+◌, List, [], ◌∷◌, ◌++◌, refl, sym, ◌∙◌, ap, subst, arith, append_assoc, Option, None, Some}
use Rattle.std.proofs.Common.{IfSome}
use Rattle.std.proofs.lemmas.List.{append-nil}
use Rattle.pool_io.specs.Flow.{Intake}
use Rattle.script_run.specs.Answering.{Answers, Fails, Stopped, Took}
use Rattle.script_run.specs.Effects.{Beside, Effects}
use Rattle.script_run.specs.Rules.{IsLawful, Rules, Tried, after, text_of}
use Rattle.script_run.specs.Streams.{Broke, Wrote}
use Rattle.script_run.specs.declared.answer.Answer.{Answer}
use Rattle.script_run.specs.declared.run_end.RunEnd.{RunEnd}
use Rattle.script_run.specs.declared.run_end.RunEnd.TheVariants.{Done, BadWords, ReadFault, WriteFault, TooLong, OutOfMemory}
use Rattle.script_run.proofs.RulesLemmas.{after-append, refusals-append, text-append}
use Rattle.script_run.proofs.WroteLemmas.{Broke-after, Wrote-append, Wrote-nil}

-- what is known of the item that is there
pub from_some : {A : Type 0} (o : Option A) (x : A) (P : A → Type 0) → o ≡ Some x → IfSome o P → P x
from_some None x P is p = absurd (cc)
from_some (Some y) x P is p = let same : y ≡ x = cc in subst P same p

module _ {State Item : Type 0} (rules : Rules State Item) (lawful : IsLawful rules) where
  -- at first nothing was tried
  pub Tried-none : (s : State) (items : List Item) (k : Beside) → Tried rules s items k k
  Tried-none s [] k = refl
  Tried-none s (x ∷ items) k = lawful.idle s x k

  pub Took-nil : (s : State) (k : Effects) (n : ℕ) → Took rules s s k k [] n n
  Took-nil s k n = record { state = refl; wrote = Wrote-nil k.sink; counted = omega arith; did = lawful.none s k.others }

  -- the answers to items behind others
  pub wrote_behind : (s t : State) (k m n : Intake) (a b : List Item) → t ≡ after rules s a → Wrote k m (text_of rules s a)
      → Wrote m n (text_of rules t b) → Wrote k n (text_of rules s (a ++ b))
  wrote_behind s t k m n a b is first second =
      let here : Wrote m n (text_of rules (after rules s a) b) = subst (λ (x : State). Wrote m n (text_of rules x b)) is second in
      subst (λ (l : List ℕ). Wrote k n l) (sym (text-append rules s a b))
      (Wrote-append k m n (text_of rules s a) (text_of rules (after rules s a) b) first here)

  -- an answer that wasn't taken whole, behind other items
  pub broke_behind : (s t : State) (k m n : Intake) (a b : List Item) (cut : Item) → t ≡ after rules s a → Wrote k m (text_of rules s a)
      → Broke m n (text_of rules t b) (rules.text (after rules t b) cut) → Broke k n (text_of rules s (a ++ b)) (rules.text (after rules s (a ++ b)) cut)
  broke_behind s t k m n a b cut is first second =
      let at : State = after rules s a in
      let here : Broke m n (text_of rules at b) (rules.text (after rules at b) cut) =
      subst (λ (x : State). Broke m n (text_of rules x b) (rules.text (after rules x b) cut)) is second in
      let both : Broke k n (text_of rules s a ++ text_of rules at b) (rules.text (after rules at b) cut) =
      Broke-after k m n (text_of rules s a) (text_of rules at b) (rules.text (after rules at b) cut) first here in
      let whole : Broke k n (text_of rules s (a ++ b)) (rules.text (after rules at b) cut) =
      subst (λ (l : List ℕ). Broke k n l (rules.text (after rules at b) cut)) (sym (text-append rules s a b)) both in
      subst (λ (x : State). Broke k n (text_of rules s (a ++ b)) (rules.text x cut)) (sym (after-append rules s a b)) whole

  -- what was done for items behind others
  pub did_behind : (s t : State) (k m n : Beside) (a b : List Item) → t ≡ after rules s a → rules.Does s a k m → rules.Does t b m n
      → rules.Does s (a ++ b) k n
  did_behind s t k m n a b is first second = lawful.append s a b k m n first (subst (λ (x : State). rules.Does x b m n) is second)

  -- what was done for some items and the next, behind others
  pub did_to : (s t : State) (k m n : Beside) (a front next : List Item) → t ≡ after rules s a → rules.Does s a k m → rules.Does t (front ++ next) m n
      → rules.Does s ((a ++ front) ++ next) k n
  did_to s t k m n a front next is first second =
      subst (λ (l : List Item). rules.Does s l k n) (sym (append_assoc a front next)) (did_behind s t k m n a (front ++ next) is first second)

  -- what was tried behind others
  pub tried_behind : (s t : State) (k m : Beside) (a front behind : List Item) → t ≡ after rules s a → Tried rules (after rules t front) behind k m
      → Tried rules (after rules s (a ++ front)) behind k m
  tried_behind s t k m a front behind is tried =
      subst (λ (x : State). Tried rules x behind k m) (sym (after-append rules s a front))
      (subst (λ (x : State). Tried rules (after rules x front) behind k m) is tried)

  -- items and then more items
  pub Took-append : (s t u : State) (k m n : Effects) (a b : List Item) (p q r : ℕ) → Took rules s t k m a p q → Took rules t u m n b q r
      → Took rules s u k n (a ++ b) p r
  Took-append s t u k m n a b p q r first second =
      let here : Took rules (after rules s a) u m n b q r = subst (λ (x : State). Took rules x u m n b q r) first.state second in
      record {
        state = here.state ∙ sym (after-append rules s a b);
        wrote = wrote_behind s (after rules s a) k.sink m.sink n.sink a b refl first.wrote here.wrote;
        counted = omega (arith, first.counted, here.counted, refusals-append rules s a b);
        did = lawful.append s a b k.others m.others n.others first.did here.did;
      }

  -- a count goes on from any number
  pub Took-from : (s t : State) (k m : Effects) (a : List Item) (p c : ℕ) → Took rules s t k m a 0 c → Took rules s t k m a p (p + c)
  Took-from s t k m a p c took = record { state = took.state; wrote = took.wrote; counted = omega (arith, took.counted); did = took.did }

  -- an item that was answered, and whose answer wasn't taken
  pub Stopped-offered : (old new : List Item) (s t : State) (k m : Effects) (answer : Answer) → Answers rules old new s t k.others m.others answer
      → Broke k.sink m.sink [] answer.text → Stopped rules s k m old WriteFault
  Stopped-offered old new s t k m answer answers broke = record {
    front = [];
    cut = answers.item;
    behind = new;
    split = answers.waiting;
    broke = subst (λ (l : List ℕ). Broke k.sink m.sink [] l) answers.text broke;
    did = answers.did;
  }

  -- there was no memory for an item
  pub Stopped-failed : (old : List Item) (s : State) (k m : Effects) → m.sink ≡ k.sink → Fails rules old s k.others m.others
      → Stopped rules s k m old OutOfMemory
  Stopped-failed old s k m same fails = record {
    front = [];
    behind = fails.item ∷ fails.others;
    split = fails.waiting;
    wrote = subst (λ (x : Intake). Wrote k.sink x []) (sym same) (Wrote-nil k.sink);
    between = k.others;
    did = lawful.none s k.others;
    tried = fails.tried;
  }

  -- memory was wanting before any of the items
  pub Stopped-none : (s : State) (k : Effects) (items : List Item) → Stopped rules s k k items OutOfMemory
  Stopped-none s k items =
      record {
        front =
            [];
        behind = items;
        split = refl;
        wrote = Wrote-nil k.sink;
        between = k.others;
        did = lawful.none s k.others;
        tried = Tried-none s items k.others;
      }

  split_behind : (a b front others : List Item) → b ≡ front ++ others → a ++ b ≡ (a ++ front) ++ others
  split_behind a b front others is = ap (λ (l : List Item). a ++ l) is ∙ sym (append_assoc a front others)

  -- answering stopped, behind other items
  pub Stopped-behind : (s t : State) (k m n : Effects) (a b : List Item) (p q : ℕ) (end : RunEnd) → Took rules s t k m a p q → Stopped rules t m n b end
      → Stopped rules s k n (a ++ b) end
  Stopped-behind s t k m n a b p q WriteFault first stopped = record {
    front = a ++ stopped.front;
    cut = stopped.cut;
    behind = stopped.behind;
    split = split_behind a b stopped.front (stopped.cut ∷ stopped.behind) stopped.split;
    broke = broke_behind s t k.sink m.sink n.sink a stopped.front stopped.cut first.state first.wrote stopped.broke;
    did = did_to s t k.others m.others n.others a stopped.front (stopped.cut ∷ []) first.state first.did stopped.did;
  }
  Stopped-behind s t k m n a b p q OutOfMemory first stopped = record {
    front = a ++ stopped.front;
    behind = stopped.behind;
    split = split_behind a b stopped.front stopped.behind stopped.split;
    wrote = wrote_behind s t k.sink m.sink n.sink a stopped.front first.state first.wrote stopped.wrote;
    between = stopped.between;
    did = did_behind s t k.others m.others stopped.between a stopped.front first.state first.did stopped.did;
    tried = tried_behind s t stopped.between n.others a stopped.front stopped.behind first.state stopped.tried;
  }
  Stopped-behind s t k m n a b p q (Done refused) first stopped = absurd stopped
  Stopped-behind s t k m n a b p q BadWords first stopped = absurd stopped
  Stopped-behind s t k m n a b p q ReadFault first stopped = absurd stopped
  Stopped-behind s t k m n a b p q TooLong first stopped = absurd stopped

  -- memory was wanting behind items
  pub Took-stopped : (s t : State) (k m : Effects) (a : List Item) (p q : ℕ) → Took rules s t k m a p q → Stopped rules s k m a OutOfMemory
  Took-stopped s t k m a p q took =
      subst (λ (l : List Item). Stopped rules s k m l OutOfMemory) (append-nil a) (Stopped-behind s t k m m a [] p q OutOfMemory took (Stopped-none t m []))
