-- The commands of a workload one by one, and the sum of their replies.
use Rattle.std.proofs.Common.{◌≡◌, ◌≢◌, ℕ, ◌+◌, List, [], ◌∷◌, ◌++◌, Bool, true, Result, Ok, Err, OnErr, OnOk, length, sym}
use Rattle.std.proofs.Common.{◌∙◌, ap, subst, arith, append_assoc, length-append}
use Rattle.std.proofs.lemmas.List.Sums.{sum_by-append}
use Rattle.std.proofs.lemmas.Grind.{flat_map-append}
use Rattle.workload.specs.declared.summary.Summary.{Summary}
use Rattle.pool_script.specs.Commands.{commands_of, whole_commands}
use Rattle.pool_script.specs.Standing.{Kept, Stands}
use Rattle.pool_script.specs.declared.command.Command.{Command}
use Rattle.pool_replies.specs.Replies.{hit_count, offer_count, reply_text}
use Rattle.script_run.specs.Answering.{Stopped, Took}
use Rattle.script_run.specs.Effects.{Effects}
use Rattle.script_run.specs.Rules.{after}
use Rattle.script_run.specs.declared.run_end.RunEnd.TheVariants.{Done, BadWords, ReadFault, WriteFault, OutOfMemory}
use Rattle.script_run.proofs.TookLemmas.{Stopped-behind, Stopped-failed, Stopped-none, Took-append, Took-from, Took-nil, Took-stopped}
use Rattle.run_rules.specs.Events.{Event, event_of, events_of, replies_text}
use Rattle.run_rules.specs.PoolRules.{WasTried, pool_rules}
use Rattle.pool_state.specs.Heard.{Heard, opened}
use Rattle.pool_engine.specs.Workloads.{IsSummaryOf, IsUnsummed, silent, workload_commands}
use Rattle.run_rules.proofs.EventLemmas.{events_of-append, refusals_of-append}
use Rattle.run_rules.proofs.PoolLemmas.{pool_lawful}

pub always_err : {T E : Type 0} (r : Result T E) (P : Type 0) → P → OnErr r P
always_err (Ok x) P p = tt
always_err (Err e) P p = p

pub from_err : {T E P : Type 0} (r : Result T E) (e : E) → r ≡ Err e → OnErr r P → P
from_err (Ok x) e is p = absurd (cc)
from_err (Err x) e is p = p

-- ---- summaries

-- the sum of two summaries
pub Summed-append : (a b c : Summary) (xs ys : List Event) → IsSummaryOf a xs → IsSummaryOf b ys → c.commands ≡ a.commands + b.commands
    → c.refused ≡ a.refused + b.refused → c.hits ≡ a.hits + b.hits → c.offers ≡ a.offers + b.offers → c.bytes ≡ a.bytes + b.bytes
    → IsSummaryOf c (xs ++ ys)
Summed-append a b c xs ys first second commands refused hits offers bytes =
    let text = ap length (flat_map-append (λ (event : Event). reply_text event.reply) xs ys) in
    record {
      commands = omega (arith, commands, first.commands, second.commands, length-append xs ys);
      refused = omega (arith, refused, first.refused, second.refused, refusals_of-append xs ys);
      hits = omega (arith, hits, first.hits, second.hits, sum_by-append (λ (event : Event). hit_count event.reply) xs ys);
      offers = omega (arith, offers, first.offers, second.offers, sum_by-append (λ (event : Event). offer_count event.reply) xs ys);
      bytes = omega (arith, bytes, first.bytes, second.bytes, text, length-append (replies_text xs) (replies_text ys));
    }

-- ---- the loop

-- the first of all commands ran and were summed up, and the others wait
pub record Summing (s t : Heard) (k m : Effects) (all waiting : List Command) (summary : Summary) : Type 0 where
  pub ran : List Command
  pub split : all ≡ ran ++ waiting
  pub took : Took pool_rules s t k m ran 0 summary.refused
  pub summed : IsSummaryOf summary (events_of s ran)

pub Summing-start : (s t : Heard) (k : Effects) (all waiting : List Command) (summary : Summary) → t ≡ s → waiting ≡ all → summary.commands ≡ 0
    → summary.refused ≡ 0 → summary.hits ≡ 0 → summary.offers ≡ 0 → summary.bytes ≡ 0 → Summing s t k k all waiting summary
Summing-start s t k all waiting summary same is commands refused hits offers bytes = record {
  ran = [];
  split = sym is;
  took = subst (λ (u : Heard). Took pool_rules s u k k [] 0 summary.refused) (sym same)
      (subst (λ (n : ℕ). Took pool_rules s s k k [] 0 n) (sym refused) (Took-nil pool_rules pool_lawful s k 0));
  summed = record { commands = commands; refused = refused; hits = hits; offers = offers; bytes = bytes };
}

pub Summing-command : (s t u : Heard) (k m n : Effects) (all waiting rest : List Command) (command : Command) (summary one more : Summary)
    → Summing s t k m all waiting summary → waiting ≡ command ∷ rest → Took pool_rules t u m n (command ∷ []) 0 one.refused
    → IsSummaryOf one (event_of t command ∷ []) → more.commands ≡ summary.commands + one.commands → more.refused ≡ summary.refused + one.refused
    → more.hits ≡ summary.hits + one.hits → more.offers ≡ summary.offers + one.offers → more.bytes ≡ summary.bytes + one.bytes
    → Summing s u k n all rest more
Summing-command s t u k m n all waiting rest command summary one more summing is took summed commands refused hits offers bytes =
    let both : Took pool_rules s u k n (summing.ran ++ command ∷ []) 0 (summary.refused + one.refused) =
    Took-append pool_rules pool_lawful s t u k m n summing.ran (command ∷ []) 0 summary.refused (summary.refused + one.refused) summing.took
    (Took-from pool_rules pool_lawful t u m n (command ∷ []) summary.refused one.refused took) in
    let here : IsSummaryOf one (event_of (after pool_rules s summing.ran) command ∷ []) =
    subst (λ (h : Heard). IsSummaryOf one (event_of h command ∷ [])) summing.took.state summed in
    record {
      ran = summing.ran ++ command ∷ [];
      split = summing.split ∙ ap (λ (l : List Command). summing.ran ++ l) is ∙ sym (append_assoc summing.ran (command ∷ []) rest);
      took = subst (λ (count : ℕ). Took pool_rules s u k n (summing.ran ++ command ∷ []) 0 count) (sym refused) both;
      summed =
          subst (λ (events : List Event). IsSummaryOf more events) (sym (events_of-append s summing.ran (command ∷ [])))
          (Summed-append summary one more (events_of s summing.ran) (event_of (after pool_rules s summing.ran) command ∷ []) summing.summed here commands
          refused hits offers bytes);
    }

Summing-stopped : (s t : Heard) (k m n : Effects) (all waiting : List Command) (summary : Summary) → Summing s t k m all waiting summary
    → Stopped pool_rules t m n waiting OutOfMemory → Stopped pool_rules s k n all OutOfMemory
Summing-stopped s t k m n all waiting summary summing stopped =
    subst (λ (l : List Command). Stopped pool_rules s k n l OutOfMemory) (sym summing.split)
    (Stopped-behind pool_rules pool_lawful s t k m n summing.ran waiting 0 summary.refused OutOfMemory summing.took stopped)

-- memory was wanting for a command
pub Summing-tried : (s t : Heard) (k m n : Effects) (all waiting rest : List Command) (command : Command) (summary : Summary)
    → Summing s t k m all waiting summary → waiting ≡ command ∷ rest → n.sink ≡ m.sink → WasTried t command m.others n.others
    → Stopped pool_rules s k n all OutOfMemory
Summing-tried s t k m n all waiting rest command summary summing is same tried =
    Summing-stopped s t k m n all waiting summary summing
    (Stopped-failed pool_rules pool_lawful waiting t m n same (record { item = command; others = rest; waiting = is; tried = tried }))

-- memory was wanting behind a command
pub Summing-behind : (s t u : Heard) (k m n : Effects) (all waiting rest : List Command) (command : Command) (summary : Summary) (count : ℕ)
    → Summing s t k m all waiting summary → waiting ≡ command ∷ rest → Took pool_rules t u m n (command ∷ []) 0 count
    → Stopped pool_rules s k n all OutOfMemory
Summing-behind s t u k m n all waiting rest command summary count summing is took =
    Summing-stopped s t k m n all waiting summary summing
    (subst (λ (l : List Command). Stopped pool_rules t m n l OutOfMemory) (sym is)
    (Stopped-behind pool_rules pool_lawful t u m n n (command ∷ []) rest 0 count OutOfMemory took (Stopped-none pool_rules pool_lawful u n rest)))

-- the commands that wait behind the end of an input of which none was taken
pub whole-waits : {T E : Type 0} (r : Result T E) (s t : Kept) (bytes : List ℕ) → Stands s bytes 0
    → OnOk r ((all : List ℕ) (n : ℕ) → Stands s all n → Stands t all n) → OnOk r (t.over ≡ true) → OnOk r (t.waiting ≡ whole_commands bytes)
whole-waits (Ok u) s t bytes stands keeps over = sym (keeps bytes 0 stands).follows.waits ∙ ap (λ (o : Bool). commands_of o bytes) over
whole-waits (Err e) s t bytes stands keeps over = tt

-- ---- the ends

module _ (n : ℕ) (k m : Effects) where
  abbrev before : Effects
  before = record { sink = silent; others = k.others }

  abbrev behind : Effects
  behind = record { sink = silent; others = m.others }

  pub Workload-unsummed : m.sink ≡ k.sink → Stopped pool_rules (opened k.others.rows) before behind (workload_commands n) OutOfMemory → IsUnsummed n k m
  Workload-unsummed unwritten stopped = record {
    front = stopped.front;
    others = stopped.behind;
    split = stopped.split;
    unwritten = unwritten;
    between = stopped.between;
    ran = stopped.did;
    tried = stopped.tried;
  }

  pub Workload-unprinted : (t : Heard) (count : ℕ) → m.sink ≡ k.sink
      → Took pool_rules (opened k.others.rows) t before behind (workload_commands n) 0 count → IsUnsummed n k m
  Workload-unprinted t count unwritten took =
      Workload-unsummed unwritten (Took-stopped pool_rules pool_lawful (opened k.others.rows) t before behind (workload_commands n) 0 count took)

-- ---- ends that differ

pub memory-words : OutOfMemory ≢ BadWords
memory-words is = absurd (cc)

pub memory-read : OutOfMemory ≢ ReadFault
memory-read is = absurd (cc)

pub memory-write : OutOfMemory ≢ WriteFault
memory-write is = absurd (cc)

pub write-words : WriteFault ≢ BadWords
write-words is = absurd (cc)

pub write-read : WriteFault ≢ ReadFault
write-read is = absurd (cc)

pub done-words : (refused : ℕ) → Done refused ≢ BadWords
done-words refused is = absurd (cc)

pub done-read : (refused : ℕ) → Done refused ≢ ReadFault
done-read refused is = absurd (cc)

pub done-write : (refused : ℕ) → Done refused ≢ WriteFault
done-write refused is = absurd (cc)
