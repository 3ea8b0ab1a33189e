-- What answering some items does to a machine, to a sink, and beside them.
use Rattle.std.specs.Prelude.{◌≡◌, ℕ, ◌+◌, List, [], ◌∷◌, ◌++◌}
use Rattle.script_run.specs.Effects.{Beside, Effects}
use Rattle.script_run.specs.Rules.{Rules, Tried, after, refusals_of, text_of}
use Rattle.script_run.specs.Streams.{Broke, Wrote}
use Rattle.script_run.specs.declared.run_end.RunEnd.{RunEnd}
use Rattle.script_run.specs.declared.run_end.RunEnd.TheVariants.{WriteFault, OutOfMemory}
use Rattle.script_run.specs.declared.answer.Answer.{Answer}

module _ {State Item : Type 0} (rules : Rules State Item) where
  -- the first of the items that wait was answered
  pub record Answers (old new : List Item) (s t : State) (k m : Beside) (answer : Answer) : Type 0 where
    pub item : Item
    pub waiting : old ≡ item ∷ new
    pub state : t ≡ rules.next s item
    pub text : answer.text ≡ rules.text s item
    pub refusals : answer.refusals ≡ rules.refusals s item
    pub did : rules.Does s (item ∷ []) k m

  -- no item waited, and nothing was done
  pub record Rests (old new : List Item) (s t : State) (k m : Beside) : Type 0 where
    pub none : old ≡ []
    pub still : new ≡ []
    pub state : t ≡ s
    pub same : m ≡ k

  -- there was no memory for the first of the items that wait
  pub record Fails (old : List Item) (s : State) (k m : Beside) : Type 0 where
    pub item : Item
    pub others : List Item
    pub waiting : old ≡ item ∷ others
    pub tried : rules.Tries s item k m

  -- the items were answered, the answers were taken, and the refusals among them counted on
  pub record Took (s t : State) (k m : Effects) (items : List Item) (before behind : ℕ) : Type 0 where
    pub state : t ≡ after rules s items
    pub wrote : Wrote k.sink m.sink (text_of rules s items)
    pub counted : behind ≡ before + refusals_of rules s items
    pub did : rules.Does s items k.others m.others

  -- the first of the items that wait was answered, and its answer taken
  pub record TookOne (old new : List Item) (s t : State) (k m : Effects) (refusals : ℕ) : Type 0 where
    pub item : Item
    pub waiting : old ≡ item ∷ new
    pub took : Took s t k m (item ∷ []) 0 refusals

  -- the answers to the first items were taken, and that to the next one wasn't taken whole
  pub record Broken (s : State) (k m : Effects) (items : List Item) : Type 0 where
    pub front : List Item
    pub cut : Item
    pub behind : List Item
    pub split : items ≡ front ++ cut ∷ behind
    pub broke : Broke k.sink m.sink (text_of rules s front) (rules.text (after rules s front) cut)
    pub did : rules.Does s (front ++ cut ∷ []) k.others m.others

  -- the answers to the first items were taken, each whole, and at most the next one was tried
  pub record Partly (s : State) (k m : Effects) (items : List Item) : Type 0 where
    pub front : List Item
    pub behind : List Item
    pub split : items ≡ front ++ behind
    pub wrote : Wrote k.sink m.sink (text_of rules s front)
    pub between : Beside
    pub did : rules.Does s front k.others between
    pub tried : Tried rules (after rules s front) behind between m.others

  -- why answering stopped, and what was taken then
  abbrev pub Stopped : State → Effects → Effects → List Item → RunEnd → Type 0
  Stopped s k m items WriteFault = Broken s k m items
  Stopped s k m items OutOfMemory = Partly s k m items
  Stopped s k m items end = ⊥
