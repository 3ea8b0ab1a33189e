-- Steps of the rules, each for the branch of the code that takes it.
use Rattle.std.proofs.Common.{refl, arith, true, ◌≡◌, ℕ, zero, suc, ◌+◌, ◌-◌, ◌<◌, List, [], ◌∷◌, length, None, Some, Result, Ok, Err, ap, sym, ◌∙◌}
use Rattle.std.specs.Prelude.{IsErr, IsErrAnd}
use Rattle.ad_tree.specs.Inline.{Inline, Inlines, Defs, end, next, no_defs, def}
use Rattle.ad_tree.specs.Tree.{select, subscript, choice, call, list}
use Rattle.ad_lexer.specs.declared.mark.Mark.{Mark}
use Rattle.ad_lexer.specs.declared.mark.Mark.TheVariants.{OpenParen, CloseParen, OpenBracket, CloseBracket, OpenBrace, CloseBrace, Comma, Dot, Assign, Question}
use Rattle.ad_lexer.specs.declared.mark.Mark.TheVariants.{Colon}
use Rattle.ad_builder.specs.declared.instruction.Instruction.TheVariants as instructions
use Rattle.ad_grammar.specs.declared.stop.Stop.{Stop}
use Rattle.ad_grammar.specs.declared.stop.Stop.TheVariants as stops
use Rattle.ad_builder.specs.Machine.{top, below, step, chosen, with_element, with_elements, with_definition}
use Rattle.ad_grammar.specs.Rules.{Rule, Reading, and_then, name_at, close_paren, close_bracket, close_brace, several_behind, several, arguments, elements}
use Rattle.ad_grammar.specs.Rules.{assigned, definitions_behind, definitions_at, ad_behind, plain_at, primary, postfix, suffixes, level_at, colon}
use Rattle.ad_grammar.specs.Rules.{choice_behind, conditionals}
use Rattle.ad_builder.specs.Shapes.{over_one, over_two, over_three}
use Rattle.ad_grammar.specs.Steps.{Begins, Puts, defined_at, selected, extended, completed}
use Rattle.ad_grammar.specs.Words.{Word, plain, quoted, constant, mark}
use Rattle.ad_grammar.proofs.MachineLemmas.{choices, chosen-top, chosen-below, chosen-next, choices-next, extended-new, extended-next, completed-new}
use Rattle.ad_grammar.proofs.MachineLemmas.{completed-next}

-- a mark doesn't stand in front of words
abbrev pub Lacks : Mark → List Word → Type 0
Lacks m ws = (rest : List Word) → ws ≡ mark m ∷ rest → ⊥

-- ---- answers ----

module _ (wanted : Reading Inline) (rest : List Word) (before after : List Inline) where
  pub puts-ok : (done : Unit {0}) → wanted ≡ Some (top after, rest) → below after ≡ before → Puts wanted (Ok done) rest before after
  puts-ok done h b = record { ok = λ a e. h; on = λ a e. b; none = λ e. absurd (cc) }

  pub stops-now : wanted ≡ None → Puts wanted (Err stops.Grammar) rest before after
  stops-now h = record { ok = λ a e. absurd (cc); on = λ a e. absurd (cc); none = λ e. h }

  module _ (answer : Result (Unit {0}) Stop) where
    pub reputs : (w : Reading Inline) (b : List Inline) → wanted ≡ w → b ≡ before → Puts w answer rest b after → Puts wanted answer rest before after
    reputs w b h l p = record { ok = λ a e. h ∙ p.ok a e; on = λ a e. p.on a e ∙ l; none = λ e. h ∙ p.none e }

    pub puts-expected : ((done : Unit {0}) → answer ≡ Ok done → wanted ≡ Some (top after, rest)) → below after ≡ before
        → ((stop : Stop) → answer ≡ Err stop → wanted ≡ None) → Puts wanted answer rest before after
    puts-expected some b none = record { ok = some; on = λ a e. b; none = λ e. none stops.Grammar e }

    pub stops-here : IsErr answer → wanted ≡ None → Puts wanted answer rest before after
    stops-here err h = by answer err
      where
        by : (a : Result (Unit {0}) Stop) → IsErr a → Puts wanted a rest before after
        by (Ok a) wrong = absurd (cc)
        by (Err stop) right = record { ok = λ a e. absurd (cc); on = λ a e. absurd (cc); none = λ e. h }

    pub stops-by : (stop : Stop) → IsErr answer → IsErrAnd answer (λ e. e ≡ stop) → (stop ≡ stops.Grammar → wanted ≡ None)
        → Puts wanted answer rest before after
    stops-by stop err same h = by answer err same
      where
        by : (a : Result (Unit {0}) Stop) → IsErr a → IsErrAnd a (λ e. e ≡ stop) → Puts wanted a rest before after
        by (Ok a) wrong s = absurd (cc)
        by (Err other) right s = record { ok = λ a e. absurd (cc); on = λ a e. absurd (cc); none = λ e. let is : other ≡ stops.Grammar = cc in h (sym s ∙ is) }

    pub stops-full : IsErr answer → IsErrAnd answer (λ e. e ≡ stops.OutOfMemory) → Puts wanted answer rest before after
    stops-full err same = stops-by stops.OutOfMemory err same (λ is. absurd (cc))

-- a call was begun
pub begins-call : (wanted : Rule → Reading Inline) (rest : List Word) (before after : List Inline)
    → ((e : Rule) → wanted e ≡ extended (top after) (arguments e rest)) → below after ≡ before
    → Begins wanted (Ok true) rest before after
begins-call wanted rest before after h b = record { whole = λ e. absurd (cc); call = λ e. h; on = λ a e. b; none = λ e. absurd (cc) }

then_some : {A B : Type 0} (r : Reading A) (f : A → List Word → Reading B) (a : A) (rest : List Word) → r ≡ Some (a, rest) → and_then r f ≡ f a rest
then_some r f a rest h = ap (λ x. and_then x f) h

pub less : (n : ℕ) → 0 < n → n ≡ suc (n - 1)
less n some = omega arith

-- ---- marks that lack ----

paren_lacks : {A : Type 0} (x : A) (ws : List Word) → Lacks CloseParen ws → close_paren x ws ≡ None
paren_lacks x [] h = refl
paren_lacks x (plain t ∷ ws) h = refl
paren_lacks x (quoted t ∷ ws) h = refl
paren_lacks x (constant l ∷ ws) h = refl
paren_lacks x (mark m ∷ ws) h =
    elim m as (λ n. Lacks CloseParen (mark n ∷ ws) → close_paren x (mark n ∷ ws) ≡ None) [ CloseParen ↦ λ l. absurd (l ws refl) | _ ↦ λ l. refl ] h

bracket_lacks : {A : Type 0} (x : A) (ws : List Word) → Lacks CloseBracket ws → close_bracket x ws ≡ None
bracket_lacks x [] h = refl
bracket_lacks x (plain t ∷ ws) h = refl
bracket_lacks x (quoted t ∷ ws) h = refl
bracket_lacks x (constant l ∷ ws) h = refl
bracket_lacks x (mark m ∷ ws) h =
    elim m as (λ n. Lacks CloseBracket (mark n ∷ ws) → close_bracket x (mark n ∷ ws) ≡ None) [ CloseBracket ↦ λ l. absurd (l ws refl) | _ ↦ λ l. refl ] h

brace_lacks : {A : Type 0} (x : A) (ws : List Word) → Lacks CloseBrace ws → close_brace x ws ≡ None
brace_lacks x [] h = refl
brace_lacks x (plain t ∷ ws) h = refl
brace_lacks x (quoted t ∷ ws) h = refl
brace_lacks x (constant l ∷ ws) h = refl
brace_lacks x (mark m ∷ ws) h =
    elim m as (λ n. Lacks CloseBrace (mark n ∷ ws) → close_brace x (mark n ∷ ws) ≡ None) [ CloseBrace ↦ λ l. absurd (l ws refl) | _ ↦ λ l. refl ] h

colon_lacks : {A : Type 0} (x : A) (ws : List Word) → Lacks Colon ws → colon x ws ≡ None
colon_lacks x [] h = refl
colon_lacks x (plain t ∷ ws) h = refl
colon_lacks x (quoted t ∷ ws) h = refl
colon_lacks x (constant l ∷ ws) h = refl
colon_lacks x (mark m ∷ ws) h = elim m as (λ n. Lacks Colon (mark n ∷ ws) → colon x (mark n ∷ ws) ≡ None) [ Colon ↦ λ l. absurd (l ws refl) | _ ↦ λ l. refl ] h

comma_lacks : (more : List Word → Reading Inlines) (x : Inline) (ws : List Word) → Lacks Comma ws → several_behind more x ws ≡ Some (next x end, ws)
comma_lacks more x [] h = refl
comma_lacks more x (plain t ∷ ws) h = refl
comma_lacks more x (quoted t ∷ ws) h = refl
comma_lacks more x (constant l ∷ ws) h = refl
comma_lacks more x (mark m ∷ ws) h =
    elim m as (λ n. Lacks Comma (mark n ∷ ws) → several_behind more x (mark n ∷ ws) ≡ Some (next x end, mark n ∷ ws))
    [ Comma ↦ λ l. absurd (l ws refl) | _ ↦ λ l. refl ] h

question_lacks : (e more : Rule) (c : Inline) (ws : List Word) → Lacks Question ws → choice_behind e more c ws ≡ Some (c, ws)
question_lacks e more c [] h = refl
question_lacks e more c (plain t ∷ ws) h = refl
question_lacks e more c (quoted t ∷ ws) h = refl
question_lacks e more c (constant l ∷ ws) h = refl
question_lacks e more c (mark m ∷ ws) h =
    elim m as (λ n. Lacks Question (mark n ∷ ws) → choice_behind e more c (mark n ∷ ws) ≡ Some (c, mark n ∷ ws))
    [ Question ↦ λ l. absurd (l ws refl) | _ ↦ λ l. refl ] h

arguments_some : (e : Rule) (ws : List Word) → Lacks CloseParen ws → arguments e ws ≡ and_then (several e (length ws) ws) close_paren
arguments_some e [] h = refl
arguments_some e (plain t ∷ ws) h = refl
arguments_some e (quoted t ∷ ws) h = refl
arguments_some e (constant l ∷ ws) h = refl
arguments_some e (mark m ∷ ws) h =
    elim m as (λ n. Lacks CloseParen (mark n ∷ ws) → arguments e (mark n ∷ ws) ≡ and_then (several e (length (mark n ∷ ws)) (mark n ∷ ws)) close_paren)
    [ CloseParen ↦ λ l. absurd (l ws refl) | _ ↦ λ l. refl ] h

elements_some : (e : Rule) (ws : List Word) → Lacks CloseBrace ws → elements e ws ≡ and_then (several e (length ws) ws) close_brace
elements_some e [] h = refl
elements_some e (plain t ∷ ws) h = refl
elements_some e (quoted t ∷ ws) h = refl
elements_some e (constant l ∷ ws) h = refl
elements_some e (mark m ∷ ws) h =
    elim m as (λ n. Lacks CloseBrace (mark n ∷ ws) → elements e (mark n ∷ ws) ≡ and_then (several e (length (mark n ∷ ws)) (mark n ∷ ws)) close_brace)
    [ CloseBrace ↦ λ l. absurd (l ws refl) | _ ↦ λ l. refl ] h

suffixes_suc : (e : Rule) (n : ℕ) (x : Inline) (ws : List Word) → Lacks Dot ws → Lacks OpenBracket ws → suffixes e (suc n) x ws ≡ Some (x, ws)
suffixes_suc e n x [] h k = refl
suffixes_suc e n x (plain t ∷ ws) h k = refl
suffixes_suc e n x (quoted t ∷ ws) h k = refl
suffixes_suc e n x (constant l ∷ ws) h k = refl
suffixes_suc e n x (mark m ∷ ws) h k =
    elim m as (λ n1. Lacks Dot (mark n1 ∷ ws) → Lacks OpenBracket (mark n1 ∷ ws) → suffixes e (suc n) x (mark n1 ∷ ws) ≡ Some (x, mark n1 ∷ ws)) [
      | Dot ↦ λ l r. absurd (l ws refl)
      | OpenBracket ↦ λ l r. absurd (r ws refl)
      | _ ↦ λ l r. refl
    ] h k

pub postfix-alone : (e : Rule) (ws rest : List Word) (x : Inline) → primary e ws ≡ Some (x, rest) → Lacks Dot rest → Lacks OpenBracket rest
    → postfix e ws ≡ Some (x, rest)
postfix-alone e ws rest x read no_dot no_bracket =
    ap (λ r. and_then r (λ y behind. suffixes e (length behind) y behind)) read ∙ by (length rest)
  where
    by : (n : ℕ) → suffixes e n x rest ≡ Some (x, rest)
    by zero = refl
    by (suc n) = suffixes_suc e n x rest no_dot no_bracket

-- ---- brackets ----

-- elements that are read before a closing mark, which are added to a tree
module _ (x : Inline) (r : Reading Inlines) (closes : Inlines → List Word → Reading Inlines) where
  extended_closed : (y : Inline) (rest now : List Word) → extended x r ≡ Some (y, rest) → ((xs : Inlines) → closes xs rest ≡ Some (xs, now))
      → extended x (and_then r closes) ≡ Some (y, now)
  extended_closed y rest now h closed = by r h
    where
      by : (s : Reading Inlines) → extended x s ≡ Some (y, rest) → extended x (and_then s closes) ≡ Some (y, now)
      by None e = absurd (cc)
      by (Some read) e =
          let found : Inline × List Word = (with_elements x read.0, read.1) in
          let wanted : Inline × List Word = (y, rest) in
          let both : found ≡ wanted = cc in
          ap (λ us. extended x (closes read.0 us)) (ap (λ p. p.1) both) ∙ ap (extended x) (closed read.0) ∙ ap (λ p. Some (p.0, now)) both

  extended_broken : (y : Inline) (rest : List Word) → extended x r ≡ Some (y, rest) → ((xs : Inlines) → closes xs rest ≡ None)
      → extended x (and_then r closes) ≡ None
  extended_broken y rest h broken = by r h
    where
      by : (s : Reading Inlines) → extended x s ≡ Some (y, rest) → extended x (and_then s closes) ≡ None
      by None e = absurd (cc)
      by (Some read) e =
          let found : Inline × List Word = (with_elements x read.0, read.1) in
          let wanted : Inline × List Word = (y, rest) in
          let both : found ≡ wanted = cc in
          ap (λ us. extended x (closes read.0 us)) (ap (λ p. p.1) both) ∙ ap (extended x) (broken read.0)

  extended_none : extended x r ≡ None → extended x (and_then r closes) ≡ None
  extended_none h = by r h
    where
      by : (s : Reading Inlines) → extended x s ≡ None → extended x (and_then s closes) ≡ None
      by None e = refl
      by (Some read) e = absurd (cc)

module _ (e : Rule) (x : Inline) (ws now : List Word) where
  module _ (other : Lacks CloseParen ws) (kept : now ≡ ws) where
    several_arguments : extended x (arguments e ws) ≡ extended x (and_then (several e (length now) now) close_paren)
    several_arguments = ap (extended x) (arguments_some e ws other ∙ ap (λ us. and_then (several e (length us) us) close_paren) (sym kept))

    pub arguments-unread : extended x (several e (length now) now) ≡ None → extended x (arguments e ws) ≡ None
    arguments-unread none = several_arguments ∙ extended_none x (several e (length now) now) close_paren none

    module _ (y : Inline) (rest : List Word) (read : extended x (several e (length now) now) ≡ Some (y, rest)) where
      pub arguments-broken : Lacks CloseParen rest → extended x (arguments e ws) ≡ None
      arguments-broken lacks = several_arguments ∙ extended_broken x (several e (length now) now) close_paren y rest read (λ xs. paren_lacks xs rest lacks)

      pub arguments-closed : (last : List Word) → rest ≡ mark CloseParen ∷ last → extended x (arguments e ws) ≡ Some (y, last)
      arguments-closed last stood =
          several_arguments ∙ extended_closed x (several e (length now) now) close_paren y rest last read (λ xs. ap (close_paren xs) stood)

  module _ (other : Lacks CloseBrace ws) (kept : now ≡ ws) where
    several_elements : extended x (elements e ws) ≡ extended x (and_then (several e (length now) now) close_brace)
    several_elements = ap (extended x) (elements_some e ws other ∙ ap (λ us. and_then (several e (length us) us) close_brace) (sym kept))

    pub elements-unread : extended x (several e (length now) now) ≡ None → extended x (elements e ws) ≡ None
    elements-unread none = several_elements ∙ extended_none x (several e (length now) now) close_brace none

    module _ (y : Inline) (rest : List Word) (read : extended x (several e (length now) now) ≡ Some (y, rest)) where
      pub elements-broken : Lacks CloseBrace rest → extended x (elements e ws) ≡ None
      elements-broken lacks = several_elements ∙ extended_broken x (several e (length now) now) close_brace y rest read (λ xs. brace_lacks xs rest lacks)

      pub elements-closed : (last : List Word) → rest ≡ mark CloseBrace ∷ last → extended x (elements e ws) ≡ Some (y, last)
      elements-closed last stood =
          several_elements ∙ extended_closed x (several e (length now) now) close_brace y rest last read (λ xs. ap (close_brace xs) stood)

-- ---- primaries ----

-- a call or a list that was put on the stack, and what is read behind it
pub call-begun : (e : Rule) (text : List ℕ) (ws now : List Word) (st pushed : List Inline) → ws ≡ mark OpenParen ∷ now
    → pushed ≡ step (instructions.Call text 0) st
    → plain_at e text ws ≡ extended (top pushed) (arguments e now)
call-begun e text ws now st pushed stood is =
    ap (plain_at e text) stood ∙ extended-new (call text) (arguments e now) ∙ ap (λ s. extended (top s) (arguments e now)) (sym is)

module _ (e : Rule) (m : Mark) (ws : List Word) where
  pub list-begun : (st pushed : List Inline) → m ≡ OpenBrace → pushed ≡ step (instructions.List 0) st
      → primary e (mark m ∷ ws) ≡ extended (top pushed) (elements e ws)
  list-begun st pushed is put =
      ap (λ k. primary e (mark k ∷ ws)) is ∙ extended-new list (elements e ws) ∙ ap (λ s. extended (top s) (elements e ws)) (sym put)

  pub ad-begun : (st pushed : List Inline) → m ≡ OpenBracket → pushed ≡ step instructions.Ad st
      → primary e (mark m ∷ ws) ≡ completed (top pushed) (ad_behind e ws)
  ad-begun st pushed is put =
      ap (λ k. primary e (mark k ∷ ws)) is ∙ completed-new (ad_behind e ws) ∙ ap (λ s. completed (top s) (ad_behind e ws)) (sym put)

  module _ (is : m ≡ OpenParen) where
    paren_turn : primary e (mark m ∷ ws) ≡ and_then (e ws) close_paren
    paren_turn = ap (λ k. primary e (mark k ∷ ws)) is

    pub paren-none : e ws ≡ None → primary e (mark m ∷ ws) ≡ None
    paren-none none = paren_turn ∙ ap (λ r. and_then r close_paren) none

    module _ (x : Inline) (rest : List Word) (read : e ws ≡ Some (x, rest)) where
      pub paren-closed : (last : List Word) → rest ≡ mark CloseParen ∷ last → primary e (mark m ∷ ws) ≡ Some (x, last)
      paren-closed last closed = paren_turn ∙ ap (λ r. and_then r close_paren) read ∙ ap (close_paren x) closed

      pub paren-broken : Lacks CloseParen rest → primary e (mark m ∷ ws) ≡ None
      paren-broken lacks = paren_turn ∙ ap (λ r. and_then r close_paren) read ∙ paren_lacks x rest lacks

pub primary-none : (e : Rule) (m : Mark) (ws : List Word) → (m ≡ OpenParen → ⊥) → (m ≡ OpenBracket → ⊥) → (m ≡ OpenBrace → ⊥) → (m ≡ Dot → ⊥)
    → primary e (mark m ∷ ws) ≡ None
primary-none e m ws no_paren no_bracket no_brace no_dot =
    elim m as (λ n. (n ≡ OpenParen → ⊥) → (n ≡ OpenBracket → ⊥) → (n ≡ OpenBrace → ⊥) → (n ≡ Dot → ⊥) → primary e (mark n ∷ ws) ≡ None) [
      | OpenParen ↦ λ a b c d. absurd (a refl)
      | OpenBracket ↦ λ a b c d. absurd (b refl)
      | OpenBrace ↦ λ a b c d. absurd (c refl)
      | Dot ↦ λ a b c d. absurd (d refl)
      | _ ↦ λ a b c d. refl
    ] no_paren no_bracket no_brace no_dot

pub postfix-none : (e : Rule) (ws : List Word) → primary e ws ≡ None → postfix e ws ≡ None
postfix-none e ws none = ap (λ r. and_then r (λ x rest. suffixes e (length rest) x rest)) none

-- ---- conditionals ----

conditionals_turn : (e : Rule) (n : ℕ) (ws : List Word) → 0 < n → conditionals e n ws ≡ and_then (level_at e 10 ws) (choice_behind e (conditionals e (n - 1)))
conditionals_turn e n ws some = ap (λ k. conditionals e k ws) (less n some)

pub conditionals-operandless : (e : Rule) (w : Reading Inline) (p n : ℕ) (before : List Inline) (ws : List Word) → w ≡ choices p before (conditionals e n ws)
    → 0 < n → level_at e 10 ws ≡ None → w ≡ None
conditionals-operandless e w p n before ws inv some none =
    inv ∙ ap (choices p before) (conditionals_turn e n ws some ∙ ap (λ r. and_then r (choice_behind e (conditionals e (n - 1)))) none)

module _ (e : Rule) (w : Reading Inline) (p n : ℕ) (before : List Inline) (ws : List Word) (inv : w ≡ choices p before (conditionals e n ws)) (some : 0 < n)
    (rest now : List Word) (first : List Inline) (on : below first ≡ before) (read : level_at e 10 ws ≡ Some (top first, rest)) where
  pub conditionals-end : (after : List Inline) → Lacks Question rest → now ≡ rest → after ≡ chosen p first → w ≡ Some (top after, now)
  conditionals-end after lacks kept is =
      inv ∙ ap (choices p before) (conditionals_turn e n ws some ∙ then_some (level_at e 10 ws) (choice_behind e (conditionals e (n - 1))) (top first) rest read
      ∙ question_lacks e (conditionals e (n - 1)) (top first) rest lacks)
      ∙ ap (λ st. Some (top (chosen p (top first ∷ st)), rest)) (sym on) ∙ ap (λ x. Some (x, rest)) (chosen-top p first ∙ ap top (sym is))
      ∙ ap (λ r. Some (top after, r)) (sym kept)

  taken : rest ≡ mark Question ∷ now
      → conditionals e n ws ≡ and_then (and_then (e now) colon) (λ a behind. and_then (conditionals e (n - 1) behind)
      (λ b more. Some (over_three choice (top first) a b, more)))
  taken stood =
      conditionals_turn e n ws some ∙ then_some (level_at e 10 ws) (choice_behind e (conditionals e (n - 1))) (top first) rest read
      ∙ ap (choice_behind e (conditionals e (n - 1)) (top first)) stood

  pub conditionals-choiceless : rest ≡ mark Question ∷ now → e now ≡ None → w ≡ None
  conditionals-choiceless stood none =
      inv ∙ ap (choices p before) (taken stood
      ∙ ap (λ r. and_then (and_then r colon) (λ b after. and_then (conditionals e (n - 1) after) (λ d more. Some (over_three choice (top first) b d, more))))
      none)

  pub conditionals-unclosed : (a : Inline) (behind : List Word) → rest ≡ mark Question ∷ now → e now ≡ Some (a, behind) → Lacks Colon behind → w ≡ None
  conditionals-unclosed a behind stood inside lacks =
      inv ∙ ap (choices p before) (taken stood
      ∙ ap (λ r. and_then (and_then r colon) (λ b after. and_then (conditionals e (n - 1) after) (λ d more. Some (over_three choice (top first) b d, more))))
      inside
      ∙ ap (λ r. and_then r (λ b after. and_then (conditionals e (n - 1) after) (λ d more. Some (over_three choice (top first) b d, more))))
      (colon_lacks a behind lacks))

  pub conditionals-more : (behind after : List Word) (second : List Inline) → below second ≡ first → rest ≡ mark Question ∷ now
      → e now ≡ Some (top second, behind) → behind ≡ mark Colon ∷ after
      → w ≡ choices (p + 1) second (conditionals e (n - 1) after)
  conditionals-more behind after second on_that stood inside closed =
      inv ∙ ap (choices p before) (taken stood
      ∙ ap (λ r. and_then (and_then r colon) (λ b more. and_then (conditionals e (n - 1) more) (λ d last. Some (over_three choice (top first) b d, last))))
      inside
      ∙ ap (λ us. and_then (colon (top second) us) (λ b more. and_then (conditionals e (n - 1) more)
      (λ d last. Some (over_three choice (top first) b d, last)))) closed)
      ∙ choices-next p before first second on on_that (conditionals e (n - 1) after)

module _ (p : ℕ) (start before first : List Inline) (on : below first ≡ before) (inv : (x : Inline) → below (chosen p (x ∷ before)) ≡ start) where
  pub conditionals-below : (after : List Inline) → after ≡ chosen p first → below after ≡ start
  conditionals-below after is =
      ap below is ∙ sym (chosen-below p first) ∙ ap (λ st. below (chosen p (top first ∷ st))) on ∙ inv (top first)

  pub conditionals-below_more : (second : List Inline) → below second ≡ first → (x : Inline) → below (chosen (p + 1) (x ∷ second)) ≡ start
  conditionals-below_more second on_that x =
      ap below (sym (chosen-next p before first second on on_that x)) ∙ inv (over_three choice (top first) (top second) x)

-- what stands below two trees that an instruction joins
pub two-below : (start before second after : List Inline) → below before ≡ start → below second ≡ before → below after ≡ below (below second)
    → below after ≡ start
two-below start before second after rest on is = is ∙ ap below on ∙ rest

-- ---- lists ----

pub several-valueless : (e : Rule) (w : Reading Inline) (n : ℕ) (before : List Inline) (ws : List Word) → w ≡ extended (top before) (several e n ws) → 0 < n
    → e ws ≡ None → w ≡ None
several-valueless e w n before ws inv some none =
    inv ∙ ap (extended (top before)) (ap (λ m. several e m ws) (less n some) ∙ ap (λ r. and_then r (several_behind (several e (n - 1)))) none)

module _ (e : Rule) (w : Reading Inline) (n : ℕ) (before : List Inline) (ws : List Word) (inv : w ≡ extended (top before) (several e n ws)) (some : 0 < n)
    (second after : List Inline) (rest now : List Word) (on : below second ≡ before) (read : e ws ≡ Some (top second, rest))
    (pushed : after ≡ step instructions.Element second) where
  several_turn : several e n ws ≡ several_behind (several e (n - 1)) (top second) rest
  several_turn = ap (λ m. several e m ws) (less n some) ∙ ap (λ r. and_then r (several_behind (several e (n - 1)))) read

  top_after : with_element (top before) (top second) ≡ top after
  top_after = ap (λ st. with_element (top st) (top second)) (sym on) ∙ ap top (sym pushed)

  pub several-end : Lacks Comma rest → now ≡ rest → w ≡ Some (top after, now)
  several-end lacks kept =
      inv ∙ ap (extended (top before)) (several_turn ∙ comma_lacks (several e (n - 1)) (top second) rest lacks)
      ∙ ap (λ x. Some (x, rest)) top_after ∙ ap (λ r. Some (top after, r)) (sym kept)

  pub several-more : rest ≡ mark Comma ∷ now → w ≡ extended (top after) (several e (n - 1) now)
  several-more stood =
      inv ∙ ap (extended (top before)) (several_turn ∙ ap (several_behind (several e (n - 1)) (top second)) stood)
      ∙ extended-next (top before) (top second) (several e (n - 1) now) ∙ ap (λ x. extended x (several e (n - 1) now)) top_after

-- ---- definitions ----

assigned_first : {A B : Type 0} (f : A → List Word → Reading B) (a : A) (ws : List Word) → assigned (f a) ws ≡ and_then (assigned (λ more. Some (a, more)) ws) f
assigned_first f a [] = refl
assigned_first f a (plain t ∷ ws) = refl
assigned_first f a (quoted t ∷ ws) = refl
assigned_first f a (constant l ∷ ws) = refl
assigned_first f a (mark m ∷ ws) =
    elim m as (λ n. assigned (f a) (mark n ∷ ws) ≡ and_then (assigned (λ more. Some (a, more)) (mark n ∷ ws)) f) [ Assign ↦ refl | _ ↦ refl ]

defined_first : (f : List ℕ → List Word → Reading Defs) (ws : List Word) → and_then (name_at ws) (λ t rest. assigned (f t) rest) ≡ and_then (defined_at ws) f
defined_first f ws = by (name_at ws)
  where
    by : (r : Reading (List ℕ)) → and_then r (λ t rest. assigned (f t) rest) ≡ and_then (and_then r (λ t rest. assigned (λ more. Some (t, more)) rest)) f
    by None = refl
    by (Some read) = assigned_first f read.0 read.1

module _ (e : Rule) (w : Reading Inline) (n : ℕ) (before : List Inline) (ws : List Word) (inv : w ≡ completed (top before) (definitions_at e n ws))
    (some : 0 < n) where
  defined_turn : definitions_at e n ws ≡ and_then (defined_at ws) (λ t us. and_then (e us) (definitions_behind (definitions_at e (n - 1)) t))
  defined_turn =
      ap (λ m. definitions_at e m ws) (less n some)
      ∙ defined_first (λ t us. and_then (e us) (definitions_behind (definitions_at e (n - 1)) t)) ws

  pub definitions-unnamed : defined_at ws ≡ None → w ≡ None
  definitions-unnamed none =
      inv ∙ ap (completed (top before)) (defined_turn ∙ ap (λ r. and_then r (λ t us. and_then (e us) (definitions_behind (definitions_at e (n - 1)) t))) none)

  module _ (text : List ℕ) (more : List Word) (read : defined_at ws ≡ Some (text, more)) where
    assigned_turn : definitions_at e n ws ≡ and_then (e more) (definitions_behind (definitions_at e (n - 1)) text)
    assigned_turn = defined_turn ∙ ap (λ r. and_then r (λ t us. and_then (e us) (definitions_behind (definitions_at e (n - 1)) t))) read

    pub definitions-valueless : e more ≡ None → w ≡ None
    definitions-valueless none =
        inv ∙ ap (completed (top before)) (assigned_turn ∙ ap (λ r. and_then r (definitions_behind (definitions_at e (n - 1)) text)) none)

    module _ (second : List Inline) (behind : List Word) (value : e more ≡ Some (top second, behind)) where
      value_turn : definitions_at e n ws ≡ definitions_behind (definitions_at e (n - 1)) text (top second) behind
      value_turn = assigned_turn ∙ ap (λ r. and_then r (definitions_behind (definitions_at e (n - 1)) text)) value

      pub definitions-stopped : definitions_behind (definitions_at e (n - 1)) text (top second) behind ≡ None → w ≡ None
      definitions-stopped none = inv ∙ ap (completed (top before)) (value_turn ∙ none)

      module _ (after : List Inline) (now : List Word) (on : below second ≡ before) (pushed : after ≡ step (instructions.Define text) second) where
        defined_after : with_definition (top before) text (top second) ≡ top after
        defined_after = ap (λ st. with_definition (top st) text (top second)) (sym on) ∙ ap top (sym pushed)

        pub definitions-end : definitions_behind (definitions_at e (n - 1)) text (top second) behind ≡ Some (def text (top second) no_defs, now)
            → w ≡ Some (top after, now)
        definitions-end closes = inv ∙ ap (completed (top before)) (value_turn ∙ closes) ∙ ap (λ x. Some (x, now)) defined_after

        pub definitions-more : definitions_behind (definitions_at e (n - 1)) text (top second) behind
            ≡ and_then (definitions_at e (n - 1) now) (λ ds us. Some (def text (top second) ds, us))
            → w ≡ completed (top after) (definitions_at e (n - 1) now)
        definitions-more goes =
            inv ∙ ap (completed (top before)) (value_turn ∙ goes) ∙ completed-next (top before) (top second) text (definitions_at e (n - 1) now)
            ∙ ap (λ x. completed x (definitions_at e (n - 1) now)) defined_after

-- ---- suffixes ----

module _ (e : Rule) (w : Reading Inline) (n : ℕ) (before : List Inline) (ws : List Word) (inv : w ≡ suffixes e n (top before) ws) (some : 0 < n) where
  suffixes_turn : suffixes e n (top before) ws ≡ suffixes e (suc (n - 1)) (top before) ws
  suffixes_turn = ap (λ m. suffixes e m (top before) ws) (less n some)

  select_first : (rest : List Word) → suffixes e (suc (n - 1)) (top before) (mark Dot ∷ rest) ≡ and_then (selected (top before) rest) (suffixes e (n - 1))
  select_first rest = by (name_at rest)
    where
      by : (r : Reading (List ℕ))
          → and_then r (λ t. suffixes e (n - 1) (over_one (select t) (top before)))
          ≡ and_then (and_then r (λ t us. Some (over_one (select t) (top before), us))) (suffixes e (n - 1))
      by None = refl
      by (Some read) = refl

  module _ (rest : List Word) (stood : ws ≡ mark Dot ∷ rest) where
    select_turn : w ≡ and_then (selected (top before) rest) (suffixes e (n - 1))
    select_turn = inv ∙ suffixes_turn ∙ ap (suffixes e (suc (n - 1)) (top before)) stood ∙ select_first rest

    pub suffixes-select : (after : List Inline) (now : List Word) → selected (top before) rest ≡ Some (top after, now) → w ≡ suffixes e (n - 1) (top after) now
    suffixes-select after now read = select_turn ∙ ap (λ r. and_then r (suffixes e (n - 1))) read

    pub suffixes-unselected : selected (top before) rest ≡ None → w ≡ None
    suffixes-unselected none = select_turn ∙ ap (λ r. and_then r (suffixes e (n - 1))) none

  pub suffixes-end : (between now : List Word) → Lacks Dot ws → between ≡ ws → Lacks OpenBracket between → now ≡ between → w ≡ Some (top before, now)
  suffixes-end between now no_dot kept no_bracket kept_too =
      inv ∙ suffixes_turn ∙ suffixes_suc e (n - 1) (top before) ws no_dot (λ rest is. no_bracket rest (kept ∙ is))
      ∙ ap (λ r. Some (top before, r)) (sym kept ∙ sym kept_too)

  module _ (between rest : List Word) (kept : between ≡ ws) (stood : between ≡ mark OpenBracket ∷ rest) where
    bracket_turn : suffixes e n (top before) ws ≡ and_then (and_then (e rest) close_bracket) (λ y. suffixes e (n - 1) (over_two subscript (top before) y))
    bracket_turn = suffixes_turn ∙ ap (suffixes e (suc (n - 1)) (top before)) (sym kept ∙ stood)

    pub suffixes-placeless : e rest ≡ None → w ≡ None
    suffixes-placeless none =
        inv ∙ bracket_turn ∙ ap (λ r. and_then (and_then r close_bracket) (λ y. suffixes e (n - 1) (over_two subscript (top before) y))) none

    pub suffixes-broken : (behind : List Word) (y : Inline) → e rest ≡ Some (y, behind) → Lacks CloseBracket behind → w ≡ None
    suffixes-broken behind y read lacks =
        inv ∙ bracket_turn
        ∙ ap (λ r. and_then (and_then r close_bracket) (λ v. suffixes e (n - 1) (over_two subscript (top before) v))) read
        ∙ ap (λ r. and_then r (λ v. suffixes e (n - 1) (over_two subscript (top before) v))) (bracket_lacks y behind lacks)

    pub suffixes-subscript : (behind now : List Word) (second after : List Inline) → below second ≡ before → e rest ≡ Some (top second, behind)
        → behind ≡ mark CloseBracket ∷ now
        → after ≡ step instructions.Subscript second → w ≡ suffixes e (n - 1) (top after) now
    suffixes-subscript behind now second after on read closed is =
        inv ∙ bracket_turn
        ∙ ap (λ r. and_then (and_then r close_bracket) (λ v. suffixes e (n - 1) (over_two subscript (top before) v))) read
        ∙ ap (λ us. and_then (close_bracket (top second) us) (λ v. suffixes e (n - 1) (over_two subscript (top before) v))) closed
        ∙ ap (λ st. suffixes e (n - 1) (over_two subscript (top st) (top second)) now) (sym on)
        ∙ ap (λ st. suffixes e (n - 1) (top st) now) (sym is)
