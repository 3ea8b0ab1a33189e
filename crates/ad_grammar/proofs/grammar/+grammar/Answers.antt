use Rattle.std.proofs.Common.{refl, arith, ◌≡◌, ◌+◌, ◌-◌, suc, true, false, ◌∷◌, List, length, Some, Ok, Err, ap, sym, ◌∙◌}
use Rattle.ad_grammar.specs.Levels.{climb}
use Rattle.ad_tree.specs.Inline.{Inline}
use Rattle.ad_builder.specs.Machine.{stack, top, below}
use Rattle.ad_grammar.specs.Rules as rules
use Rattle.ad_grammar.specs.Steps.{left, extended, completed, ContinuesOk}
use Rattle.ad_grammar.specs.Words.{mark as mark_word}
use Rattle.ad_grammar.proofs.MachineLemmas.{choices, choices-nil}
use Rattle.ad_grammar.proofs.RuleLemmas.{less, puts-ok, stops-now, puts-expected, reputs, stops-here, stops-by, stops-full, arguments-unread, arguments-broken}
use Rattle.ad_grammar.proofs.RuleLemmas.{arguments-closed, elements-unread, elements-broken, elements-closed, list-begun, ad-begun, paren-none, paren-closed}
use Rattle.ad_grammar.proofs.RuleLemmas.{paren-broken, primary-none, postfix-none, postfix-alone, conditionals-operandless, conditionals-choiceless}
use Rattle.ad_grammar.proofs.RuleLemmas.{conditionals-end, conditionals-unclosed, conditionals-more, conditionals-below, conditionals-below_more, two-below}
use Rattle.ad_grammar.proofs.RuleLemmas.{several-valueless, several-end, several-more, definitions-unnamed, definitions-valueless, definitions-stopped}
use Rattle.ad_grammar.proofs.RuleLemmas.{definitions-end, definitions-more, suffixes-end, suffixes-select, suffixes-unselected, suffixes-placeless}
use Rattle.ad_grammar.proofs.RuleLemmas.{suffixes-broken, suffixes-subscript}
use Rattle.ad_grammar.proofs.LevelLemmas.{level-climbed, level-none, climb-end, climb-operandless, climb-shorter, climb-more}
use Rattle.ad_grammar.proofs.grammar.+grammar.Goals as goal

pub expression-returns : goal.expression-returns
expression-returns t c =
    let ws = left c.args.reader.now in
    let us = left c.lone.new.reader in
    let st = stack c.args.machine.now in
    let none = ap Ok c.if-branch.false in
    reputs (rules.expression c.args.fuel ws) (left c.conditionals.new.reader) st (stack c.conditionals.new.machine) c.conditionals.result
    (rules.conditionals (rules.expression (c.args.fuel - 1)) (suc (length us)) us) (stack c.lone.new.machine)
    (ap (λ n. rules.expression n ws) (less c.args.fuel (omega (arith, c.if-fuel-eq0.false)))
    ∙ ap (rules.expression (suc (c.args.fuel - 1))) (sym (c.in_ok-lone.ensures.kept none)))
    (c.in_ok-lone.ensures.same none) c.conditionals.ensures

pub level-returns-in_err-prefixes : goal.level-returns-in_err-prefixes
level-returns-in_err-prefixes t c =
    let e = rules.expression c.args.fuel in
    let ws = left c.args.reader.now in
    let k = c.args.precedence in
    stops-by (rules.level_at e k ws) (left c.prefixes.new.reader) (stack c.args.machine.now) (stack c.prefixes.new.machine)
    c.from_residual.result c.in_err-prefixes.field-0.0 c.from_residual.ensures.0 c.from_residual.ensures.1
    (λ stop. level-none e k ws (c.in_err-prefixes.ensures.none (ap Err stop)))

pub level-returns : goal.level-returns
level-returns t c =
    let e = rules.expression c.args.fuel in
    let ws = left c.args.reader.now in
    let k = c.args.precedence in
    let first = stack c.prefixes.new.machine in
    reputs (rules.level_at e k ws) (left c.climb.new.reader) (stack c.args.machine.now) (stack c.climb.new.machine) c.climb.result
    (climb e 0 k (top first) (left c.prefixes.new.reader)) (below first)
    (level-climbed e k ws (left c.prefixes.new.reader) (top first) (c.in_ok-prefixes.ensures.ok c.in_ok-prefixes.field-0 refl))
    (c.in_ok-prefixes.ensures.on c.in_ok-prefixes.field-0 refl) c.climb.ensures

pub climb-returns : goal.climb-returns
climb-returns t c =
    let start = stack c.args.machine.now in
    let before = stack c.loop-next.machine in
    let w = climb (rules.expression c.args.fuel) 0 c.args.precedence (top start) (left c.args.reader.now) in
    let now = left c.operator.new.self in
    puts-ok w now (below start) before tt
    (climb-end c.args.fuel w c.loop-next.reached c.args.precedence before (left c.loop-next.reader) c.loop-next.invariant.read now
    c.loop-next.invariant.within (c.in_default.ensures.none refl) (c.in_default.ensures.kept refl))
    c.loop-next.invariant.rest

pub climb-returns-in_err-level : goal.climb-returns-in_err-level
climb-returns-in_err-level t c =
    let start = stack c.args.machine.now in
    let w = climb (rules.expression c.args.fuel) 0 c.args.precedence (top start) (left c.args.reader.now) in
    let found = c.in-Some.ensures.within in
    stops-by w (left c.level.new.reader) (below start) (stack c.level.new.machine)
    c.from_residual.result c.in_err-level.field-0.0 c.from_residual.ensures.0 c.from_residual.ensures.1
    (λ stop. climb-operandless c.args.fuel w c.loop-next.reached c.args.precedence (stack c.loop-next.machine) (left c.loop-next.reader)
    c.loop-next.invariant.read
    c.in-Some.next c.in-Some.operator (left c.operator.new.self) found.0 found.1 (c.in-Some.ensures.taken c.in-Some.next c.in-Some.operator refl)
    (c.in_err-level.ensures.none (ap Err stop)))

pub climb-loop-next-preserved : goal.climb-loop-next-preserved
climb-loop-next-preserved t c =
    let start = stack c.args.machine.now in
    let before = stack c.loop-next.machine in
    let second = stack c.level.new.machine in
    let after = stack c.push.new.self in
    let w = climb (rules.expression c.args.fuel) 0 c.args.precedence (top start) (left c.args.reader.now) in
    let found = c.in-Some.ensures.within in
    let right = c.in_ok-level.ensures in
    let on = right.on c.in_ok-level.field-0 refl in
    record {
      read = climb-more c.args.fuel w c.loop-next.reached c.args.precedence before (left c.loop-next.reader) c.loop-next.invariant.read
          c.in-Some.next c.in-Some.operator (left c.operator.new.self) found.0 found.1 (c.in-Some.ensures.taken c.in-Some.next c.in-Some.operator refl)
          second after (left c.level.new.reader) (right.ok c.in_ok-level.field-0 refl) on c.in_ok-push.ensures.ok;
      rest = two-below (below start) before second after c.loop-next.invariant.rest on (ap below c.in_ok-push.ensures.ok);
      within = omega (arith, found.1);
    }

pub climb-loop-next-smaller : goal.climb-loop-next-smaller
climb-loop-next-smaller t c =
    let start = stack c.args.machine.now in
    let before = stack c.loop-next.machine in
    let w = climb (rules.expression c.args.fuel) 0 c.args.precedence (top start) (left c.args.reader.now) in
    let found = c.in-Some.ensures.within in
    let right = c.in_ok-level.ensures in
    climb-shorter c.args.fuel w c.loop-next.reached c.args.precedence before (left c.loop-next.reader) c.loop-next.invariant.read
    c.in-Some.next c.in-Some.operator (left c.operator.new.self) found.0 found.1 (c.in-Some.ensures.taken c.in-Some.next c.in-Some.operator refl)
    (stack c.level.new.machine) (stack c.push.new.self) (left c.level.new.reader) (right.ok c.in_ok-level.field-0 refl)

pub conditionals-returns-then-not-takes : goal.conditionals-returns-then-not-takes
conditionals-returns-then-not-takes t c =
    let e = rules.expression c.args.fuel in
    let ws = left c.args.reader.now in
    let w = rules.conditionals e (suc (length ws)) ws in
    let start = stack c.args.machine.now in
    let before = stack c.loop-turns.machine in
    let first = stack c.level.new.machine in
    let after = stack c.choose.new.self in
    let p = c.loop-turns.pending in
    let level = c.in_ok-level.ensures in
    let on = level.on c.in_ok-level.field-0 refl in
    puts-ok w (left c.takes.new.self) start after c.in_ok-choose.field-0
    (conditionals-end e w p c.loop-turns.turns before (left c.loop-turns.reader) c.loop-turns.invariant.read c.loop-turns-test.true
    (left c.level.new.reader) (left c.takes.new.self) first on (level.ok c.in_ok-level.field-0 refl)
    after (c.takes.ensures.other c.if-not-takes.true) (c.takes.ensures.kept c.if-not-takes.true) c.in_ok-choose.ensures)
    (conditionals-below p start before first on c.loop-turns.invariant.rest after c.in_ok-choose.ensures)

pub conditionals-returns-in_err-expect : goal.conditionals-returns-in_err-expect
conditionals-returns-in_err-expect t c =
    let e = rules.expression c.args.fuel in
    let ws = left c.args.reader.now in
    let w = rules.conditionals e (suc (length ws)) ws in
    let before = stack c.loop-turns.machine in
    let first = stack c.level.new.machine in
    let second = stack c.expression.new.machine in
    let level = c.in_ok-level.ensures in
    let inside = c.in_ok-expression.ensures in
    stops-here w (left c.expect.new.self) (stack c.args.machine.now) second c.from_residual-in_err-expect.result c.from_residual-in_err-expect.ensures.0
    (conditionals-unclosed e w c.loop-turns.pending c.loop-turns.turns before (left c.loop-turns.reader) c.loop-turns.invariant.read c.loop-turns-test.true
    (left c.level.new.reader) (left c.takes.new.self) first (level.on c.in_ok-level.field-0 refl) (level.ok c.in_ok-level.field-0 refl)
    (top second) (left c.expression.new.reader) (c.takes.ensures.taken c.if-not-takes.false)
    (inside.ok c.in_ok-expression.field-0 refl) (c.in_err-expect.ensures.none _ refl))

pub conditionals-loop-turns-preserved : goal.conditionals-loop-turns-preserved
conditionals-loop-turns-preserved t c =
    let e = rules.expression c.args.fuel in
    let ws = left c.args.reader.now in
    let w = rules.conditionals e (suc (length ws)) ws in
    let start = stack c.args.machine.now in
    let before = stack c.loop-turns.machine in
    let first = stack c.level.new.machine in
    let second = stack c.expression.new.machine in
    let p = c.loop-turns.pending in
    let level = c.in_ok-level.ensures in
    let inside = c.in_ok-expression.ensures in
    let on = level.on c.in_ok-level.field-0 refl in
    let on_that = inside.on c.in_ok-expression.field-0 refl in
    record {
      read = conditionals-more e w p c.loop-turns.turns before (left c.loop-turns.reader) c.loop-turns.invariant.read c.loop-turns-test.true
          (left c.level.new.reader) (left c.takes.new.self) first on (level.ok c.in_ok-level.field-0 refl)
          (left c.expression.new.reader) (left c.expect.new.self) second on_that (c.takes.ensures.taken c.if-not-takes.false)
          (inside.ok c.in_ok-expression.field-0 refl) (c.in_ok-expect.ensures.ok _ refl);
      rest = conditionals-below_more p start before first on c.loop-turns.invariant.rest second on_that;
      few = omega (arith, c.loop-turns.invariant.few, c.loop-turns-test.true);
    }

pub arguments-returns : goal.arguments-returns
arguments-returns t c =
    let e = rules.expression c.args.fuel in
    let ws = left c.args.reader.now in
    let x = top (stack c.args.machine.now) in
    let now = left c.takes.new.self in
    let last = stack c.several.new.machine in
    let read = c.in_ok-several.ensures.ok c.in_ok-several.field-0 refl in
    let other = c.takes.ensures.other c.if-takes.false in
    let kept = c.takes.ensures.kept c.if-takes.false in
    puts-expected (extended x (rules.arguments e ws)) (left c.expect.new.self) (below (stack c.args.machine.now)) last c.expect.result
    (λ done is. arguments-closed e x ws now other kept (top last) (left c.several.new.reader) read (left c.expect.new.self) (c.expect.ensures.ok done is))
    (c.in_ok-several.ensures.on c.in_ok-several.field-0 refl)
    (λ stop is. arguments-broken e x ws now other kept (top last) (left c.several.new.reader) read (c.expect.ensures.none stop is))

pub elements-returns : goal.elements-returns
elements-returns t c =
    let e = rules.expression c.args.fuel in
    let ws = left c.args.reader.now in
    let x = top (stack c.args.machine.now) in
    let now = left c.takes.new.self in
    let last = stack c.several.new.machine in
    let read = c.in_ok-several.ensures.ok c.in_ok-several.field-0 refl in
    let other = c.takes.ensures.other c.if-takes.false in
    let kept = c.takes.ensures.kept c.if-takes.false in
    puts-expected (extended x (rules.elements e ws)) (left c.expect.new.self) (below (stack c.args.machine.now)) last c.expect.result
    (λ done is. elements-closed e x ws now other kept (top last) (left c.several.new.reader) read (left c.expect.new.self) (c.expect.ensures.ok done is))
    (c.in_ok-several.ensures.on c.in_ok-several.field-0 refl)
    (λ stop is. elements-broken e x ws now other kept (top last) (left c.several.new.reader) read (c.expect.ensures.none stop is))

pub marked-returns-in_ok-push-in-OpenBrace : goal.marked-returns-in_ok-push-in-OpenBrace
marked-returns-in_ok-push-in-OpenBrace t c =
    let e = rules.expression c.args.fuel in
    let ws = left c.args.reader.now in
    let st = stack c.args.machine.now in
    let pushed = stack c.push.new.self in
    let put = c.in_ok-push-in-OpenBrace.ensures.ok in
    reputs (rules.primary e (mark_word c.args.mark ∷ ws)) (left c.elements.new.reader) st (stack c.elements.new.machine) c.elements.result
    (extended (top pushed) (rules.elements e ws)) (below pushed)
    (list-begun e c.args.mark ws st pushed c.in-OpenBrace.is put) (ap below put) c.elements.ensures

pub marked-returns-in_ok-push-in-OpenBracket-2 : goal.marked-returns-in_ok-push-in-OpenBracket-2
marked-returns-in_ok-push-in-OpenBracket-2 t c =
    let e = rules.expression c.args.fuel in
    let ws = left c.args.reader.now in
    let st = stack c.args.machine.now in
    let pushed = stack c.push-in-OpenBracket.new.self in
    let put = c.in_ok-push-in-OpenBracket.ensures.ok in
    let read = c.in_ok-definitions-in-OpenBracket.ensures in
    let closed = c.in_ok-push-in-OpenBracket-2.ensures.ok in
    let rest = left c.definitions.new.reader in
    let last = stack c.push-in-OpenBracket-2.new.self in
    puts-ok (rules.primary e (mark_word c.args.mark ∷ ws)) rest st last c.in_ok-push-in-OpenBracket-2.field-0
    (ad-begun e c.args.mark ws st pushed c.in-OpenBracket.is put ∙ read.ok c.in_ok-definitions-in-OpenBracket.field-0 refl
    ∙ ap (λ s. Some (top s, rest)) (sym closed))
    (ap below closed ∙ read.on c.in_ok-definitions-in-OpenBracket.field-0 refl ∙ ap below put)

pub primary-returns-in-Some : goal.primary-returns-in-Some
primary-returns-in-Some t c =
    let e = rules.expression c.args.fuel in
    let st = stack c.args.machine.now in
    reputs (rules.primary e (left c.args.reader.now)) (left c.marked.new.reader) st (stack c.marked.new.machine) c.marked.result
    (rules.primary e (mark_word c.in-Some.mark ∷ left c.take_mark.new.self)) st
    (ap (rules.primary e) (c.in-Some.ensures.some c.in-Some.mark refl)) refl c.marked.ensures

pub primary-returns-then-branch : goal.primary-returns-then-branch
primary-returns-then-branch t c =
    let e = rules.expression c.args.fuel in
    let begun = c.in_ok-worded.ensures in
    let pushed = stack c.worded.new.machine in
    reputs (rules.primary e (left c.args.reader.now)) (left c.arguments.new.reader) (stack c.args.machine.now) (stack c.arguments.new.machine)
    c.arguments.result
    (extended (top pushed) (rules.arguments e (left c.worded.new.reader))) (below pushed)
    (ap (rules.primary e) (sym (c.in_default.ensures.kept refl)) ∙ begun.call (ap Ok c.if-branch.true) e)
    (begun.on c.in_ok-worded.field-0 refl) c.arguments.ensures

pub primary-returns : goal.primary-returns
primary-returns t c =
    let e = rules.expression c.args.fuel in
    let begun = c.in_ok-worded.ensures in
    puts-ok (rules.primary e (left c.args.reader.now)) (left c.worded.new.reader) (stack c.args.machine.now) (stack c.worded.new.machine) tt
    (ap (rules.primary e) (sym (c.in_default.ensures.kept refl)) ∙ begun.whole (ap Ok c.if-branch.false) e)
    (begun.on c.in_ok-worded.field-0 refl)

pub primary-returns-in_err-worded : goal.primary-returns-in_err-worded
primary-returns-in_err-worded t c =
    let e = rules.expression c.args.fuel in
    stops-by (rules.primary e (left c.args.reader.now)) (left c.worded.new.reader) (stack c.args.machine.now) (stack c.worded.new.machine)
    c.from_residual.result c.in_err-worded.field-0.0 c.from_residual.ensures.0 c.from_residual.ensures.1
    (λ stop. ap (rules.primary e) (sym (c.in_default.ensures.kept refl)) ∙ c.in_err-worded.ensures.none (ap Err stop) e)

pub several-returns-then-not-takes : goal.several-returns-then-not-takes
several-returns-then-not-takes t c =
    let e = rules.expression c.args.fuel in
    let ws = left c.args.reader.now in
    let start = stack c.args.machine.now in
    let w = extended (top start) (rules.several e (length ws) ws) in
    let before = stack c.loop-turns.machine in
    let added = c.in_ok-element.ensures.ok c.in_ok-element.field-0 refl in
    let second : List Inline = added.0 ∷ before in
    let after = stack c.element.new.machine in
    puts-ok w (left c.takes.new.self) (below start) after tt
    (several-end e w c.loop-turns.turns before (left c.loop-turns.reader) c.loop-turns.invariant.read c.loop-turns-test.true
    second after (left c.element.new.reader) (left c.takes.new.self) refl added.1 added.2
    (c.takes.ensures.other c.if-not-takes.true) (c.takes.ensures.kept c.if-not-takes.true))
    (two-below (below start) before second after c.loop-turns.invariant.rest refl (ap below added.2))

pub several-loop-turns-preserved : goal.several-loop-turns-preserved
several-loop-turns-preserved t c =
    let e = rules.expression c.args.fuel in
    let ws = left c.args.reader.now in
    let start = stack c.args.machine.now in
    let w = extended (top start) (rules.several e (length ws) ws) in
    let before = stack c.loop-turns.machine in
    let added = c.in_ok-element.ensures.ok c.in_ok-element.field-0 refl in
    let second : List Inline = added.0 ∷ before in
    let after = stack c.element.new.machine in
    record {
      read = several-more e w c.loop-turns.turns before (left c.loop-turns.reader) c.loop-turns.invariant.read c.loop-turns-test.true
          second after (left c.element.new.reader) (left c.takes.new.self) refl added.1 added.2
          (c.takes.ensures.taken c.if-not-takes.false);
      rest = two-below (below start) before second after c.loop-turns.invariant.rest refl (ap below added.2);
    }

pub some_definitions-returns-in_err-name : goal.some_definitions-returns-in_err-name
some_definitions-returns-in_err-name t c =
    let e = rules.expression c.args.fuel in
    let ws = left c.args.reader.now in
    let start = stack c.args.machine.now in
    let w = completed (top start) (rules.definitions_at e (length ws) ws) in
    let before = stack c.loop-turns.machine in
    let n = c.loop-turns.turns in
    stops-by w (left c.defined.new.reader) (below start) before c.from_residual.result c.in_err-name.field-0.0 c.from_residual.ensures.0
    c.from_residual.ensures.1
    (λ stop. definitions-unnamed e w n before (left c.loop-turns.reader) c.loop-turns.invariant.read c.loop-turns-test.true
    (c.in_err-name.ensures.none (ap Err stop)))

pub some_definitions-returns-in_err-expression : goal.some_definitions-returns-in_err-expression
some_definitions-returns-in_err-expression t c =
    let e = rules.expression c.args.fuel in
    let ws = left c.args.reader.now in
    let start = stack c.args.machine.now in
    let w = completed (top start) (rules.definitions_at e (length ws) ws) in
    let before = stack c.loop-turns.machine in
    let n = c.loop-turns.turns in
    stops-by w (left c.expression.new.reader) (below start) (stack c.expression.new.machine) c.from_residual-in_err-expression.result
    c.in_err-expression.field-0.0
    c.from_residual-in_err-expression.ensures.0 c.from_residual-in_err-expression.ensures.1
    (λ stop. definitions-valueless e w n before (left c.loop-turns.reader) c.loop-turns.invariant.read c.loop-turns-test.true
    c.in_ok-name.name (left c.defined.new.reader) (c.in_ok-name.ensures.ok c.in_ok-name.name refl) (c.in_err-expression.ensures.none (ap Err stop)))

pub some_definitions-returns-in_err-finished : goal.some_definitions-returns-in_err-finished
some_definitions-returns-in_err-finished t c =
    let e = rules.expression c.args.fuel in
    let ws = left c.args.reader.now in
    let start = stack c.args.machine.now in
    let w = completed (top start) (rules.definitions_at e (length ws) ws) in
    let before = stack c.loop-turns.machine in
    let n = c.loop-turns.turns in
    let second = stack c.expression.new.machine in
    let value = c.in_ok-expression.ensures in
    let after = stack c.finished.new.machine in
    stops-by w (left c.finished.new.reader) (below start) after c.from_residual-in_err-finished.result c.in_err-finished.field-0.0
    c.from_residual-in_err-finished.ensures.0 c.from_residual-in_err-finished.ensures.1
    (λ stop. definitions-stopped e w n before (left c.loop-turns.reader) c.loop-turns.invariant.read c.loop-turns-test.true
    c.in_ok-name.name (left c.defined.new.reader) (c.in_ok-name.ensures.ok c.in_ok-name.name refl) second (left c.expression.new.reader)
    (value.ok c.in_ok-expression.field-0 refl)
    (c.in_err-finished.ensures.marks.none (ap Err stop) (rules.definitions_at e (n - 1)) c.in_ok-name.name (top second)))

pub some_definitions-returns-then-not-branch : goal.some_definitions-returns-then-not-branch
some_definitions-returns-then-not-branch t c =
    let e = rules.expression c.args.fuel in
    let ws = left c.args.reader.now in
    let start = stack c.args.machine.now in
    let w = completed (top start) (rules.definitions_at e (length ws) ws) in
    let before = stack c.loop-turns.machine in
    let n = c.loop-turns.turns in
    let second = stack c.expression.new.machine in
    let value = c.in_ok-expression.ensures in
    let after = stack c.finished.new.machine in
    let on = value.on c.in_ok-expression.field-0 refl in
    let put = c.in_ok-finished.ensures.defined c.in_ok-finished.field-0 refl in
    let closes : ContinuesOk (left c.expression.new.reader) false (left c.finished.new.reader) =
    c.in_ok-finished.ensures.marks.ok false (ap Ok c.if-not-branch.true) in
    puts-ok w (left c.finished.new.reader) (below start) after tt
    (definitions-end e w n before (left c.loop-turns.reader) c.loop-turns.invariant.read c.loop-turns-test.true
    c.in_ok-name.name (left c.defined.new.reader) (c.in_ok-name.ensures.ok c.in_ok-name.name refl) second (left c.expression.new.reader)
    (value.ok c.in_ok-expression.field-0 refl)
    after (left c.finished.new.reader) on put (closes (rules.definitions_at e (n - 1)) c.in_ok-name.name (top second)))
    (two-below (below start) before second after c.loop-turns.invariant.rest on (ap below put))

pub some_definitions-loop-turns-preserved : goal.some_definitions-loop-turns-preserved
some_definitions-loop-turns-preserved t c =
    let e = rules.expression c.args.fuel in
    let ws = left c.args.reader.now in
    let start = stack c.args.machine.now in
    let w = completed (top start) (rules.definitions_at e (length ws) ws) in
    let before = stack c.loop-turns.machine in
    let n = c.loop-turns.turns in
    let second = stack c.expression.new.machine in
    let value = c.in_ok-expression.ensures in
    let after = stack c.finished.new.machine in
    let on = value.on c.in_ok-expression.field-0 refl in
    let put = c.in_ok-finished.ensures.defined c.in_ok-finished.field-0 refl in
    let goes : ContinuesOk (left c.expression.new.reader) true (left c.finished.new.reader) =
    c.in_ok-finished.ensures.marks.ok true (ap Ok c.if-not-branch.false) in
    record {
      read = definitions-more e w n before (left c.loop-turns.reader) c.loop-turns.invariant.read c.loop-turns-test.true
          c.in_ok-name.name (left c.defined.new.reader) (c.in_ok-name.ensures.ok c.in_ok-name.name refl) second (left c.expression.new.reader)
          (value.ok c.in_ok-expression.field-0 refl)
          after (left c.finished.new.reader) on put (goes (rules.definitions_at e (n - 1)) c.in_ok-name.name (top second));
      rest = two-below (below start) before second after c.loop-turns.invariant.rest on (ap below put);
    }

pub suffixes-returns-in_err-selection : goal.suffixes-returns-in_err-selection
suffixes-returns-in_err-selection t c =
    let e = rules.expression c.args.fuel in
    let ws = left c.args.reader.now in
    let start = stack c.args.machine.now in
    let w = rules.suffixes e (length ws) (top start) ws in
    let before = stack c.loop-turns.machine in
    stops-by w (left c.selection.new.reader) (below start) (stack c.selection.new.machine) c.from_residual.result c.in_err-selection.field-0.0
    c.from_residual.ensures.0 c.from_residual.ensures.1
    (λ stop. suffixes-unselected e w c.loop-turns.turns before (left c.loop-turns.reader) c.loop-turns.invariant.read c.loop-turns-test.true
    (left c.takes.new.self) (c.takes.ensures.taken c.if-takes.true) (c.in_err-selection.ensures.none (ap Err stop)))

pub suffixes-loop-turns-preserved-in-Continue-1 : goal.suffixes-loop-turns-preserved-in-Continue-1
suffixes-loop-turns-preserved-in-Continue-1 t c =
    let e = rules.expression c.args.fuel in
    let ws = left c.args.reader.now in
    let start = stack c.args.machine.now in
    let w = rules.suffixes e (length ws) (top start) ws in
    let before = stack c.loop-turns.machine in
    let after = stack c.selection.new.machine in
    let chosen = c.in_ok-selection.ensures in
    record {
      read = suffixes-select e w c.loop-turns.turns before (left c.loop-turns.reader) c.loop-turns.invariant.read c.loop-turns-test.true
          (left c.takes.new.self) (c.takes.ensures.taken c.if-takes.true) after (left c.selection.new.reader) (chosen.ok c.in_ok-selection.field-0 refl);
      rest = chosen.on c.in_ok-selection.field-0 refl ∙ c.loop-turns.invariant.rest;
    }

pub suffixes-returns-in_err-expression : goal.suffixes-returns-in_err-expression
suffixes-returns-in_err-expression t c =
    let e = rules.expression c.args.fuel in
    let ws = left c.args.reader.now in
    let start = stack c.args.machine.now in
    let w = rules.suffixes e (length ws) (top start) ws in
    let before = stack c.loop-turns.machine in
    stops-by w (left c.expression.new.reader) (below start) (stack c.expression.new.machine) c.from_residual-in_err-expression.result
    c.in_err-expression.field-0.0
    c.from_residual-in_err-expression.ensures.0 c.from_residual-in_err-expression.ensures.1
    (λ stop. suffixes-placeless e w c.loop-turns.turns before (left c.loop-turns.reader) c.loop-turns.invariant.read c.loop-turns-test.true
    (left c.takes.new.self) (left c.takes-else-takes.new.self) (c.takes.ensures.kept c.if-takes.false) (c.takes-else-takes.ensures.taken c.if-takes-2.true)
    (c.in_err-expression.ensures.none (ap Err stop)))

pub suffixes-returns-in_err-expect : goal.suffixes-returns-in_err-expect
suffixes-returns-in_err-expect t c =
    let e = rules.expression c.args.fuel in
    let ws = left c.args.reader.now in
    let start = stack c.args.machine.now in
    let w = rules.suffixes e (length ws) (top start) ws in
    let before = stack c.loop-turns.machine in
    let between = left c.takes.new.self in
    let place = stack c.expression.new.machine in
    stops-here w (left c.expect.new.self) (below start) place c.from_residual-in_err-expect.result c.from_residual-in_err-expect.ensures.0
    (suffixes-broken e w c.loop-turns.turns before (left c.loop-turns.reader) c.loop-turns.invariant.read c.loop-turns-test.true
    between (left c.takes-else-takes.new.self)
    (c.takes.ensures.kept c.if-takes.false) (c.takes-else-takes.ensures.taken c.if-takes-2.true) (left c.expression.new.reader) (top place)
    (c.in_ok-expression.ensures.ok c.in_ok-expression.field-0 refl) (c.in_err-expect.ensures.none _ refl))

pub suffixes-returns-else-takes-2 : goal.suffixes-returns-else-takes-2
suffixes-returns-else-takes-2 t c =
    let e = rules.expression c.args.fuel in
    let ws = left c.args.reader.now in
    let start = stack c.args.machine.now in
    let w = rules.suffixes e (length ws) (top start) ws in
    let before = stack c.loop-turns.machine in
    let between = left c.takes.new.self in
    puts-ok w (left c.takes-else-takes.new.self) (below start) before tt
    (suffixes-end e w c.loop-turns.turns before (left c.loop-turns.reader) c.loop-turns.invariant.read c.loop-turns-test.true
    between (left c.takes-else-takes.new.self) (c.takes.ensures.other c.if-takes.false) (c.takes.ensures.kept c.if-takes.false)
    (c.takes-else-takes.ensures.other c.if-takes-2.false) (c.takes-else-takes.ensures.kept c.if-takes-2.false))
    c.loop-turns.invariant.rest

pub suffixes-loop-turns-preserved : goal.suffixes-loop-turns-preserved
suffixes-loop-turns-preserved t c =
    let e = rules.expression c.args.fuel in
    let ws = left c.args.reader.now in
    let start = stack c.args.machine.now in
    let w = rules.suffixes e (length ws) (top start) ws in
    let before = stack c.loop-turns.machine in
    let between = left c.takes.new.self in
    let place = stack c.expression.new.machine in
    let after = stack c.push.new.self in
    let on = c.in_ok-expression.ensures.on c.in_ok-expression.field-0 refl in
    record {
      read = suffixes-subscript e w c.loop-turns.turns before (left c.loop-turns.reader) c.loop-turns.invariant.read c.loop-turns-test.true
          between (left c.takes-else-takes.new.self)
          (c.takes.ensures.kept c.if-takes.false) (c.takes-else-takes.ensures.taken c.if-takes-2.true) (left c.expression.new.reader) (left c.expect.new.self)
          place after on (c.in_ok-expression.ensures.ok c.in_ok-expression.field-0 refl)
          (c.in_ok-expect.ensures.ok _ refl) c.in_ok-push.ensures.ok;
      rest = two-below (below start) before place after c.loop-turns.invariant.rest on (ap below c.in_ok-push.ensures.ok);
    }

pub arguments-returns-in_err-several : goal.arguments-returns-in_err-several
arguments-returns-in_err-several t c =
    let e = rules.expression c.args.fuel in
    let ws = left c.args.reader.now in
    let start = stack c.args.machine.now in
    stops-by (extended (top start) (rules.arguments e ws)) (left c.several.new.reader) (below start) (stack c.several.new.machine) c.from_residual.result
    c.in_err-several.field-0.0 c.from_residual.ensures.0 c.from_residual.ensures.1
    (λ stop. arguments-unread e (top start) ws (left c.takes.new.self) (c.takes.ensures.other c.if-takes.false) (c.takes.ensures.kept c.if-takes.false)
    (c.in_err-several.ensures.none (ap Err stop)))

pub elements-returns-in_err-several : goal.elements-returns-in_err-several
elements-returns-in_err-several t c =
    let e = rules.expression c.args.fuel in
    let ws = left c.args.reader.now in
    let start = stack c.args.machine.now in
    stops-by (extended (top start) (rules.elements e ws)) (left c.several.new.reader) (below start) (stack c.several.new.machine) c.from_residual.result
    c.in_err-several.field-0.0 c.from_residual.ensures.0 c.from_residual.ensures.1
    (λ stop. elements-unread e (top start) ws (left c.takes.new.self) (c.takes.ensures.other c.if-takes.false) (c.takes.ensures.kept c.if-takes.false)
    (c.in_err-several.ensures.none (ap Err stop)))

pub conditionals-returns-in_err-level : goal.conditionals-returns-in_err-level
conditionals-returns-in_err-level t c =
    let e = rules.expression c.args.fuel in
    let ws = left c.args.reader.now in
    let w = rules.conditionals e (suc (length ws)) ws in
    let before = stack c.loop-turns.machine in
    stops-by w (left c.level.new.reader) (stack c.args.machine.now) (stack c.level.new.machine) c.from_residual.result c.in_err-level.field-0.0
    c.from_residual.ensures.0 c.from_residual.ensures.1
    (λ stop. conditionals-operandless e w c.loop-turns.pending c.loop-turns.turns before (left c.loop-turns.reader) c.loop-turns.invariant.read
    c.loop-turns-test.true (c.in_err-level.ensures.none (ap Err stop)))

pub conditionals-returns-in_err-choose : goal.conditionals-returns-in_err-choose
conditionals-returns-in_err-choose t c =
    let e = rules.expression c.args.fuel in
    let ws = left c.args.reader.now in
    let w = rules.conditionals e (suc (length ws)) ws in
    stops-full w (left c.takes.new.self) (stack c.args.machine.now) (stack c.choose.new.self) c.from_residual-in_err-choose.result
    c.from_residual-in_err-choose.ensures.0 c.from_residual-in_err-choose.ensures.1

pub conditionals-returns-in_err-expression : goal.conditionals-returns-in_err-expression
conditionals-returns-in_err-expression t c =
    let e = rules.expression c.args.fuel in
    let ws = left c.args.reader.now in
    let w = rules.conditionals e (suc (length ws)) ws in
    let before = stack c.loop-turns.machine in
    let first = stack c.level.new.machine in
    let level = c.in_ok-level.ensures in
    stops-by w (left c.expression.new.reader) (stack c.args.machine.now) (stack c.expression.new.machine) c.from_residual-in_err-expression.result
    c.in_err-expression.field-0.0 c.from_residual-in_err-expression.ensures.0 c.from_residual-in_err-expression.ensures.1
    (λ stop. conditionals-choiceless e w c.loop-turns.pending c.loop-turns.turns before (left c.loop-turns.reader) c.loop-turns.invariant.read
    c.loop-turns-test.true
    (left c.level.new.reader) (left c.takes.new.self) first (level.on c.in_ok-level.field-0 refl) (level.ok c.in_ok-level.field-0 refl)
    (c.takes.ensures.taken c.if-not-takes.false) (c.in_err-expression.ensures.none (ap Err stop)))

pub expression-returns-in_err-lone : goal.expression-returns-in_err-lone
expression-returns-in_err-lone t c =
    stops-full (rules.expression c.args.fuel (left c.args.reader.now)) (left c.lone.new.reader) (stack c.args.machine.now) (stack c.lone.new.machine)
    c.from_residual.result c.from_residual.ensures.0 c.from_residual.ensures.1

pub marked-returns-in_err-push-in-OpenBrace : goal.marked-returns-in_err-push-in-OpenBrace
marked-returns-in_err-push-in-OpenBrace t c =
    let e = rules.expression c.args.fuel in
    stops-full (rules.primary e (mark_word c.args.mark ∷ left c.args.reader.now)) (left c.args.reader.now) (stack c.args.machine.now) (stack c.push.new.self)
    c.from_residual.result c.from_residual.ensures.0 c.from_residual.ensures.1

pub marked-returns-in_err-push-in-OpenBracket : goal.marked-returns-in_err-push-in-OpenBracket
marked-returns-in_err-push-in-OpenBracket t c =
    let e = rules.expression c.args.fuel in
    stops-full (rules.primary e (mark_word c.args.mark ∷ left c.args.reader.now)) (left c.args.reader.now) (stack c.args.machine.now)
    (stack c.push-in-OpenBracket.new.self) c.from_residual-in_err-push-in-OpenBracket.result c.from_residual-in_err-push-in-OpenBracket.ensures.0
    c.from_residual-in_err-push-in-OpenBracket.ensures.1

pub marked-returns-in_err-push-in-OpenBracket-2 : goal.marked-returns-in_err-push-in-OpenBracket-2
marked-returns-in_err-push-in-OpenBracket-2 t c =
    let e = rules.expression c.args.fuel in
    stops-full (rules.primary e (mark_word c.args.mark ∷ left c.args.reader.now)) (left c.definitions.new.reader) (stack c.args.machine.now)
    (stack c.push-in-OpenBracket-2.new.self) c.from_residual-in_err-push-in-OpenBracket-2.result c.from_residual-in_err-push-in-OpenBracket-2.ensures.0
    c.from_residual-in_err-push-in-OpenBracket-2.ensures.1

pub marked-returns-in_err-definitions-in-OpenBracket : goal.marked-returns-in_err-definitions-in-OpenBracket
marked-returns-in_err-definitions-in-OpenBracket t c =
    let e = rules.expression c.args.fuel in
    let start = stack c.args.machine.now in
    stops-by (rules.primary e (mark_word c.args.mark ∷ left c.args.reader.now)) (left c.definitions.new.reader) start (stack c.definitions.new.machine)
    c.from_residual-in_err-definitions-in-OpenBracket.result c.in_err-definitions-in-OpenBracket.field-0.0
    c.from_residual-in_err-definitions-in-OpenBracket.ensures.0 c.from_residual-in_err-definitions-in-OpenBracket.ensures.1
    (λ stop. ad-begun e c.args.mark (left c.args.reader.now) start (stack c.push-in-OpenBracket.new.self) c.in-OpenBracket.is
    c.in_ok-push-in-OpenBracket.ensures.ok
    ∙ c.in_err-definitions-in-OpenBracket.ensures.none (ap Err stop))

pub marked-returns-in_err-expression-in-OpenParen : goal.marked-returns-in_err-expression-in-OpenParen
marked-returns-in_err-expression-in-OpenParen t c =
    let e = rules.expression c.args.fuel in
    stops-by (rules.primary e (mark_word c.args.mark ∷ left c.args.reader.now)) (left c.expression.new.reader) (stack c.args.machine.now)
    (stack c.expression.new.machine) c.from_residual-in_err-expression-in-OpenParen.result c.in_err-expression-in-OpenParen.field-0.0
    c.from_residual-in_err-expression-in-OpenParen.ensures.0 c.from_residual-in_err-expression-in-OpenParen.ensures.1
    (λ stop. paren-none e c.args.mark (left c.args.reader.now) c.in-OpenParen.is (c.in_err-expression-in-OpenParen.ensures.none (ap Err stop)))

pub postfix-returns-in_err-primary : goal.postfix-returns-in_err-primary
postfix-returns-in_err-primary t c =
    let e = rules.expression c.args.fuel in
    let ws = left c.args.reader.now in
    stops-by (rules.postfix e ws) (left c.primary.new.reader) (stack c.args.machine.now) (stack c.primary.new.machine) c.from_residual.result
    c.in_err-primary.field-0.0 c.from_residual.ensures.0 c.from_residual.ensures.1
    (λ stop. postfix-none e ws (c.in_err-primary.ensures.none (ap Err stop)))

pub postfix-returns : goal.postfix-returns
postfix-returns t c =
    let e = rules.expression c.args.fuel in
    let ws = left c.args.reader.now in
    let rest = left c.primary.new.reader in
    let start = stack c.args.machine.now in
    let after = stack c.primary.new.machine in
    puts-ok (rules.postfix e ws) rest start after tt
    (postfix-alone e ws rest (top after) (c.in_ok-primary.ensures.ok c.in_ok-primary.field-0 refl) (c.has_suffix.ensures.dot c.if-has_suffix.false)
    (c.has_suffix.ensures.bracket c.if-has_suffix.false))
    (c.in_ok-primary.ensures.on c.in_ok-primary.field-0 refl)

pub several-returns-in_err-element : goal.several-returns-in_err-element
several-returns-in_err-element t c =
    let e = rules.expression c.args.fuel in
    let ws = left c.args.reader.now in
    let start = stack c.args.machine.now in
    let w = extended (top start) (rules.several e (length ws) ws) in
    let before = stack c.loop-turns.machine in
    stops-by w (left c.element.new.reader) (below start) (stack c.element.new.machine) c.from_residual.result c.in_err-element.field-0.0
    c.from_residual.ensures.0 c.from_residual.ensures.1
    (λ stop. several-valueless e w c.loop-turns.turns before (left c.loop-turns.reader) c.loop-turns.invariant.read c.loop-turns-test.true
    (c.in_err-element.ensures.none (ap Err stop)))

pub suffixes-returns-in_err-push : goal.suffixes-returns-in_err-push
suffixes-returns-in_err-push t c =
    let e = rules.expression c.args.fuel in
    let ws = left c.args.reader.now in
    let start = stack c.args.machine.now in
    stops-full (rules.suffixes e (length ws) (top start) ws) (left c.expect.new.self) (below start) (stack c.push.new.self) c.from_residual-in_err-push.result
    c.from_residual-in_err-push.ensures.0 c.from_residual-in_err-push.ensures.1

pub marked-returns-in_ok-expression-in-OpenParen : goal.marked-returns-in_ok-expression-in-OpenParen
marked-returns-in_ok-expression-in-OpenParen t c =
    let e = rules.expression c.args.fuel in
    let ws = left c.args.reader.now in
    let inside = stack c.expression.new.machine in
    let read = c.in_ok-expression-in-OpenParen.ensures in
    let found = read.ok c.in_ok-expression-in-OpenParen.field-0 refl in
    puts-expected (rules.primary e (mark_word c.args.mark ∷ left c.args.reader.now)) (left c.expect.new.self) (stack c.args.machine.now) inside c.expect.result
    (λ done is. paren-closed e c.args.mark ws c.in-OpenParen.is (top inside) (left c.expression.new.reader) found (left c.expect.new.self)
    (c.expect.ensures.ok done is))
    (read.on c.in_ok-expression-in-OpenParen.field-0 refl)
    (λ stop is. paren-broken e c.args.mark ws c.in-OpenParen.is (top inside) (left c.expression.new.reader) found (c.expect.ensures.none stop is))

pub conditionals-overflow_add-turns : goal.conditionals-overflow_add-turns
conditionals-overflow_add-turns t c = omega (arith, c.count-turns.ensures.few)

pub conditionals-overflow_sub-turns : goal.conditionals-overflow_sub-turns
conditionals-overflow_sub-turns t c = omega (arith, c.loop-turns-test.true)

pub conditionals-overflow_add-pending : goal.conditionals-overflow_add-pending
conditionals-overflow_add-pending t c = omega (arith, c.loop-turns.invariant.few, c.loop-turns-test.true)

pub conditionals-loop-turns-smaller : goal.conditionals-loop-turns-smaller
conditionals-loop-turns-smaller t c = omega (arith, c.loop-turns-test.true)

pub several-loop-turns-smaller : goal.several-loop-turns-smaller
several-loop-turns-smaller t c = omega (arith, c.loop-turns-test.true)

pub some_definitions-loop-turns-smaller : goal.some_definitions-loop-turns-smaller
some_definitions-loop-turns-smaller t c = omega (arith, c.loop-turns-test.true)

pub suffixes-loop-turns-smaller : goal.suffixes-loop-turns-smaller
suffixes-loop-turns-smaller t c = omega (arith, c.loop-turns-test.true)

pub conditionals-loop-turns-init : goal.conditionals-loop-turns-init
conditionals-loop-turns-init t c =
    let e = rules.expression c.args.fuel in
    let ws = left c.args.reader.now in
    let turns : suc (length ws) ≡ c.count-turns.result + 1 = omega (arith, c.count-turns.ensures.value) in
    record {
      read = ap (λ n. rules.conditionals e n ws) turns ∙ choices-nil (stack c.args.machine.now) (rules.conditionals e (c.count-turns.result + 1) ws);
      rest = λ x. refl;
      few = omega (arith, c.count-turns.ensures.few);
    }

pub conditionals-returns : goal.conditionals-returns
conditionals-returns t c =
    let e = rules.expression c.args.fuel in
    let ws = left c.args.reader.now in
    let before = stack c.loop-turns.machine in
    let out : c.loop-turns.turns ≡ 0 = omega (arith, c.loop-turns-test.false) in
    stops-now (rules.conditionals e (suc (length ws)) ws) (left c.loop-turns.reader) (stack c.args.machine.now) before
    (c.loop-turns.invariant.read ∙ ap (λ n. choices c.loop-turns.pending before (rules.conditionals e n (left c.loop-turns.reader))) out)

pub several-returns : goal.several-returns
several-returns t c =
    let e = rules.expression c.args.fuel in
    let ws = left c.args.reader.now in
    let start = stack c.args.machine.now in
    let before = stack c.loop-turns.machine in
    let out : c.loop-turns.turns ≡ 0 = omega (arith, c.loop-turns-test.false) in
    stops-now (extended (top start) (rules.several e (length ws) ws)) (left c.loop-turns.reader) (below start) before
    (c.loop-turns.invariant.read ∙ ap (λ n. extended (top before) (rules.several e n (left c.loop-turns.reader))) out)

pub some_definitions-returns : goal.some_definitions-returns
some_definitions-returns t c =
    let e = rules.expression c.args.fuel in
    let ws = left c.args.reader.now in
    let start = stack c.args.machine.now in
    let before = stack c.loop-turns.machine in
    let out : c.loop-turns.turns ≡ 0 = omega (arith, c.loop-turns-test.false) in
    stops-now (completed (top start) (rules.definitions_at e (length ws) ws)) (left c.loop-turns.reader) (below start) before
    (c.loop-turns.invariant.read ∙ ap (λ n. completed (top before) (rules.definitions_at e n (left c.loop-turns.reader))) out)

pub suffixes-returns : goal.suffixes-returns
suffixes-returns t c =
    let e = rules.expression c.args.fuel in
    let ws = left c.args.reader.now in
    let start = stack c.args.machine.now in
    let before = stack c.loop-turns.machine in
    let out : c.loop-turns.turns ≡ 0 = omega (arith, c.loop-turns-test.false) in
    puts-ok (rules.suffixes e (length ws) (top start) ws) (left c.loop-turns.reader) (below start) before tt
    (c.loop-turns.invariant.read ∙ ap (λ n. rules.suffixes e n (top before) (left c.loop-turns.reader)) out) c.loop-turns.invariant.rest

pub conditionals-level-requires : goal.conditionals-level-requires
conditionals-level-requires t c = omega arith

pub conditionals-expression-requires : goal.conditionals-expression-requires
conditionals-expression-requires t c = omega arith

pub several-element-requires : goal.several-element-requires
several-element-requires t c = omega arith

pub element-expression-requires : goal.element-expression-requires
element-expression-requires t c = omega arith

pub element-returns-then-branch : goal.element-returns-then-branch
element-returns-then-branch t c =
    let ws = left c.args.reader.now in
    let added = c.in_ok-lone_element.ensures.added (ap Ok c.if-branch.true) in
    record {
      ok = λ done e. (added.0, ap (λ n. rules.expression n ws) (less c.args.fuel (omega (arith, c.if-fuel-eq0.false))) ∙ added.1 (c.args.fuel - 1), added.2);
      none = λ e. absurd cc;
    }

pub some_definitions-expression-requires : goal.some_definitions-expression-requires
some_definitions-expression-requires t c = omega arith

pub suffixes-expression-requires : goal.suffixes-expression-requires
suffixes-expression-requires t c = omega arith

pub marked-elements-requires : goal.marked-elements-requires
marked-elements-requires t c = omega arith

pub marked-definitions-requires : goal.marked-definitions-requires
marked-definitions-requires t c = omega arith

pub marked-expression-requires : goal.marked-expression-requires
marked-expression-requires t c = omega arith

pub marked-returns-in_default : goal.marked-returns-in_default
marked-returns-in_default t c =
    let e = rules.expression c.args.fuel in
    let ws = left c.args.reader.now in
    stops-now (rules.primary e (mark_word c.args.mark ∷ ws)) ws (stack c.args.machine.now) (stack c.args.machine.now)
    (primary-none e c.args.mark ws c.in_default.not-OpenParen c.in_default.not-OpenBracket c.in_default.not-OpenBrace c.in_default.not-Dot)
