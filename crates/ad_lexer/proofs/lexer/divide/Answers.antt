use Rattle.std.proofs.Common.{◌≡◌, ◌≤◌, ℕ, ◌+◌, true, List, ◌∷◌, [], ◌++◌, drop, length, sym, ◌∙◌, ap, subst, Err, arith, length-drop}
use Rattle.ad_lexer.specs.declared.next.Step.TheVariants as steps
use Rattle.ad_lexer.specs.declared.token.Span.{Span}
use Rattle.ad_lexer.specs.Reading.{next, IsMarked, IsWithin}
use Rattle.ad_lexer.specs.Spans.{lexemes_of, are_within, openings_of, AreMarked}
use Rattle.ad_lexer.specs.Tokens.{Tokens, Answers}
use Rattle.ad_lexer.proofs.Texts.{Reached, span_at, reached_blank, reached_on, reached_past, reached_span, marked_push, within_push, openings_push, passes_on}
use Rattle.ad_lexer.proofs.Texts.{reached_end, reached_fault}
use Rattle.ad_lexer.proofs.lexer.divide.Goals as goal

pub returns-in-End : goal.returns-in-End
returns-in-End c =
    let text = c.args.text.now in
    let at = c.loop-spans.at in
    let reads = sym c.in-End.is ∙ c.next-step.ensures.value ∙ ap next c.behind.ensures in
    subst (λ list. Tokens text list) (sym c.of.ensures)
    (reached_end text (drop at text) (lexemes_of text c.loop-spans.spans.items) at c.requires.utf8 c.loop-spans.invariant.0 reads)

pub next-step-requires-clause-few : goal.next-step-requires-clause-few
next-step-requires-clause-few c = omega (arith, c.loop-spans.invariant.5, c.loop-spans.invariant.1, c.requires.room)

pub loop-spans-preserved-in-Blank : goal.loop-spans-preserved-in-Blank
loop-spans-preserved-in-Blank c =
    let text = c.args.text.now in
    let n = c.in-Blank.len in
    let at = c.loop-spans.at in
    let tokens = lexemes_of text c.loop-spans.spans.items in
    let reads = sym c.in-Blank.is ∙ c.next-step.ensures.value ∙ ap next c.behind.ensures in
    let within : IsWithin (length (drop at text)) (steps.Blank n) =
    subst (λ s. IsWithin (length (drop at text)) s) c.in-Blank.is
    (subst (λ (l : List ℕ). IsWithin (length l) c.next-step.result.step) c.behind.ensures c.next-step.ensures.within) in (
      reached_past text tokens (at + n) c.behind_blank-at.result
          (reached_on text tokens at n (reached_blank text (drop at text) tokens at n c.loop-spans.invariant.0 reads)) c.behind_blank-at.ensures.passes,
      c.behind_blank-at.ensures.within,
      c.loop-spans.invariant.2,
      c.loop-spans.invariant.3,
      omega (arith, c.loop-spans.invariant.4, c.next-step.ensures.counted),
      omega (
        arith,
        c.loop-spans.invariant.5,
        c.next-step.ensures.most,
        within.0,
        passes_on text (at + n) c.behind_blank-at.result c.behind_blank-at.ensures.passes,
      ),
    )

pub loop-spans-preserved : goal.loop-spans-preserved
loop-spans-preserved c =
    let text = c.args.text.now in
    let kind = c.in-Token.kind in
    let mark = c.next-step.result.mark in
    let n = c.in-Token.len in
    let at = c.loop-spans.at in
    let rest = drop at text in
    let spans = c.loop-spans.spans.items in
    let reads = sym c.in-Token.is ∙ c.next-step.ensures.value ∙ ap next c.behind.ensures in
    let fits : IsWithin (length rest) (steps.Token kind n) =
    subst (λ s. IsWithin (length rest) s) c.in-Token.is
    (subst (λ (l : List ℕ). IsWithin (length l) c.next-step.result.step) c.behind.ensures c.next-step.ensures.within) in
    let is : IsMarked rest (steps.Token kind n) mark =
    subst (λ s. IsMarked rest s mark) c.in-Token.is (subst (λ (l : List ℕ). IsMarked l c.next-step.result.step mark) c.behind.ensures
    c.next-step.ensures.marked) in
    let pushed : spans ++ span_at kind mark at (at + n) ∷ [] ≡ c.push.new.self.items = sym c.in_ok-push-in-Token.ensures.items in
    let reached = reached_on text _ at n (reached_span text rest spans at kind mark n c.loop-spans.invariant.0 reads) in
    let passed = reached_past text _ (at + n) c.behind_blank-at-in-Token.result reached c.behind_blank-at-in-Token.ensures.passes in
    let within =
    within_push (length text) spans kind mark at (at + n) c.loop-spans.invariant.2 (omega arith)
    (omega (arith, fits.1, length-drop at text, c.loop-spans.invariant.1)) in
    let opened : openings_of (spans ++ span_at kind mark at (at + n) ∷ []) ≤ c.next-step.new.openings =
    omega (arith, openings_push spans kind mark at (at + n), c.loop-spans.invariant.4, c.next-step.ensures.counted) in
    let marked = marked_push text rest spans at kind mark n c.loop-spans.invariant.0 c.loop-spans.invariant.3 is in (
      subst (λ (ss : List Span). Reached text (drop c.behind_blank-at-in-Token.result text) (lexemes_of text ss) c.behind_blank-at-in-Token.result) pushed
          passed,
      c.behind_blank-at-in-Token.ensures.within,
      subst (λ (ss : List Span). are_within (length text) ss ≡ true) pushed within,
      subst (λ (ss : List Span). AreMarked text ss) pushed marked,
      subst (λ (ss : List Span). openings_of ss ≤ c.next-step.new.openings) pushed opened,
      omega (
        arith,
        c.loop-spans.invariant.5,
        c.next-step.ensures.most,
        fits.0,
        passes_on text (at + n) c.behind_blank-at-in-Token.result c.behind_blank-at-in-Token.ensures.passes,
      ),
    )

pub returns-in-Fault : goal.returns-in-Fault
returns-in-Fault c =
    let text = c.args.text.now in
    let at = c.loop-spans.at in
    let reads = sym c.in-Fault.is ∙ c.next-step.ensures.value ∙ ap next c.behind.ensures in
    subst (λ f. Answers text (Err f)) (sym c.fault_at.ensures)
    (reached_fault text (drop at text) (lexemes_of text c.loop-spans.spans.items) at c.in-Fault.kind c.in-Fault.place c.requires.utf8
    c.loop-spans.invariant.0 reads)
