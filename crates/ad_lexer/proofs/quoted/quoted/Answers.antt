use Rattle.std.proofs.Common.{◌≡◌, ℕ, ◌+◌, List, length, length-drop, ◌-◌, sym, ◌∙◌, ap, arith}
use Rattle.ad_lexer.specs.declared.quoted.Front.TheVariants.{Close, LineEnd, Nul, Backslash}
use Rattle.ad_lexer.specs.Reading.{quoted}
use Rattle.ad_lexer.proofs.QuotedLemmas.{quoted_turn, run_over, stop_behind}
use Rattle.ad_lexer.proofs.quoted.quoted.Goals as goal

pub loop-len-preserved : goal.loop-len-preserved
loop-len-preserved c =
    let rest = c.behind-rest.result.now in
    let at = c.loop-len.at + c.run_len-plain.result in
    let len = c.in-Letter.len in
    let within = c.in-Letter.ensures.within in
    let over =
    run_over c.args.kind c.args.quote c.loop-len.at c.run_len-plain.result c.loop-len.rest.now rest c.requires.quoted c.run_len-plain.ensures.value
    c.behind-rest.ensures in
    let turn = quoted_turn c.args.kind c.args.quote at len _ rest (sym c.in-Letter.ensures.value) within.0 (omega (arith, within.1)) in
    let behind : length rest ≡ length c.loop-len.rest.now - c.run_len-plain.result =
    ap (λ (l : List ℕ). length l) c.behind-rest.ensures ∙ length-drop c.run_len-plain.result c.loop-len.rest.now in
    let shorter : length c.behind-rest-in-Letter.result.now ≡ length rest - len =
    ap (λ (l : List ℕ). length l) c.behind-rest-in-Letter.ensures ∙ length-drop len rest in (
      ap (λ (l : List ℕ). quoted c.args.kind c.args.quote (at + len) 0 l) c.behind-rest-in-Letter.ensures ∙ sym turn ∙ over ∙ c.loop-len.invariant.0,
      omega (arith, within.1, behind, c.run_len-plain.ensures.within, c.loop-len.invariant.1),
    )

pub returns-in-Close-clause-value : goal.returns-in-Close-clause-value
returns-in-Close-clause-value c =
    stop_behind c.args.kind c.args.quote c.loop-len.at c.run_len-plain.result c.loop-len.rest.now c.behind-rest.result.now Close _ c.in-Close.ensures.value
    c.requires.quoted c.run_len-plain.ensures.value c.behind-rest.ensures c.loop-len.invariant.0

pub returns-in-LineEnd-clause-value : goal.returns-in-LineEnd-clause-value
returns-in-LineEnd-clause-value c =
    stop_behind c.args.kind c.args.quote c.loop-len.at c.run_len-plain.result c.loop-len.rest.now c.behind-rest.result.now LineEnd _ c.in-LineEnd.ensures.value
    c.requires.quoted c.run_len-plain.ensures.value c.behind-rest.ensures c.loop-len.invariant.0

pub returns-in-Nul-clause-value : goal.returns-in-Nul-clause-value
returns-in-Nul-clause-value c =
    stop_behind c.args.kind c.args.quote c.loop-len.at c.run_len-plain.result c.loop-len.rest.now c.behind-rest.result.now Nul _ c.in-Nul.ensures.value
    c.requires.quoted c.run_len-plain.ensures.value c.behind-rest.ensures c.loop-len.invariant.0

pub returns-in-Backslash-clause-value : goal.returns-in-Backslash-clause-value
returns-in-Backslash-clause-value c =
    stop_behind c.args.kind c.args.quote c.loop-len.at c.run_len-plain.result c.loop-len.rest.now c.behind-rest.result.now Backslash
    _ c.in-Backslash.ensures.value c.requires.quoted c.run_len-plain.ensures.value c.behind-rest.ensures c.loop-len.invariant.0
