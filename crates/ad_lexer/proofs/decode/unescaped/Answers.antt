use Rattle.std.proofs.Common.{arith, ap, drop, ◌∙◌}
use Rattle.std.proofs.Math.Logic.{∥∥₁_map}
use Rattle.ad_lexer.specs.Reading.{front}
use Rattle.ad_lexer.proofs.ContentLemmas.{equal_when, less_when, unread_first, unread_run, unread_turn, unread_end, quotation_long}
use Rattle.ad_lexer.proofs.decode.unescaped.Goals as goal

pub behind-rest-requires : goal.behind-rest-requires
behind-rest-requires c = less_when _ _ c.requires (λ quotation. let long = quotation_long c.args.spelling.now quotation in omega arith)

pub loop-bytes-init : goal.loop-bytes-init
loop-bytes-init c =
    rw (c.byte_at-quote.ensures.value, c.in_ok-bytes.ensures.items, c.behind-rest.ensures)
    (∥∥₁_map c.requires (λ quotation. unread_first c.args.spelling.now quotation))

pub loop-bytes-preserved : goal.loop-bytes-preserved
loop-bytes-preserved c =
    rw (
      c.in_ok-push.ensures.items,
      c.behind-rest-in-loop-bytes-2.ensures,
      c.in_ok-extend_from_slice.ensures.items,
      c.front.ensures,
      c.behind-rest-in-loop-bytes.ensures,
      c.run_len-plain.ensures.value,
    )
    (∥∥₁_map c.loop-bytes.invariant (λ u.
    let ran = unread_run c.byte_at-quote.result c.args.spelling.now c.loop-bytes.bytes.items c.loop-bytes.rest.now u in
    unread_turn c.byte_at-quote.result c.args.spelling.now _ _ ran.letters _ _ ran.quotes ran.spelled ran.are ran.means
    (rw (← c.run_len-plain.ensures.value, ← c.behind-rest-in-loop-bytes.ensures) c.in-Letter.ensures.value)))

pub returns-in_default : goal.returns-in_default
returns-in_default c =
    equal_when _ _ c.loop-bytes.invariant (λ u.
    let ran = unread_run c.byte_at-quote.result c.args.spelling.now c.loop-bytes.bytes.items c.loop-bytes.rest.now u in
    rw (c.in_ok-extend_from_slice.ensures.items, c.front.ensures, c.run_len-plain.ensures.value)
    (unread_end c.byte_at-quote.result c.args.spelling.now _ _ ran.letters ran.quotes ran.spelled ran.are ran.means
    (λ len meant reads. c.in_default.not-Letter len meant
    (c.front_of.ensures.value ∙ ap (front c.byte_at-quote.result) (c.behind-rest-in-loop-bytes.ensures
    ∙ ap (λ n. drop n c.loop-bytes.rest.now) c.run_len-plain.ensures.value) ∙ reads))))
