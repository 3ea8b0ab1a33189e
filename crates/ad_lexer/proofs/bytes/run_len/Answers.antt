use Rattle.std.proofs.Common.{drop, sym, ap, ◌∙◌, arith}
use lib.Count.{count_trailing_zeros}
use Rattle.std.proofs.lemmas.List.{length-drop}
use Rattle.std.proofs.lemmas.List.Sums.{prefix_len-le-length}
use Rattle.ad_lexer.specs.Reading.{is_in}
use Rattle.ad_lexer.proofs.LaneLemmas.{run_through, run_until}
use Rattle.ad_lexer.proofs.bytes.run_len.Goals as goal

pub returns-then-found-ne0-clause-value : goal.returns-then-found-ne0-clause-value
returns-then-found-ne0-clause-value c =
    let found = c.stops-found in
    let run =
    run_until (is_in c.args.class) c.args.text.now c.loop-len.len (omega arith) (omega (arith, found.ensures))
    ∙ ap (count_trailing_zeros 64) (sym found.ensures) in
    omega (arith, run, c.loop-len.invariant.0)

pub returns-then-found-ne0-clause-within : goal.returns-then-found-ne0-clause-within
returns-then-found-ne0-clause-within c =
    let found = c.stops-found in
    let run =
    run_until (is_in c.args.class) c.args.text.now c.loop-len.len (omega arith) (omega (arith, found.ensures))
    ∙ ap (count_trailing_zeros 64) (sym found.ensures) in
    omega (arith, run, prefix_len-le-length (is_in c.args.class) (drop c.loop-len.len c.args.text.now), length-drop c.loop-len.len c.args.text.now)

pub loop-len-preserved : goal.loop-len-preserved
loop-len-preserved c =
    let run = run_through (is_in c.args.class) c.args.text.now c.loop-len.len (omega arith) (omega (arith, c.stops-found.ensures)) in
    (omega (arith, run, c.loop-len.invariant.0), omega arith)
