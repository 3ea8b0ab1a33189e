use Rattle.std.proofs.Common.{◌≡◌, ◌+◌, ◌*◌, ◌^◌, ◌≤◌, arith, sym, ◌∙◌, take}
use Rattle.std.proofs.lemmas.Bool.{and_from, and_right, lt-ltb, le-ltb}
use Rattle.std.proofs.lemmas.Int.Digits.{digits_value_more}
use Rattle.std.proofs.lemmas.List.Folds.{list_all_more}
use Rattle.std.proofs.lemmas.Str.Parse.{digits_value-take-le}
use Rattle.std.specs.Char.{is_digit}
use Rattle.std.specs.Str.Parse.{digits_value}
use Rattle.ad_lexer.proofs.number.has_value.Goals as goal

pub returns-then-next : goal.returns-then-next
returns-then-next c =
    let i = c.loop-byte.byte-index in
    let read : c.from.result * c.from-in-loop-byte.result ≡ digits_value c.args.base (take i c.args.digits.now) * c.args.base = cc in
    let large : 2 ^ 63 ≤ digits_value c.args.base c.args.digits.now =
    omega (
      arith,
      read,
      c.digit_value-digit.ensures,
      digits_value_more c.args.base c.args.digits.now i (omega arith),
      digits_value-take-le c.args.base c.args.digits.now (i + 1) (omega arith),
    ) in
    sym (and_right _ _ (le-ltb _ _ large))

pub loop-byte-preserved : goal.loop-byte-preserved
loop-byte-preserved c =
    let i = c.loop-byte.byte-index in
    let read : c.from.result * c.from-in-loop-byte.result ≡ digits_value c.args.base (take i c.args.digits.now) * c.args.base = cc in
    record {
      value = omega (arith, read, c.digit_value-digit.ensures, digits_value_more c.args.base c.args.digits.now i (omega arith));
      digits =
          list_all_more (λ b. is_digit b c.args.base) c.args.digits.now i 0 (omega arith)
          ∙ and_from _ _ c.loop-byte.invariant.digits (lt-ltb _ c.args.base (omega (arith, c.digit_value-digit.ensures)));
      fits = omega arith;
    }
