use Rattle.std.proofs.Common.{◌+◌, ◌*◌, arith, ap}
use Rattle.std.proofs.lemmas.Int.Digits.{digits_value_more}
use Rattle.std.proofs.lemmas.Str.Parse.{digits_value-take-le}
use Rattle.ad_lexer.proofs.decode.digits_value.Goals as goal

pub overflow_add-value : goal.overflow_add-value
overflow_add-value c =
    omega (
      arith,
      c.digit_value.ensures,
      ap (λ n. n * c.args.base) c.loop-byte.invariant,
      digits_value_more c.args.base c.args.digits.now c.loop-byte.byte-index (omega arith),
      digits_value-take-le c.args.base c.args.digits.now (c.loop-byte.byte-index + 1) c.requires.some,
    )

pub overflow_mul-value : goal.overflow_mul-value
overflow_mul-value c =
    omega (
      arith,
      ap (λ n. n * c.args.base) c.loop-byte.invariant,
      digits_value_more c.args.base c.args.digits.now c.loop-byte.byte-index (omega arith),
      digits_value-take-le c.args.base c.args.digits.now (c.loop-byte.byte-index + 1) c.requires.some,
    )

pub loop-byte-preserved : goal.loop-byte-preserved
loop-byte-preserved c =
    omega (
      arith,
      c.digit_value.ensures,
      ap (λ n. n * c.args.base) c.loop-byte.invariant,
      digits_value_more c.args.base c.args.digits.now c.loop-byte.byte-index (omega arith),
    )
