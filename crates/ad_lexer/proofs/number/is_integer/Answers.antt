use Rattle.std.proofs.Common.{◌<◌, List, ℕ, length, ap, refl, arith}
use Rattle.std.proofs.lemmas.Bool.{lt-ltb}
use Rattle.ad_lexer.specs.Numbers.{digits}
use Rattle.ad_lexer.proofs.number.is_integer.Goals as goal

pub returns-then-digits-gt0 : goal.returns-then-digits-gt0
returns-then-digits-gt0 c =
    let some : 0 < length (digits c.args.number.now) = omega (arith, ap (λ (ds : List ℕ). length ds) c.digits-base.ensures.digits) in
    rw (c.has_value.ensures, c.digits-base.ensures.base, c.digits-base.ensures.digits, lt-ltb 0 (length (digits c.args.number.now)) some) refl
