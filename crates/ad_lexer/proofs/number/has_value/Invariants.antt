use Rattle.std.proofs.Common.{◌≡◌, true, ◌<◌, ◌^◌, take}
use Rattle.std.specs.Char.{is_digit}
use Rattle.std.specs.List.{list_all}
use Rattle.std.specs.Str.Parse.{digits_value}
use Rattle.ad_lexer.proofs.number.has_value.Given as goal

abbrev pub invariant-loop-byte : goal.invariant-loop-byte
invariant-loop-byte l = record {
  value : l.value ≡ digits_value l.base (take l.byte-index l.digits);
  digits : list_all (λ c. is_digit c l.base) (take l.byte-index l.digits) ≡ true;
  fits : l.value < 2 ^ 63;
}
