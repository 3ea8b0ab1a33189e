use Rattle.std.proofs.Common.{◌≡◌, ℕ, ◌^◌, ◌&&◌, nat_lt, List, take, sym, ◌∙◌, ap}
use Rattle.std.specs.Char.{is_digit}
use Rattle.std.specs.List.{list_all}
use Rattle.std.specs.Str.Parse.{digits_value}
use Rattle.ad_lexer.specs.Numbers.{whole_digits}
use Rattle.ad_lexer.proofs.MillionthLemmas.{too_many}
use Rattle.ad_lexer.proofs.decimals.millionths.Goals as goal

pub returns-then-not-has_value : goal.returns-then-not-has_value
returns-then-not-has_value c =
    let number : List ℕ = c.args.number.now in
    let whole : c.front-whole.result.now ≡ whole_digits number = c.front-whole.ensures ∙ ap (λ (n : ℕ). take n number) c.run_len-len.ensures.value in
    too_many number (ap (λ (l : List ℕ). list_all (λ c. is_digit c 10) l && nat_lt (digits_value 10 l) (2 ^ 63)) (sym whole) ∙ sym c.has_value.ensures
    ∙ c.if-not-has_value.true)
