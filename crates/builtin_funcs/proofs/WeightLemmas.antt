-- A call's value weighs no more than a value may.
use Rattle.std.proofs.Common.{◌≡◌, ◌≤◌, ℕ, Bool, true, false, refl, List, length, Option, None, Some, nat_lt, if◌then◌else◌, arith}
use Rattle.std.specs.Option.{option_map_or}
use Rattle.std.proofs.lemmas.Bool.Decides.{nat_tests}
use Rattle.ad_value.specs.Plain.{Plain, error}
use Rattle.ad_value.specs.Limits.{bounded, weight_limit}
use Rattle.ad_value.specs.Operators.{weight_of}
use Rattle.builtin_funcs.specs.declared.function.Function.{Function}
use Rattle.builtin_funcs.specs.Calls.{call_value, function_value, is_known, strict_arguments, strict_in}
use Rattle.builtin_funcs.specs.Functions.{function_named}
use Rattle.builtin_funcs.specs.Rows.{row_of}

pub bounded_le : (v : Plain) → weight_of (bounded v) ≤ weight_limit
bounded_le v = by (nat_lt weight_limit (weight_of v)) refl
  where
    by : (b : Bool) → nat_lt weight_limit (weight_of v) ≡ b → weight_of (if b then error else v) ≤ weight_limit
    by true over = omega arith
    by false within = grind (arith, nat_tests, within)

function_le : (f : Function) (args : List Plain) (moment : ℕ) → weight_of (function_value f args moment) ≤ weight_limit
unfolding function_value
function_le f args moment = bounded_le (strict_in (strict_arguments f args) (row_of f args moment))

pub call_le : (x : List ℕ) (args : List Plain) (moment : ℕ) → weight_of (call_value x args moment) ≤ weight_limit
call_le x args moment = by (is_known x (length args)) (function_named x)
  where
    by : (b : Bool) (o : Option Function) → weight_of (if b then option_map_or (λ f. function_value f args moment) o error else error) ≤ weight_limit
    by true (Some f) = function_le f args moment
    by true None = omega arith
    by false o = omega arith
