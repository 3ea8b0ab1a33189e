-- Calls: the rules that hold for the whole table.
use Rattle.std.specs.Prelude.{ℕ, Bool, false, List, [], length, drop, take, if◌then◌else◌}
use Rattle.std.specs.List.{list_any}
use Rattle.std.specs.Option.{option_map_or}
use Rattle.ad_value.specs.Plain.{Plain, undefined, error}
use Rattle.ad_value.specs.Limits.{bounded}
use Rattle.builtin_funcs.specs.declared.function.Function.{Function}
use Rattle.builtin_funcs.specs.Functions.{function_named, takes}
use Rattle.builtin_funcs.specs.Kinds.{is_error, is_undefined}
use Rattle.builtin_funcs.specs.Rows.{row_of}

-- the arguments in which the function is strict
abbrev pub strict_arguments : Function → List Plain → List Plain
strict_arguments Function.IsUndefined args = []
strict_arguments Function.IsError args = []
strict_arguments Function.IsString args = []
strict_arguments Function.IsInteger args = []
strict_arguments Function.IsBoolean args = []
strict_arguments Function.IsList args = []
strict_arguments Function.IsClassad args = []
strict_arguments Function.IfThenElse args = []
strict_arguments Function.IdenticalMember args = drop 1 args
strict_arguments Function.AnyCompare args = take 2 args
strict_arguments Function.AllCompare args = take 2 args
strict_arguments function args = args

-- Error wins over Undefined, and Undefined over the row
abbrev pub strict_in : List Plain → Plain → Plain
strict_in args row = if list_any is_error args then error else if list_any is_undefined args then undefined else row

-- the value of the function, at a moment: Error in the place of a result that is too heavy
unfoldable pub function_value : Function → List Plain → ℕ → Plain
function_value function args moment = bounded (strict_in (strict_arguments function args) (row_of function args moment))

-- the name is a function's that takes so many arguments
abbrev pub is_known : List ℕ → ℕ → Bool
is_known name count = option_map_or (λ function. takes function count) (function_named name) false

-- the value of a call, which is Error where the name is unknown or the number of arguments is wrong
abbrev pub call_value : List ℕ → List Plain → ℕ → Plain
call_value name args moment =
    if is_known name (length args) then option_map_or (λ function. function_value function args moment) (function_named name) error else error
