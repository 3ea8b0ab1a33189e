-- The table of the functions: what each gives for its arguments, once none that it is strict in is Error or Undefined.
use Rattle.std.specs.Prelude.{ℕ, true, false, pos, List, [], ◌∷◌, length, map}
use Rattle.std.specs.Char.{to_ascii_uppercase}
use Rattle.pool_text.specs.Folding.{folded}
use Rattle.ad_value.specs.Plain.{Plain, undefined, error, boolean, integer, text, list, elements}
use Rattle.ad_value.specs.Numbers.{integer_or_error}
use Rattle.builtin_funcs.specs.declared.function.Function.{Function}
use Rattle.builtin_funcs.specs.Kinds.{is_ad, is_boolean, is_error, is_integer, is_list, is_text, is_undefined}
use Rattle.builtin_funcs.specs.Aggregates.{aggregate, greatest, least, on_list, total}
use Rattle.builtin_funcs.specs.Lists.{all_compare_value, any_compare_value, identical_member_value, member_value}
use Rattle.builtin_funcs.specs.Texts.{bool_value, int_value, on_text, part_value, strcat_value, strcmp_value, stricmp_value, string_list_member_value}
use Rattle.builtin_funcs.specs.Texts.{string_list_size_value, string_value, tail_value, usual_delimiters}

-- the bytes of a String or the elements of a List; the attributes of an Ad aren't in its value
abbrev pub size_value : Plain → Plain
size_value (text bytes) = integer (pos (length bytes))
size_value (list items) = integer_or_error (pos (length (elements items)))
size_value other = error

-- the value of `c ? a : b`
abbrev pub chosen : Plain → Plain → Plain → Plain
chosen (boolean true) a b = a
chosen (boolean false) a b = b
chosen undefined a b = undefined
chosen c a b = error

-- what a function gives without arguments: Error where it can't be called so
abbrev pub row_of_none : Function → ℕ → Plain
row_of_none Function.Time moment = integer_or_error (pos moment)
row_of_none function moment = error

-- what a function gives for one argument: Error where it can't be called with one
abbrev pub row_of_one : Function → Plain → Plain
row_of_one Function.IsUndefined x = boolean (is_undefined x)
row_of_one Function.IsError x = boolean (is_error x)
row_of_one Function.IsString x = boolean (is_text x)
row_of_one Function.IsInteger x = boolean (is_integer x)
row_of_one Function.IsBoolean x = boolean (is_boolean x)
row_of_one Function.IsList x = boolean (is_list x)
row_of_one Function.IsClassad x = boolean (is_ad x)
row_of_one Function.Size x = size_value x
row_of_one Function.Sum x = on_list (aggregate total) x
row_of_one Function.Min x = on_list (aggregate least) x
row_of_one Function.Max x = on_list (aggregate greatest) x
row_of_one Function.ToUpper x = on_text (λ bytes. text (map to_ascii_uppercase bytes)) x
row_of_one Function.ToLower x = on_text (λ bytes. text (folded bytes)) x
row_of_one Function.Int x = int_value x
row_of_one Function.String x = string_value x
row_of_one Function.Bool x = bool_value x
row_of_one Function.StringListSize x = string_list_size_value x usual_delimiters
row_of_one function x = error

-- what a function gives for two arguments: Error where it can't be called with two
abbrev pub row_of_two : Function → Plain → Plain → Plain
row_of_two Function.Member x l = member_value x l
row_of_two Function.IdenticalMember x l = identical_member_value x l
row_of_two Function.Substr s offset = tail_value s offset
row_of_two Function.Strcmp a b = strcmp_value a b
row_of_two Function.Stricmp a b = stricmp_value a b
row_of_two Function.StringListMember x s = string_list_member_value x s usual_delimiters
row_of_two Function.StringListSize s d = string_list_size_value s d
row_of_two function x y = error

-- what a function gives for three arguments: Error where it can't be called with three
abbrev pub row_of_three : Function → Plain → Plain → Plain → Plain
row_of_three Function.IfThenElse c a b = chosen c a b
row_of_three Function.AnyCompare op l x = any_compare_value op l x
row_of_three Function.AllCompare op l x = all_compare_value op l x
row_of_three Function.Substr s offset len = part_value s offset len
row_of_three Function.StringListMember x s d = string_list_member_value x s d
row_of_three function x y z = error

-- the row of the function; `strcat` takes any number of arguments
abbrev pub row_of : Function → List Plain → ℕ → Plain
row_of Function.Strcat args moment = strcat_value args
row_of function [] moment = row_of_none function moment
row_of function (x ∷ []) moment = row_of_one function x
row_of function (x ∷ y ∷ []) moment = row_of_two function x y
row_of function (x ∷ y ∷ z ∷ []) moment = row_of_three function x y z
row_of function args moment = error
