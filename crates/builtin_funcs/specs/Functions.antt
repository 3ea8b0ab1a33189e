-- The functions of the language by name, and how many arguments each takes.
use Rattle.std.specs.Prelude.{ℕ, Bool, true, ◌||◌, ◌==◌, List, [], ◌∷◌, Option, None, Some, codes, if◌then◌else◌}
use Rattle.std.specs.Str.{bytes_eq}
use Rattle.pool_text.specs.Folding.{folded}
use Rattle.builtin_funcs.specs.declared.function.Function.{Function}

-- the first function of a table whose name is the same, in capital or small letters
abbrev pub function_in : List (List ℕ × Function) → List ℕ → Option Function
function_in [] name = None
function_in (entry ∷ table) name = if bytes_eq (folded entry.0) (folded name) then Some entry.1 else function_in table name

-- the functions by their names
abbrev pub function_names : List (List ℕ × Function)
function_names =
    (codes "sum", Function.Sum) ∷ (codes "min", Function.Min) ∷ (codes "max", Function.Max) ∷ (codes "int", Function.Int)
    ∷ (codes "size", Function.Size) ∷ (codes "bool", Function.Bool) ∷ (codes "time", Function.Time)
    ∷ (codes "isList", Function.IsList) ∷ (codes "member", Function.Member) ∷ (codes "strcat", Function.Strcat)
    ∷ (codes "substr", Function.Substr) ∷ (codes "strcmp", Function.Strcmp) ∷ (codes "string", Function.String)
    ∷ (codes "isError", Function.IsError) ∷ (codes "stricmp", Function.Stricmp) ∷ (codes "toUpper", Function.ToUpper)
    ∷ (codes "toLower", Function.ToLower) ∷ (codes "isString", Function.IsString) ∷ (codes "isInteger", Function.IsInteger)
    ∷ (codes "isBoolean", Function.IsBoolean) ∷ (codes "isClassad", Function.IsClassad) ∷ (codes "ifThenElse", Function.IfThenElse)
    ∷ (codes "anyCompare", Function.AnyCompare) ∷ (codes "allCompare", Function.AllCompare) ∷ (codes "isUndefined", Function.IsUndefined)
    ∷ (codes "stringListSize", Function.StringListSize) ∷ (codes "identicalMember", Function.IdenticalMember)
    ∷ (codes "stringListMember", Function.StringListMember) ∷ []

-- the function of a name
unfoldable pub function_named : List ℕ → Option Function
function_named name = function_in function_names name

-- the function takes so many arguments
abbrev pub takes : Function → ℕ → Bool
takes Function.Time count = count == 0
takes Function.Strcat count = true
takes Function.StringListSize count = count == 1 || count == 2
takes Function.Substr count = count == 2 || count == 3
takes Function.StringListMember count = count == 2 || count == 3
takes Function.Member count = count == 2
takes Function.IdenticalMember count = count == 2
takes Function.Strcmp count = count == 2
takes Function.Stricmp count = count == 2
takes Function.AnyCompare count = count == 3
takes Function.AllCompare count = count == 3
takes Function.IfThenElse count = count == 3
takes function count = count == 1
