-- The rules for all functions, over the part of the arguments in which a function is strict.
use Rattle.std.proofs.Common.{◌≡◌, ℕ, true, false, cond, List, slice_range, sym, ◌∙◌, ap}
use Rattle.std.specs.List.{list_any}
use Rattle.ad_value.specs.Plain.{Plain, undefined, error}
use Rattle.ad_value.specs.Limits.{bounded}
use Rattle.builtin_funcs.specs.declared.function.Function.{Function}
use Rattle.builtin_funcs.specs.Calls.{function_value, strict_arguments, strict_in}
use Rattle.builtin_funcs.specs.Kinds.{is_error, is_undefined}
use Rattle.builtin_funcs.specs.Rows.{row_of}

pub error_within : (f : Function) (ps : List Plain) (moment first end : ℕ) → strict_arguments f ps ≡ slice_range ps first end
    → true ≡ list_any is_error (slice_range ps first end) → error ≡ function_value f ps moment
unfolding function_value
error_within f ps moment first end places found =
    ap (λ b. bounded (cond b error (cond (list_any is_undefined (slice_range ps first end)) undefined (row_of f ps moment)))) found
    ∙ sym (ap (λ args. bounded (strict_in args (row_of f ps moment))) places)

pub undefined_within : (f : Function) (ps : List Plain) (moment first end : ℕ) → strict_arguments f ps ≡ slice_range ps first end
    → false ≡ list_any is_error (slice_range ps first end) → true ≡ list_any is_undefined (slice_range ps first end) → undefined ≡ function_value f ps moment
unfolding function_value
undefined_within f ps moment first end places fine found =
    ap (λ b. bounded (cond b undefined (row_of f ps moment))) found
    ∙ ap (λ b. bounded (cond b error (cond (list_any is_undefined (slice_range ps first end)) undefined (row_of f ps moment)))) fine
    ∙ sym (ap (λ args. bounded (strict_in args (row_of f ps moment))) places)

pub row_within : (f : Function) (ps : List Plain) (moment first end : ℕ) → strict_arguments f ps ≡ slice_range ps first end
    → false ≡ list_any is_error (slice_range ps first end) → false ≡ list_any is_undefined (slice_range ps first end)
    → bounded (row_of f ps moment) ≡ function_value f ps moment
unfolding function_value
row_within f ps moment first end places fine found =
    ap (λ b. bounded (cond b undefined (row_of f ps moment))) found
    ∙ ap (λ b. bounded (cond b error (cond (list_any is_undefined (slice_range ps first end)) undefined (row_of f ps moment)))) fine
    ∙ sym (ap (λ args. bounded (strict_in args (row_of f ps moment))) places)
