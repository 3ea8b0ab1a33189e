-- Arguments that are written one behind the other.
use Rattle.std.proofs.Common.{◌≡◌, ℕ, ◌+◌, ◌≤◌, ◌<◌, true, cond, nat_lt, if◌then◌else◌, List, ◌++◌, length, length-append, drop, slice_get, Some, sym, ◌∙◌, ap}
use Rattle.std.proofs.Common.{append_assoc, append-nil, arith}
use Rattle.std.proofs.lemmas.Bool.Decides.{nat_tests}
use Rattle.std.specs.List.{flat_map, list_all}
use Rattle.ad_value.specs.Limits.{bounded, weight_limit}
use Rattle.ad_value.specs.Plain.{Plain, error, text}
use Rattle.builtin_funcs.specs.Kinds.{is_scalar}
use Rattle.builtin_funcs.specs.Texts.{strcat_value, written}
use Rattle.builtin_funcs.proofs.ListLemmas.{at_end, drop_at}

pub written_more : (out new all : List ℕ) (ps : List Plain) (i : ℕ) (p : Plain) → slice_get ps i ≡ Some p → new ≡ out ++ written p
    → out ++ flat_map written (drop i ps) ≡ all → new ++ flat_map written (drop (i + 1) ps) ≡ all
written_more out new all ps i p here is left =
    ap (λ o. o ++ flat_map written (drop (i + 1) ps)) is ∙ append_assoc out (written p) (flat_map written (drop (i + 1) ps))
    ∙ sym (ap (λ l. out ++ flat_map written l) (drop_at ps i p here)) ∙ left

pub written_whole : (out : List ℕ) (ps : List Plain) (i n : ℕ) → n ≡ length ps → n ≤ i → true ≡ list_all is_scalar ps
    → out ++ flat_map written (drop i ps) ≡ flat_map written ps → text out ≡ strcat_value ps
written_whole out ps i n count past scalars left =
    ap text (sym (append-nil out) ∙ sym (at_end (λ l. out ++ flat_map written l) ps i n count past) ∙ left)
    ∙ ap (λ b. cond b (text (flat_map written ps)) error) scalars

-- where some of it is too long for a value, so is the whole
pub written_too_long : (out rest : List ℕ) (ps : List Plain) → 65535 < length out → true ≡ list_all is_scalar ps → out ++ rest ≡ flat_map written ps
    → error ≡ bounded (strcat_value ps)
written_too_long out rest ps long scalars is =
    let heavy : nat_lt weight_limit (1 + length (out ++ rest)) ≡ true = grind (arith, nat_tests, long, length-append out rest) in
    sym (ap (λ b. if b then error else text (out ++ rest)) heavy)
    ∙ ap (λ bytes. bounded (text bytes)) is
    ∙ ap (λ b. bounded (cond b (text (flat_map written ps)) error)) scalars
