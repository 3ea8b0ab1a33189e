-- The rows for an operator's spelling and a list.
use Rattle.std.proofs.Common.{◌≡◌, ℕ, List, sym, ◌∙◌, ap}
use Rattle.std.specs.List.{list_all, list_any}
use Rattle.std.specs.Option.{option_map_or}
use Rattle.ad_value.specs.Plain.{Plain, boolean, error, list, plains_of, text}
use Rattle.ad_value.proofs.PlainLemmas.{elements-plains_of}
use Rattle.builtin_funcs.specs.Lists.{all_compare_value, any_compare_value, compares, comparison_named}

pub any_compare_at : (op l x v : Plain) (read spelling : List ℕ) (ps : List Plain) → op ≡ text spelling → l ≡ list (plains_of ps) → read ≡ spelling
    → v ≡ option_map_or (λ o. boolean (list_any (λ e. compares o e x) ps)) (comparison_named read) error → v ≡ any_compare_value op l x
any_compare_at op l x v read spelling ps is_text is_list is_read value =
    value
    ∙ ap (λ s. option_map_or (λ o. boolean (list_any (λ e. compares o e x) ps)) (comparison_named s) error) is_read
    ∙ ap (λ es. option_map_or (λ o. boolean (list_any (λ e. compares o e x) es)) (comparison_named spelling) error) (sym (elements-plains_of ps))
    ∙ sym (ap (λ o. any_compare_value o (list (plains_of ps)) x) is_text)
    ∙ sym (ap (λ m. any_compare_value op m x) is_list)

pub all_compare_at : (op l x v : Plain) (read spelling : List ℕ) (ps : List Plain) → op ≡ text spelling → l ≡ list (plains_of ps) → read ≡ spelling
    → v ≡ option_map_or (λ o. boolean (list_all (λ e. compares o e x) ps)) (comparison_named read) error → v ≡ all_compare_value op l x
all_compare_at op l x v read spelling ps is_text is_list is_read value =
    value
    ∙ ap (λ s. option_map_or (λ o. boolean (list_all (λ e. compares o e x) ps)) (comparison_named s) error) is_read
    ∙ ap (λ es. option_map_or (λ o. boolean (list_all (λ e. compares o e x) es)) (comparison_named spelling) error) (sym (elements-plains_of ps))
    ∙ sym (ap (λ o. all_compare_value o (list (plains_of ps)) x) is_text)
    ∙ sym (ap (λ m. all_compare_value op m x) is_list)
