use Rattle.std.proofs.Common.{◌∙◌, ap, sym}
use Rattle.ad_value.specs.Plain.{list, plain, plains_of}
use Rattle.builtin_funcs.proofs.CompareLemmas.{any_compare_at}
use Rattle.builtin_funcs.proofs.lists.any_compare.Goals as goal

pub returns-in-Str-List : goal.returns-in-Str-List
returns-in-Str-List c =
    any_compare_at _ _ _ _ c.bytes.result.now _ c.deref.result.now (ap plain c.in-Str-List.is-0)
    (ap plain c.in-Str-List.is-1 ∙ ap (λ ps. list (plains_of ps)) (sym c.deref.ensures)) c.bytes.ensures c.any_by_spelling.ensures
