use Rattle.std.proofs.Common.{ℕ, Bool, List, false, ◌&&◌, ltb, get_or, length, ap, ◌∙◌, rules, tests}
use Rattle.std.specs.List.{list_any, slice_split}
use Rattle.std.specs.Str.{bytes_eq}
use Rattle.std.proofs.lemmas.Iterator.Splits.{YieldsList-from_slice_split}
use Rattle.std.proofs.lemmas.Iterator.Search.{any_from_yields_List}
use Rattle.builtin_funcs.proofs.ItemLemmas.{any-filter, items_of-marks}
use Rattle.builtin_funcs.proofs.string_lists.has_item.Goals as goal

pub returns : goal.returns
returns c =
    let marked : ℕ → Bool = λ byte. get_or c.marks-marks.result byte false in
    any_from_yields_List (λ (part : List ℕ). ltb 0 (length part) && bytes_eq c.args.x.now part) _ _ _ c.any.ensures.ran
    (YieldsList-from_slice_split _ marked c.args.list.now c.split.ensures.rest c.split.ensures.done c.split.ensures.closure (λ x b q k. search (rules, tests)))
    (λ x b q k. search (rules, tests))
    ∙ any-filter (λ (part : List ℕ). ltb 0 (length part)) (bytes_eq c.args.x.now) (slice_split marked c.args.list.now)
    ∙ ap (list_any (bytes_eq c.args.x.now)) (items_of-marks c.args.delimiters.now marked c.marks-marks.ensures c.args.list.now)
