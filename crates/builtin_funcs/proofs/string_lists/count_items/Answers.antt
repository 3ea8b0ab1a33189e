use Rattle.std.proofs.Common.{ℕ, Bool, List, false, ltb, get_or, length, ap, ◌∙◌, rules, tests}
use Rattle.std.proofs.lemmas.Iterator.Splits.{YieldsList-from_slice_split}
use Rattle.std.proofs.lemmas.Iterator.Consumers.{YieldsList-at, YieldsList-from_filter, count_from_yields_List}
use Rattle.builtin_funcs.proofs.ItemLemmas.{items_of-marks, length-items_of}
use Rattle.builtin_funcs.proofs.string_lists.count_items.Goals as goal

pub returns-clause-count : goal.returns-clause-count
returns-clause-count c =
    let marked : ℕ → Bool = λ byte. get_or c.marks-marks.result byte false in
    count_from_yields_List _ _ c.count.ensures.ran
    (YieldsList-from_filter _ (λ (part : List ℕ). ltb 0 (length part))
    (YieldsList-at c.filter.ensures.source
    (YieldsList-from_slice_split _ marked c.args.list.now c.split.ensures.rest c.split.ensures.done c.split.ensures.closure (λ x b q k. search (rules, tests))))
    c.filter.ensures.closure (λ x b q k. search (rules, tests)))
    ∙ ap length (items_of-marks c.args.delimiters.now marked c.marks-marks.ensures c.args.list.now)

pub returns-clause-within : goal.returns-clause-within
returns-clause-within c = rw (returns-clause-count c) (length-items_of c.args.delimiters.now c.args.list.now)
