use Rattle.builtin_funcs.proofs.LawLemmas.{items_are_items, items_of-joined}
use Rattle.builtin_funcs.proofs.laws.joined_items_are_items.Goals as goal

pub returns-clause-items : goal.returns-clause-items
returns-clause-items c = items_are_items c.args.delimiters.now c.args.list.now

pub returns-clause-joined : goal.returns-clause-joined
returns-clause-joined c = λ texts one all. items_of-joined c.args.delimiters.now c.args.delimiter texts one all
