use Rattle.std.proofs.Common.{Vec, Global, ℕ, List, bytes_eq, ◌∙◌, ap}
use Rattle.std.specs.List.{list_any}
use Rattle.significant_attrs.proofs.SetLemmas.{asked, set-has}
use Rattle.significant_attrs.proofs.name_set.NameSet.has.Goals as goal

pub returns : goal.returns
returns c =
    c.contains.ensures ∙ asked c.bytes.result.now c.args.self.now.names.keys
    ∙ ap (λ (n : List ℕ). list_any (λ key. bytes_eq n key.items) c.args.self.now.names.keys) (c.bytes.ensures ∙ c.in_ok-small.ensures)
    ∙ set-has (λ (key : Vec ℕ Global). key.items) c.args.self.now.names.keys c.args.name.now c.args.self.now.are_folded
