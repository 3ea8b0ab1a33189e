use Rattle.std.proofs.Common.{◌∷◌, ◌++◌, ℕ, take, drop, ◌∙◌, ap}
use Rattle.job_classes.specs.Shown.{place_among}
use Rattle.job_classes.proofs.EntryLemmas.{entered-place}
use Rattle.job_classes.proofs.key.enter.Goals as goal

pub returns : goal.returns
returns c =
    c.in_ok-insert.ensures.items
    ∙ ap (λ (n : ℕ). take n c.args.entries.now.items ++ (c.args.entry ∷ drop n c.args.entries.now.items))
    (c.place_among-place.ensures.place ∙ ap (λ n. place_among n c.deref.result.now) c.bytes.ensures
    ∙ ap (place_among c.args.entry.0) c.deref.ensures.value)
    ∙ entered-place c.args.entry c.args.entries.now.items
