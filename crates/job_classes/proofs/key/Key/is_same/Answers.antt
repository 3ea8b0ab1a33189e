use Rattle.std.proofs.Common.{◌∙◌, ap, sym}
use Rattle.std.proofs.lemmas.Bool.{ne_eqb}
use Rattle.job_classes.specs.Keys.{digest_behind}
use Rattle.job_classes.proofs.EntryLemmas.{same_key-digests}
use Rattle.job_classes.proofs.key.Key.is_same.Goals as goal

pub returns-else-self-other : goal.returns-else-self-other
returns-else-self-other c =
    let one = c.self.inside.told ∙ ap (digest_behind 0) c.self.view_is in
    let other = c.other.inside.told ∙ ap (digest_behind 0) c.other.view_is in
    ne_eqb c.self.inside.digest c.other.inside.digest c.if-self-other.false
    ∙ same_key-digests c.args.self.now c.args.other.now (λ same. c.if-self-other.false (one ∙ same ∙ sym other))
