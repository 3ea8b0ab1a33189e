use Rattle.std.proofs.Common.{◌≡◌, [], ◌∷◌, ◌++◌, length, Some, sym, ◌∙◌, ap}
use Rattle.job_classes.specs.Classes.{number_of}
use Rattle.job_classes.proofs.EntryLemmas.{joined-new, joined-old}
use Rattle.job_classes.proofs.classes.Classes.join.Goals as goal

pub returns-in_ok-push-clause-ok : goal.returns-in_ok-push-clause-ok
returns-in_ok-push-clause-ok c =
    let keys : c.deref.result.now ≡ c.args.self.now = c.deref.ensures.value ∙ c.self.view_is in
    let same : number_of c.args.key c.args.self.now ≡ length c.args.self.now =
    sym (c.number_of-number.ensures ∙ ap (number_of c.args.key) keys) ∙ c.if-number-len.true ∙ c.len.ensures ∙ sym c.deref.ensures.len
    ∙ ap (λ l. length l) keys
    in
    c.in_ok-push.ensures.items ∙ ap (λ l. l ++ Some c.args.key ∷ []) c.self.view_is ∙ sym (joined-new c.args.key c.args.self.now same)

pub returns-else-number-len-clause-ok : goal.returns-else-number-len-clause-ok
returns-else-number-len-clause-ok c =
    let keys : c.deref.result.now ≡ c.args.self.now = c.deref.ensures.value ∙ c.self.view_is in
    sym (joined-old c.args.key c.args.self.now (λ same. c.if-number-len.false
    (c.number_of-number.ensures ∙ ap (number_of c.args.key) keys ∙ same ∙ sym (c.len.ensures ∙ sym c.deref.ensures.len ∙ ap (λ l. length l) keys))))
