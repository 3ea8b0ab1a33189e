use Rattle.ad_value.specs.Plain.{plain}
use Rattle.ad_value.proofs.IdentityLemmas.{is_same-equal, is_same-itself, is_same-symmetric, is_same-transitive}
use Rattle.ad_value.proofs.laws.is_is_equality.Goals as goal

pub returns-clause-equality : goal.returns-clause-equality
returns-clause-equality c =
    let a = plain c.args.a.now in
    let b = plain c.args.b.now in
    (is_same-equal a b, λ equal. rw equal (is_same-itself b))

pub returns-clause-reflexive : goal.returns-clause-reflexive
returns-clause-reflexive c = is_same-itself (plain c.args.a.now)

pub returns-clause-symmetric : goal.returns-clause-symmetric
returns-clause-symmetric c = is_same-symmetric (plain c.args.a.now) (plain c.args.b.now)

pub returns-clause-transitive : goal.returns-clause-transitive
returns-clause-transitive c = is_same-transitive (plain c.args.a.now) (plain c.args.b.now) (plain c.args.c.now)
