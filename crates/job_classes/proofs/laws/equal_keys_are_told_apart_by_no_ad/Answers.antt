use Rattle.job_classes.proofs.KeyLemmas.{equal_keys-alike}
use Rattle.job_classes.proofs.laws.equal_keys_are_told_apart_by_no_ad.Goals as goal

pub returns : goal.returns
returns c =
    λ text other_text ads ad moment one other keys stands. equal_keys-alike c.printing_is_one_to_one.ensures text other_text c.args.one.now c.args.other.now
    ads ad moment one other keys stands
