use Rattle.std.proofs.Common.{◌≡◌, All, List, ℕ, ap, rules, slice_get, subst, sym, take, true, ◌∙◌}
use Rattle.std.proofs.lemmas.Option.{gets}
use Rattle.bilateral_match.specs.Shortlists.{first_left}
use Rattle.claim_table.specs.Table.{jobs_of}
use Rattle.job_clusters.specs.Clusters.{is_offered}
use Rattle.job_clusters.proofs.ClusterLemmas.{left-free}
use Rattle.job_clusters.proofs.class.Ranked.first.Goals as goal

pub first_left-self-requires : goal.first_left-self-requires
first_left-self-requires c =
    subst (λ (slots : List ℕ). All (λ slot. is_offered (jobs_of c.args.claims.now) slot ≡ true) (take c.args.self.now.passed slots))
    (sym c.as_slice.ensures) c.requires

pub returns-clause-first : goal.returns-clause-first
returns-clause-first c =
    let found : c.copied.result ≡ slice_get c.as_slice-2.result.now c.first_left-self.result = search (rules, gets) in
    found ∙ ap (λ s. slice_get s c.first_left-self.result) (c.as_slice-2.ensures ∙ sym c.as_slice.ensures) ∙ c.first_left-self.ensures.first
    ∙ ap (first_left (is_offered (jobs_of c.args.claims.now))) c.as_slice.ensures

pub returns-clause-free : goal.returns-clause-free
returns-clause-free c =
    let jobs = jobs_of c.args.claims.now in
    let found : c.copied.result ≡ slice_get c.as_slice-2.result.now c.first_left-self.result = search (rules, gets) in
    left-free (is_offered jobs) c.args.self.now.slots c.copied.result
    (found ∙ ap (λ s. slice_get s c.first_left-self.result) (c.as_slice-2.ensures ∙ sym c.as_slice.ensures) ∙ c.first_left-self.ensures.first
    ∙ ap (first_left (is_offered jobs)) c.as_slice.ensures)

pub returns-clause-passed : goal.returns-clause-passed
returns-clause-passed c =
    subst (λ (slots : List ℕ). All (λ slot. is_offered (jobs_of c.args.claims.now) slot ≡ true) (take c.first_left-self.result slots)) c.as_slice.ensures
    c.first_left-self.ensures.passed
