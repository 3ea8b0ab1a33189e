-- What searches stand on stays, through a mark and through an offer.
use Rattle.std.proofs.Common.{◌≡◌, ◌≤◌, ℕ, Bool, true, false, List, All, length, replicate, set, None, ap, sym, ◌∙◌, subst, ◌⊎◌, inl}
use Rattle.std.proofs.Common.{inr, get_or-set_other}
use Rattle.std.proofs.lemmas.Bool.{cases_eq}
use Rattle.std.proofs.lemmas.List.{length-replicate, length-set}
use Rattle.ad_tree.specs.Ad.{ad_frames}
use Rattle.ad_tree.specs.declared.request.Request.{Request}
use Rattle.ad_candidates.specs.Rows.{rows_of}
use Rattle.dock_match.specs.Pool.{AreStored}
use Rattle.claim_table.specs.declared.job.Job.{Job}
use Rattle.claim_table.specs.declared.job.Stage.{Stage}
use Rattle.claim_table.specs.Holders.{holder_of}
use Rattle.claim_table.specs.Jobs.{jobs_limit, with_standing}
use Rattle.literal_index.specs.Shown.{IsIndex}
use Rattle.job_clusters.specs.declared.scene.Scene.{Scene}
use Rattle.job_clusters.specs.Scenes.{settings_in, stock_in}
use Rattle.negotiator.specs.Budget.{is_idle_at, is_marked}
use Rattle.negotiator.specs.Markets.{AreOwn, found}
use Rattle.negotiator.specs.Scenes.{IsReady}
use Rattle.negotiator.proofs.BudgetLemmas.{none-marked}
use Rattle.negotiator.proofs.JobLemmas.{all-later, found-later, length-later, stored-later}

pub ready-start : (scene : Scene) (jobs : List Job) (failed : List Bool) → IsIndex scene.index.now (rows_of (stock_in scene))
    → AreStored (stock_in scene) (holder_of (settings_in scene) jobs)
    → All (λ (job : Job). AreOwn (ad_frames job.request.ad) job.request.ports) jobs → length jobs ≤ jobs_limit
    → failed ≡ replicate (length jobs) false → IsReady scene jobs failed
ready-start scene jobs failed index stored own few none = record {
  index = index;
  stored = stored;
  ports = own;
  few = few;
  marks = ap length none ∙ length-replicate (length jobs) false;
  known = λ k marked. let no : is_marked failed k ≡ false = ap (λ (f : List Bool). is_marked f k) none ∙ none-marked (length jobs) k in absurd (cc);
}

module _ (scene : Scene) (jobs : List Job) (failed : List Bool) (ready : IsReady scene jobs failed) (i : ℕ) where
  pub ready-given : (slots : List ℕ) → is_idle_at jobs i ≡ true → IsReady scene (with_standing jobs i (Stage.Matched slots)) failed
  ready-given slots idle = record {
    index = ready.index;
    stored = stored-later jobs i slots idle (settings_in scene) (stock_in scene) ready.stored;
    ports = all-later jobs i slots idle (λ (request : Request). AreOwn (ad_frames request.ad) request.ports) ready.ports;
    few = subst (λ (n : ℕ). n ≤ 10000) (sym (length-later jobs i slots idle)) ready.few;
    marks = ready.marks ∙ sym (length-later jobs i slots idle);
    known = λ k marked. found-later jobs i slots idle scene.moment (stock_in scene) (settings_in scene) k (ready.known k marked);
  }

  pub ready-marked : found scene.moment (stock_in scene) (settings_in scene) jobs i ≡ None → IsReady scene jobs (set failed i true)
  ready-marked none = record {
    index = ready.index;
    stored = ready.stored;
    ports = ready.ports;
    few = ready.few;
    marks = length-set failed i true ∙ ready.marks;
    known = λ k marked. by k marked (cases_eq k i);
  }
    where
      by : (k : ℕ) → is_marked (set failed i true) k ≡ true → (k ≡ i) ⊎ (k ≡ i → ⊥)
          → found scene.moment (stock_in scene) (settings_in scene) jobs k ≡ None
      by k marked (inl e) = ap (found scene.moment (stock_in scene) (settings_in scene) jobs) e ∙ none
      by k marked (inr ne) = ready.known k (sym (get_or-set_other failed i k true false ne) ∙ marked)
