use Rattle.std.proofs.Common.{◌≡◌, ◌<◌, ◌∙◌, ℕ, List, Option, Some, ap, length, refl, slice_get, subst}
use Rattle.std.specs.Prelude.{IfOk, IfSome}
use Rattle.std.proofs.lemmas.Option.{slice_get_read}
use Rattle.ad_tree.specs.Ad.{ad_frames}
use Rattle.bilateral_match.specs.Members.{best_slot}
use Rattle.job_clusters.specs.declared.class.Class.{Class}
use Rattle.job_clusters.specs.Pools.{pool_for}
use Rattle.job_clusters.specs.Scenes.{jobs_around, settings_in, stock_in}
use Rattle.job_clusters.proofs.ClusterLemmas.{one-changed}
use Rattle.job_clusters.proofs.clusters.choose.Goals as goal

pub returns-in-Some-clause-best : goal.returns-in-Some-clause-best
returns-in-Some-clause-best g c =
    let moment = c.args.scene.now.moment in
    let stock = stock_in c.args.scene.now in
    let pool = pool_for moment stock (settings_in c.args.scene.now) (jobs_around c.args.seeker.now) in
    let classes = c.args.clusters.now.classes in
    let class = c.index_mut.result.now in
    let same = c.deref.ensures.value in
    let few : c.in-Some.k < length classes.items =
    subst (λ (l : List Class). c.in-Some.k < length l) same
    (subst (λ (o : Option ℕ). IfSome o (λ k. k < length c.deref.result.now)) c.in-Some.is c.place_of.ensures.within) in
    let here : slice_get classes.items c.in-Some.k ≡ Some class =
    slice_get_read classes.items (length classes.items) c.in-Some.k class refl few c.index_mut.ensures.value in
    let mine : class.number ≡ c.args.number =
    subst (λ (o : Option ℕ). IfSome o (λ k. (one : Class) → slice_get c.deref.result.now k ≡ Some one → one.number ≡ c.args.number))
    c.in-Some.is c.place_of.ensures.number class (ap (λ (l : List Class). slice_get l c.in-Some.k) same ∙ here) in
    subst (λ (n : ℕ). IfOk c.choose.result (λ slot. slot ≡ best_slot stock pool (ad_frames c.args.seeker.now.request.now.ad) n)) mine c.choose.ensures.best

pub returns-in-Some-clause-clusters : goal.returns-in-Some-clause-clusters
returns-in-Some-clause-clusters g c =
    one-changed c.args.scene.now.moment (stock_in c.args.scene.now) (settings_in c.args.scene.now) (jobs_around c.args.seeker.now)
    c.args.clusters.now c.requires.clusters _ c.in-Some.k c.choose.new.self refl refl c.choose.ensures.known refl c.choose.ensures.class
