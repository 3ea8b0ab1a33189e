-- What is known of classes: the first resource of a list that isn't offered is best, for a class and for its twins.
use Rattle.std.proofs.Common.{◌≡◌, ◌<◌, ◌≤◌, ◌^◌, ℕ, zero, suc, Bool, true, false, not, cond, All, List, [], ◌∷◌}
use Rattle.std.proofs.Common.{◌++◌, length, get_or, set, slice_get, take, Option, None, Some, is_some, refl, ap, sym, ◌∙◌, subst, arith}
use Rattle.std.specs.Prelude.{IfSome, option_map}
use Rattle.std.proofs.lemmas.List.{take_all}
use Rattle.std.proofs.lemmas.List.Elements.{All-head, All-nil, All-push, All-set, All-tail}
use Rattle.ad_tree.specs.Ad.{ad_frames}
use Rattle.ad_tree.specs.Frames.{Frame}
use Rattle.ad_store.specs.Stock.{Stock}
use Rattle.dock_match.specs.Pool.{Pool, pool_of, slot_at}
use Rattle.bilateral_match.specs.Known.{AreKnown}
use Rattle.bilateral_match.specs.Members.{best, best_slot}
use Rattle.bilateral_match.specs.Shortlists.{IsShortlist, first_left}
use Rattle.claim_table.specs.declared.job.Job.{Job}
use Rattle.claim_table.specs.Holders.{holder_of}
use Rattle.claim_table.specs.Jobs.{offered_to}
use Rattle.claim_table.specs.Priorities.{Setting}
use Rattle.significant_attrs.specs.declared.reach.Reach.{Reach}
use Rattle.significant_attrs.specs.Shown.{HasReadAds, ads_in}
use Rattle.significant_attrs.specs.Twins.{AreAllMarked, AreTwins}
use Rattle.job_clusters.specs.declared.class.Class.{Class}
use Rattle.job_clusters.specs.declared.class.Ranked.{Ranked}
use Rattle.job_clusters.specs.declared.clusters.Clusters.{Clusters}
use Rattle.job_clusters.specs.Clusters.{AreClusters, IsClass, IsRanked, is_offered}
use Rattle.job_clusters.specs.Pools.{free_among, pool_for}

-- ---- the first that isn't offered

module _ (offered : ℕ → Bool) where
  pub first-past : (slots : List ℕ) (k : ℕ) → All (λ slot. offered slot ≡ true) (take k slots) → k < length slots
      → offered (get_or slots k 0) ≡ false → slice_get slots k ≡ first_left offered slots
  first-past [] k past within free = absurd (omega (arith, within))
  first-past (s ∷ ss) zero past within free = sym (ap (λ b. cond (not b) (Some s) (first_left offered ss)) free)
  first-past (s ∷ ss) (suc k) past within free =
      first-past ss k (All-tail (λ slot. offered slot ≡ true) s (take k ss) past) (omega (arith, within)) free
      ∙ sym (ap (λ b. cond (not b) (Some s) (first_left offered ss)) (All-head (λ slot. offered slot ≡ true) s (take k ss) past))

  none-first : (slots : List ℕ) → All (λ slot. offered slot ≡ true) slots → slice_get slots (length slots) ≡ first_left offered slots
  none-first [] all = refl
  none-first (s ∷ ss) all =
      none-first ss (All-tail (λ slot. offered slot ≡ true) s ss all)
      ∙ sym (ap (λ b. cond (not b) (Some s) (first_left offered ss)) (All-head (λ slot. offered slot ≡ true) s ss all))

  pub none-left : (slots : List ℕ) (k : ℕ) → All (λ slot. offered slot ≡ true) (take k slots) → length slots ≤ k
      → slice_get slots (length slots) ≡ first_left offered slots
  none-left slots k past end = none-first slots (subst (All (λ slot. offered slot ≡ true)) (take_all k slots end) past)

  pub all-past : (slots : List ℕ) (k n : ℕ) → All (λ slot. offered slot ≡ true) (take k slots) → length slots ≤ k → length slots ≤ n
      → All (λ slot. offered slot ≡ true) (take n slots)
  all-past slots k n past end long = subst (All (λ slot. offered slot ≡ true)) (take_all k slots end ∙ sym (take_all n slots long)) past

  first-free : (slots : List ℕ) → IfSome (first_left offered slots) (λ slot. offered slot ≡ false)
  first-free [] = tt
  first-free (s ∷ ss) = by (offered s) refl (first-free ss)
    where
      by : (b : Bool) → offered s ≡ b → IfSome (first_left offered ss) (λ slot. offered slot ≡ false)
          → IfSome (cond (not b) (Some s) (first_left offered ss)) (λ slot. offered slot ≡ false)
      by true e rest = rest
      by false e rest = e

  pub left-free : (slots : List ℕ) (slot : Option ℕ) → slot ≡ first_left offered slots → IfSome slot (λ s. offered s ≡ false)
  left-free slots slot is = subst (λ (o : Option ℕ). IfSome o (λ s. offered s ≡ false)) (sym is) (first-free slots)

-- ---- whether a slot is offered

pub is-taken : (jobs : List Job) (slot : ℕ) (o : Option ℕ) (none b : Bool) → o ≡ offered_to slot jobs → is_some o ≡ not none → none ≡ b
    → is_offered jobs slot ≡ not b
is-taken jobs slot o none b is shown same = ap is_some (sym is) ∙ shown ∙ ap not same

-- ---- lists of resources

module _ (moment : ℕ) (stock : Stock) (settings : List Setting) (jobs : List Job) where
  -- the pool once more is offered
  abbrev pub pool_with : (ℕ → Bool) → Pool
  pool_with more = pool_of moment stock more (holder_of settings jobs)

  pub ranked-first : (request : List Frame) (number : ℕ) (slots : List ℕ)
      → IsShortlist moment stock (is_offered jobs) (holder_of settings jobs) request number slots
      → IsRanked moment stock settings jobs request number (record { slots = slots; passed = 0 })
  ranked-first request number slots list = record { list = list; passed = All-nil (λ slot. is_offered jobs slot ≡ true) }

  module _ (request : List Frame) (number : ℕ) (ranked : Ranked) (is : IsRanked moment stock settings jobs request number ranked) where
    pub ranked-best : (slot : Option ℕ) → slot ≡ first_left (is_offered jobs) ranked.slots
        → slot ≡ best_slot stock (pool_for moment stock settings jobs) request number
    ranked-best slot first = first ∙ sym (is.list (is_offered jobs) (λ s e. e))

    pub ranked-further : (after : Ranked) → after.slots ≡ ranked.slots → All (λ slot. is_offered jobs slot ≡ true) (take after.passed after.slots)
        → IsRanked moment stock settings jobs request number after
    ranked-further after same passed = record {
      list = subst (λ (slots : List ℕ). IsShortlist moment stock (is_offered jobs) (holder_of settings jobs) request number slots) (sym same) is.list;
      passed = passed;
    }

    -- a list for a request is one for another with the same best members
    pub ranked-along : (other : List Frame) → ((more : ℕ → Bool) → best (pool_with more) other number ≡ best (pool_with more) request number)
        → IsRanked moment stock settings jobs other number ranked
    ranked-along other same = record {
      list = λ more grows. ap (option_map (λ m. slot_at stock m.place)) (same more) ∙ is.list more grows;
      passed = is.passed;
    }

  -- ---- classes

  -- what is best for a class's ad is best for its twins
  pub twins-best : (class : Class) (other : List Frame) → IsClass moment stock settings jobs class → AreTwins class.marks.items (ad_frames class.ad) other
      → ((marks : List Bool) (pool : Pool) (number : ℕ) → AreAllMarked (ads_in pool.ads) (ad_frames class.ad) marks
      → AreTwins marks (ad_frames class.ad) other → best pool (ad_frames class.ad) number ≡ best pool other number)
      → (more : ℕ → Bool) → best (pool_with more) (ad_frames class.ad) class.number ≡ best (pool_with more) other class.number
  twins-best class other is twins law more = law class.marks.items (pool_with more) class.number is.marked twins

  pub new-class : (class : Class) (request : List Frame) → ad_frames class.ad ≡ request → class.ranked ≡ None
      → AreAllMarked (ads_in stock.ads) request class.marks.items → IsClass moment stock settings jobs class
  new-class class request same none all = record {
    marked = subst (λ (frames : List Frame). AreAllMarked (ads_in stock.ads) frames class.marks.items) (sym same) all;
    ranked = subst (λ (o : Option Ranked). IfSome o (IsRanked moment stock settings jobs (ad_frames class.ad) class.number)) (sym none) tt;
  }

  pub class-list : (class : Class) (ranked : Ranked) → class.ranked ≡ Some ranked → IsClass moment stock settings jobs class
      → IsRanked moment stock settings jobs (ad_frames class.ad) class.number ranked
  class-list class ranked some is =
      subst (λ (o : Option Ranked). IfSome o (IsRanked moment stock settings jobs (ad_frames class.ad) class.number)) some is.ranked

  pub class-ranked : (class : Class) (list : Option Ranked) → IsClass moment stock settings jobs class
      → IfSome list (IsRanked moment stock settings jobs (ad_frames class.ad) class.number)
      → IsClass moment stock settings jobs (record class { ranked = list })
  class-ranked class list is ranked = record { marked = is.marked; ranked = ranked }

  pub no-clusters : (clusters : Clusters) → clusters.reach ≡ None → clusters.classes.items ≡ [] → AreKnown moment stock.ads clusters.known
      → clusters.free ≡ free_among stock jobs → clusters.free ≤ 10 ^ 4 → AreClusters moment stock settings jobs clusters
  no-clusters clusters reach classes known free few = record {
    reach = subst (λ (o : Option Reach). IfSome o (λ r. HasReadAds r stock.ads)) (sym reach) tt;
    classes = subst (All (IsClass moment stock settings jobs)) (sym classes) (All-nil (IsClass moment stock settings jobs));
    known = known;
    free = free;
    few = few;
  }

  module _ (clusters : Clusters) (are : AreClusters moment stock settings jobs clusters) where
    pub one-changed : (after : Clusters) (k : ℕ) (class : Class) → after.reach ≡ clusters.reach
        → after.classes.items ≡ set clusters.classes.items k class
        → AreKnown moment stock.ads after.known → after.free ≡ clusters.free → IsClass moment stock settings jobs class
        → AreClusters moment stock settings jobs after
    one-changed after k class reach classes known free is = record {
      reach = subst (λ (o : Option Reach). IfSome o (λ r. HasReadAds r stock.ads)) (sym reach) are.reach;
      classes = subst (All (IsClass moment stock settings jobs)) (sym classes)
          (All-set (IsClass moment stock settings jobs) clusters.classes.items k class is are.classes);
      known = known;
      free = free ∙ are.free;
      few = let few = are.few in omega (arith, free, few);
    }

    pub one-more : (after : Clusters) (class : Class) → after.reach ≡ clusters.reach → after.classes.items ≡ clusters.classes.items ++ class ∷ []
        → after.known ≡ clusters.known → after.free ≡ clusters.free → IsClass moment stock settings jobs class
        → AreClusters moment stock settings jobs after
    one-more after class reach classes known free is = record {
      reach = subst (λ (o : Option Reach). IfSome o (λ r. HasReadAds r stock.ads)) (sym reach) are.reach;
      classes = subst (All (IsClass moment stock settings jobs)) (sym classes)
          (All-push (IsClass moment stock settings jobs) clusters.classes.items class are.classes is);
      known = subst (AreKnown moment stock.ads) (sym known) are.known;
      free = free ∙ are.free;
      few = let few = are.few in omega (arith, free, few);
    }
