-- The resources of an offer, checked one after another.
use Rattle.std.proofs.Common.{◌≡◌, ℕ, zero, suc, ◌+◌, ◌-◌, ◌<◌, ◌≤◌, Bool, true, false, not, if◌then◌else◌, List, [], ◌∷◌}
use Rattle.std.proofs.Common.{◌++◌, get_or, length, sum_by, take, None, Some, refl, sym, ◌∙◌, ap, arith, add-one, add-suc, add-zero}
use Rattle.std.specs.Prelude.{find, option_map, slice_index}
use Rattle.std.specs.List.{range_with_len}
use Rattle.std.proofs.lemmas.List.{length_push}
use Rattle.std.proofs.lemmas.List.Sums.{sum_by_push}
use Rattle.ad_tree.specs.Ad.{ad_frames}
use Rattle.ad_tree.specs.Frames.{Frame}
use Rattle.ad_tree.specs.declared.request.Request.{Request}
use Rattle.ad_store.specs.Stock.{Stock}
use Rattle.eval_scope.specs.World.{PlainWorld, with_docked}
use Rattle.dock_match.specs.Pool.{ad_in, slots_world}
use Rattle.dock_match.proofs.DockingLemmas.{dock-next}
use Rattle.claim_table.specs.declared.job.Job.{Job}
use Rattle.claim_table.specs.Claims.{first_failing, passes, ports_of, sum_over, world_at}
use Rattle.claim_table.specs.Jobs.{offer_of}
use Rattle.claim_table.specs.Priorities.{Setting}

-- ---- the first of the numbers that passes a test

module _ (test : ℕ → Bool) where
  found_in : (a n i : ℕ) → i < n → ((k : ℕ) → k < i → test (a + k) ≡ false) → test (a + i) ≡ true
      → find test (range_with_len a n) ≡ Some (a + i)
  found_in a zero i within before here = absurd (omega (arith, within))
  found_in a (suc n) zero within before here =
      let first : a + 0 ≡ a = omega arith in
      ap (λ (b : Bool). if b then Some a else find test (range_with_len (a + 1) n)) (sym (ap test first) ∙ here) ∙ ap (λ k. Some k) (sym first)
  found_in a (suc n) (suc i) within before here =
      let first : a + 0 ≡ a = omega arith in
      let next : (k : ℕ) → a + suc k ≡ a + 1 + k = λ k. omega arith in
      ap (λ (b : Bool). if b then Some a else find test (range_with_len (a + 1) n)) (sym (ap test first) ∙ before 0 (omega arith))
      ∙ found_in (a + 1) n i (omega (arith, within)) (λ k less. sym (ap test (next k)) ∙ before (suc k) (omega (arith, less)))
      (sym (ap test (next i)) ∙ here)
      ∙ ap (λ k. Some k) (sym (next i))

  none_in : (a n : ℕ) → ((k : ℕ) → k < n → test (a + k) ≡ false) → find test (range_with_len a n) ≡ None
  none_in a zero before = refl
  none_in a (suc n) before =
      let first : a + 0 ≡ a = omega arith in
      let next : (k : ℕ) → a + suc k ≡ a + 1 + k = λ k. omega arith in
      ap (λ (b : Bool). if b then Some a else find test (range_with_len (a + 1) n)) (sym (ap test first) ∙ before 0 (omega arith))
      ∙ none_in (a + 1) n (λ k less. sym (ap test (next k)) ∙ before (suc k) (omega (arith, less)))

  -- the numbers from 0 on
  pub found_at : (n i : ℕ) → i < n → ((k : ℕ) → k < i → test k ≡ false) → test i ≡ true → find test (range_with_len 0 n) ≡ Some i
  found_at n i within before here =
      let same : (k : ℕ) → 0 + k ≡ k = λ k. omega arith in
      found_in 0 n i within (λ k less. ap test (same k) ∙ before k less) (ap test (same i) ∙ here) ∙ ap (λ k. Some k) (same i)

  pub none_at : (n : ℕ) → ((k : ℕ) → k < n → test k ≡ false) → find test (range_with_len 0 n) ≡ None
  none_at n before =
      let same : (k : ℕ) → 0 + k ≡ k = λ k. omega arith in
      none_in 0 n (λ k less. ap test (same k) ∙ before k less)

range-last : (a n j : ℕ) → a + n ≡ j → range_with_len a (suc n) ≡ range_with_len a n ++ j ∷ []
range-last a zero j is = let first : a ≡ j = omega (arith, is) in ap (λ k. k ∷ []) first
range-last a (suc n) j is = ap (λ l. a ∷ l) (range-last (a + 1) n j (omega (arith, is)))

-- ---- an offer

module _ (moment : ℕ) (stock : Stock) (request : Request) (slots : List ℕ) where
  -- what the docks of the first so many give together
  pub upto : (ℕ → PlainWorld → ℕ) → ℕ → ℕ
  upto gives n = sum_by (λ port. gives (slice_index slots port) (world_at moment stock request slots port)) (range_with_len 0 n)

  pub upto-next : (gives : ℕ → PlainWorld → ℕ) (n : ℕ)
      → upto gives (n + 1) ≡ upto gives n + gives (slice_index slots n) (world_at moment stock request slots n)
  unfolding upto
  upto-next gives n =
      let count : ℕ → ℕ = λ port. gives (slice_index slots port) (world_at moment stock request slots port) in
      ap (λ k. sum_by count (range_with_len 0 k)) (add-one n) ∙ ap (sum_by count) (range-last 0 n n (omega arith))
      ∙ sum_by_push count (range_with_len 0 n) n

  upto-grows : (gives : ℕ → PlainWorld → ℕ) (n k : ℕ) → upto gives n ≤ upto gives (n + k)
  upto-grows gives n zero = let same = ap (upto gives) (add-zero n) in omega (arith, same)
  upto-grows gives n (suc k) =
      let same = ap (upto gives) (add-suc n k) in
      let next = upto-next gives (n + k) in
      let one = ap (upto gives) (add-one (n + k)) in
      omega (arith, same, one, next, upto-grows gives n k)

  pub upto-most : (gives : ℕ → PlainWorld → ℕ) (n : ℕ) → n ≤ length slots → upto gives n ≤ upto gives (length slots)
  upto-most gives n within =
      let rest : n + (length slots - n) ≡ length slots = omega (arith, within) in
      let same = ap (upto gives) rest in
      let more = upto-grows gives n (length slots - n) in
      omega (arith, same, more)

  -- the world in which one more is docked is that of its port
  pub docked-at : (i : ℕ) (w v : PlainWorld) (fs : List Frame) → i < length slots → w ≡ slots_world moment stock request (take i slots)
      → fs ≡ ad_in stock (get_or slots i 0) → v ≡ with_docked w fs → v ≡ world_at moment stock request slots i
  docked-at i w v fs within before ad docked =
      dock-next moment stock request slots i 0 w v fs within before ad docked ∙ ap (λ n. slots_world moment stock request (take n slots)) (add-one i)

-- where one more is docked to the world of a request, the request is the same
module _ (moment : ℕ) (stock : Stock) (request : Request) (slots : List ℕ) (w v : PlainWorld) (fs : List Frame)
    (before : w ≡ slots_world moment stock request slots) (docked : v ≡ with_docked w fs) where
  pub docked-request : v.request ≡ ad_frames request.ad
  docked-request = ap (λ (u : PlainWorld). u.request) docked ∙ ap (λ (u : PlainWorld). u.request) before

  pub docked-ports : v.ports ≡ request.ports
  docked-ports = ap (λ (u : PlainWorld). u.ports) docked ∙ ap (λ (u : PlainWorld). u.ports) before

pub docked-some : (w v : PlainWorld) (fs : List Frame) → v ≡ with_docked w fs → 0 < length v.docked
docked-some w v fs docked =
    let long = ap {B = ℕ} (λ (u : PlainWorld). length u.docked) docked in
    omega (arith, long, length_push w.docked fs)

-- what is checked of the offer to a job
module _ (moment : ℕ) (stock : Stock) (settings : List Setting) (jobs : List Job) (number : ℕ) (job : Job) (slots : List ℕ)
    (offered : slots ≡ offer_of job.standing) where
  abbrev fails-at : ℕ → Bool
  fails-at port = not (passes moment stock settings jobs number (slice_index slots port) (world_at moment stock job.request slots port))

  pub first-found : (i : ℕ) → i < length slots
      → ((k : ℕ) → k < i → passes moment stock settings jobs number (slice_index slots k) (world_at moment stock job.request slots k) ≡ true)
      → passes moment stock settings jobs number (slice_index slots i) (world_at moment stock job.request slots i) ≡ false
      → Some (slice_index slots i) ≡ first_failing moment stock settings jobs number job.request (offer_of job.standing)
  first-found i within before here =
      sym (ap (first_failing moment stock settings jobs number job.request) (sym offered)
      ∙ ap (option_map (slice_index slots)) (found_at fails-at (length slots) i within (λ k less. ap not (before k less)) (ap not here)))

  pub all-pass : (i : ℕ) → length slots ≤ i
      → ((k : ℕ) → k < i → passes moment stock settings jobs number (slice_index slots k) (world_at moment stock job.request slots k) ≡ true)
      → None ≡ first_failing moment stock settings jobs number job.request (offer_of job.standing)
  all-pass i past before =
      sym (ap (first_failing moment stock settings jobs number job.request) (sym offered)
      ∙ ap (option_map (slice_index slots)) (none_at fails-at (length slots) (λ k less. ap not (before k (omega (arith, past, less))))))

-- what is counted stays within the sum over the offer
module _ (moment : ℕ) (stock : Stock) (job : Job) (slots : List ℕ) (offered : slots ≡ offer_of job.standing) (gives : ℕ → PlainWorld → ℕ) where
  upto-all : upto moment stock job.request slots gives (length slots) ≡ sum_over gives moment stock job
  unfolding upto
  upto-all = ap (λ s. sum_by (λ port. gives (slice_index s port) (world_at moment stock job.request s port)) (ports_of s)) offered

  pub counted-most : (i : ℕ) → i ≤ length slots → upto moment stock job.request slots gives i ≤ sum_over gives moment stock job
  counted-most i within = let most = upto-most moment stock job.request slots gives i within in let all = upto-all in omega (arith, most, all)

  pub counted-within : (i : ℕ) (v : PlainWorld) → i < length slots → v ≡ world_at moment stock job.request slots i
      → upto moment stock job.request slots gives i + gives (slice_index slots i) v ≤ sum_over gives moment stock job
  counted-within i v within world =
      let next = upto-next moment stock job.request slots gives i in
      let most = counted-most (i + 1) (omega (arith, within)) in
      let here = ap (gives (slice_index slots i)) world in
      omega (arith, next, most, here)
