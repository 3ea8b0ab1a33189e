-- What a parse answers, as a step of the pool.
use Rattle.std.proofs.Common.{◌≡◌, ℕ, ◌-◌, ◌<◌, ◌≤◌, ltb, length, arith, true, false, List, refl, sym, ◌∙◌}
use Rattle.std.proofs.lemmas.Bool.Decides.{nat_tests}
use Rattle.pool_replies.specs.declared.refusal.Refusal.TheVariants.{ClockBack}
use Rattle.pool_replies.specs.declared.reply.Reply.{Reply}
use Rattle.pool_replies.specs.declared.reply.Reply.TheVariants.{Clock}
use Rattle.ad_store.specs.Stock.{Advert}
use Rattle.pool_books.specs.Expiry.{has_expired, live_ads}
use Rattle.pool_books.specs.Queue.{without_resources}
use Rattle.pool_books.specs.State.{QueuedJob, State, refused}
use Rattle.pool_state.specs.Step.{clock}

-- ---- the clock

-- it doesn't go back
pub clock-back : (s : State) (n : ℕ) → n < s.moment → ◌≡◌ {A = State × Reply} (clock s n) (refused s ClockBack)
clock-back s n back = let tested : ltb n s.moment ≡ true = grind (arith, nat_tests, back) in rw tested refl

-- it moves on, and the ads that are no longer live leave
pub clock-moves : (s : State) (n expired : ℕ) (after : List Advert) (queue : List QueuedJob) → s.moment ≤ n → after ≡ live_ads n s.ads
    → queue ≡ without_resources (has_expired n s.ads) s.jobs → expired ≡ length s.ads - length (live_ads n s.ads)
    → ◌≡◌ {A = State × Reply} (clock s n) (record { moment = n; ads = after; jobs = queue; priorities = s.priorities }, Clock n expired)
clock-moves s n expired after queue on ads jobs count =
    let tested : ltb n s.moment ≡ false = grind (arith, nat_tests, on) in
    let moved : ◌≡◌ {A =
    State × Reply} (clock s n) (
      record {
        moment =
            n;
        ads = live_ads n s.ads;
        jobs = without_resources (has_expired n s.ads) s.jobs;
        priorities = s.priorities;
      },
      Clock n (length s.ads - length (live_ads n s.ads)),
    ) = rw tested refl in
    moved ∙ (λ i. (record { moment = n; ads = sym ads i; jobs = sym jobs i; priorities = s.priorities }, Clock n (sym count i)))
