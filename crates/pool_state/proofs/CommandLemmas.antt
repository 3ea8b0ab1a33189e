-- The step of each command that changes the ads or the jobs. The definition of a step is long, so answers look through it here
-- alone, where the state and the words are variables.
use Rattle.std.proofs.Common.{arith, ◌≡◌, ◌≤◌, ◌+◌, ◌*◌, ℕ, List, length, refl}
use Rattle.ad_parser.specs.Outcomes.{ad_outcome}
use Rattle.pool_script.specs.declared.command.Command.TheVariants as command
use Rattle.pool_books.specs.Claiming.{claim, offered_for_claim, release, undecided_for_claim}
use Rattle.pool_books.specs.State.{State}
use Rattle.pool_commands.specs.Ads.{advertise, withdraw}
use Rattle.pool_commands.specs.Jobs.{remove, set_priority, submit}
use Rattle.pool_state.specs.Step.{allowance, looks, step, undecided}

pub step-Advertise : (s : State) (name : List ℕ) (lifetime : ℕ) (block : List ℕ)
    → step s (command.Advertise name lifetime block) ≡ advertise s name lifetime (length block) (ad_outcome block)
unfolding step
step-Advertise s name lifetime block = refl

pub step-Withdraw : (s : State) (name : List ℕ) → step s (command.Withdraw name) ≡ withdraw s name
unfolding step
step-Withdraw s name = refl

pub step-Submit : (s : State) (job user block : List ℕ) → step s (command.Submit job user block) ≡ submit s job user (length block) (ad_outcome block)
unfolding step
step-Submit s job user block = refl

pub step-Remove : (s : State) (job : List ℕ) → step s (command.Remove job) ≡ remove s job
unfolding step
step-Remove s job = refl

pub step-Priority : (s : State) (user : List ℕ) (n : ℕ) → step s (command.Priority user n) ≡ set_priority s user n
unfolding step
step-Priority s user n = refl

pub step-Claim : (s : State) (job : List ℕ) → step s (command.Claim job) ≡ claim s job
unfolding step
step-Claim s job = refl

pub step-Release : (s : State) (job : List ℕ) → step s (command.Release job) ≡ release s job
unfolding step
step-Release s job = refl

-- what a claim may cost
pub allowance-Claim : (s : State) (job : List ℕ) → allowance s (command.Claim job) ≡ 5 * undecided_for_claim s job
unfolding allowance undecided
allowance-Claim s job = refl

pub looks-Claim : (s : State) (job : List ℕ) → looks s (command.Claim job) ≡ 9 * offered_for_claim s job
unfolding looks
looks-Claim s job = refl

pub less-allowed : (before after n allowed : ℕ) → allowed ≡ 5 * n → after ≤ before + 4 * n → after ≤ before + allowed
less-allowed before after n allowed is most = omega arith
