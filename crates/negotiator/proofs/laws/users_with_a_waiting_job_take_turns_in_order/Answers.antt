use Rattle.negotiator.proofs.UserLemmas.{users-sorted, users-those}
use Rattle.negotiator.proofs.laws.users_with_a_waiting_job_take_turns_in_order.Goals as goal

pub returns : goal.returns
returns c = record {
  those = λ market made user. users-those market made user;
  ordered = λ market made. users-sorted market made;
}
