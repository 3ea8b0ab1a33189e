use Rattle.std.proofs.Common.{◌≡◌, true, List, sym, ◌∙◌, ap, subst, arith}
use Rattle.std.specs.List.{AllZip}
use Rattle.std.proofs.lemmas.Result.{on_ok_weaker}
use Rattle.pool_replies.specs.Replies.{is_printable}
use Rattle.pool_replies.specs.declared.reply.Reply.{Reply}
use Rattle.pool_books.specs.State.{State}
use Rattle.pool_books.proofs.HitLemmas.{if_ok}
use Rattle.pool_state.specs.Notices.{notices}
use Rattle.pool_state.specs.Pool.{state_of}
use Rattle.pool_state.specs.Posting.{ArePosted, RowAfter, desk_of, posts_of_all}
use Rattle.pool_state.specs.declared.posting.Notice.{Notice}
use Rattle.pool_state.proofs.HeardLemmas.{notices-by}
use Rattle.pool_state.proofs.PostingLemmas.{on_ok-any, posted-empty}
use Rattle.pool_state.proofs.pool.Pool.answer_and_tell.Goals as goal

pub returns-clause-step : goal.returns-clause-step
unfolding state_of
returns-clause-step g c =
    if_ok c.tell.result _ _ (λ told same. c.in_ok-reply.ensures.step
    ∙ ap (λ (r : Reply). let p : State × Reply = (state_of c.answer-2.new.self, r) in p) (sym same)) c.tell.ensures.same

pub returns-clause-printable : goal.returns-clause-printable
returns-clause-printable g c =
    if_ok c.tell.result _ _ (λ told same. subst (λ (r : Reply). is_printable r ≡ true) (sym same) c.in_ok-reply.ensures.printable) c.tell.ensures.same

pub returns-clause-posted : goal.returns-clause-posted
unfolding state_of
returns-clause-posted g c =
    on_ok_weaker c.tell.result
    (subst (λ (l : List Notice). AllZip (RowAfter (posts_of_all l)) (g.D.Notices.shows c.args.desk.now) (g.D.Notices.shows c.tell.new.desk))
    (notices-by (state_of c.args.self.now) (state_of c.answer-2.new.self) c.args.command.now c.in_ok-reply.reply c.in_ok-granted.granted c.in_ok-stale.stale
    c.in_ok-reply.ensures.step c.in_ok-granted.ensures c.in_ok-stale.ensures))
    c.tell.ensures.posted

pub returns-then-len-eq0-clause-told : goal.returns-then-len-eq0-clause-told
returns-then-len-eq0-clause-told g c =
    on_ok-any c.answer.result (posted-empty (posts_of_all (notices (state_of c.args.self.now) c.args.command.now)) (g.D.Notices.shows c.args.desk.now)
    (g.D.Notices.left c.args.desk.now) (omega (arith, c.len.ensures.len, c.if-len-eq0.true)))

pub returns-clause-told : goal.returns-clause-told
unfolding state_of
returns-clause-told g c =
    on_ok_weaker c.tell.result
    (subst (λ (l : List Notice). ArePosted (posts_of_all l) (desk_of (g.D.Notices.shows c.args.desk.now) (g.D.Notices.left c.args.desk.now))
    (desk_of (g.D.Notices.shows c.tell.new.desk) (g.D.Notices.left c.tell.new.desk)))
    (notices-by (state_of c.args.self.now) (state_of c.answer-2.new.self) c.args.command.now c.in_ok-reply.reply c.in_ok-granted.granted c.in_ok-stale.stale
    c.in_ok-reply.ensures.step c.in_ok-granted.ensures c.in_ok-stale.ensures))
    c.tell.ensures.told
