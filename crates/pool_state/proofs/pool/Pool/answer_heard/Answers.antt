use Rattle.pool_state.specs.Notices.{notices}
use Rattle.pool_state.specs.Pool.{state_of}
use Rattle.pool_state.specs.Posting.{desk_of, posts_of_all}
use Rattle.pool_state.proofs.HeardLemmas.{answered-heard, not-unlisten, posted-heard, rows-unlisten, step-unlisten, told-heard, told-unlisten}
use Rattle.pool_state.proofs.pool.Pool.answer_heard.Goals as goal

pub returns-in-Unlisten-clause-step : goal.returns-in-Unlisten-clause-step
returns-in-Unlisten-clause-step g c =
    step-unlisten (state_of c.args.self.now) c.in-Unlisten.name c.args.command.now (g.D.Notices.shows c.args.desk.now) (g.D.Notices.shows c.unlisten.new.desk)
    c.unlisten.result c.in-Unlisten.is c.unlisten.ensures.step

pub returns-in-Unlisten-clause-posted : goal.returns-in-Unlisten-clause-posted
returns-in-Unlisten-clause-posted g c =
    rows-unlisten (state_of c.args.self.now) c.in-Unlisten.name c.args.command.now (g.D.Notices.shows c.args.desk.now) (g.D.Notices.shows c.unlisten.new.desk)
    c.unlisten.result c.in-Unlisten.is c.unlisten.ensures.kept

pub returns-in-Unlisten-clause-told : goal.returns-in-Unlisten-clause-told
returns-in-Unlisten-clause-told g c =
    told-unlisten (state_of c.args.self.now) c.in-Unlisten.name c.args.command.now
    (desk_of (g.D.Notices.shows c.args.desk.now) (g.D.Notices.left c.args.desk.now))
    (desk_of (g.D.Notices.shows c.unlisten.new.desk) (g.D.Notices.left c.unlisten.new.desk)) c.unlisten.result c.in-Unlisten.is c.unlisten.ensures.kept
    c.unlisten.ensures.left

pub returns-in_default : goal.returns-in_default
returns-in_default g c =
    let s = state_of c.args.self.now in
    let command = c.args.command.now in
    let old = g.D.Notices.shows c.args.desk.now in
    let new = g.D.Notices.shows c.answer_and_tell.new.desk in
    let other = not-unlisten command c.in_default.not-Unlisten in
    record {
      step = answered-heard s (state_of c.answer_and_tell.new.self) command old new (posts_of_all (notices s command)) c.answer_and_tell.result other
          c.answer_and_tell.ensures.step c.answer_and_tell.ensures.posted;
      printable = c.answer_and_tell.ensures.printable;
      posted = posted-heard command old new (posts_of_all (notices s command)) c.answer_and_tell.result other c.answer_and_tell.ensures.posted;
      told = told-heard command (desk_of old (g.D.Notices.left c.args.desk.now)) (desk_of new (g.D.Notices.left c.answer_and_tell.new.desk))
          (posts_of_all (notices s command)) c.answer_and_tell.result other c.answer_and_tell.ensures.told;
      unposted = c.answer_and_tell.ensures.unposted;
      none_left = c.answer_and_tell.ensures.none_left;
      cost = c.answer_and_tell.ensures.cost;
      same = c.answer_and_tell.ensures.same;
      ratio = c.answer_and_tell.ensures.ratio;
      looks = c.answer_and_tell.ensures.looks;
    }
