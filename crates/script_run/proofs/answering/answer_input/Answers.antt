use Rattle.std.proofs.Common.{arith, length-take, refl}
use Rattle.std.proofs.lemmas.Result.{err_from_is_err_and}
use Rattle.script_run.proofs.EndLemmas.{err-words}
use Rattle.pool_steps.proofs.MeterLemmas.{same-none, same-on}
use Rattle.script_run.proofs.ReadingLemmas.{Reading-finish, Reading-lost, Reading-past, Reading-piece, Reading-room, Reading-room_last, Reading-start}
use Rattle.script_run.proofs.ReadingLemmas.{Reading-stopped, take_one}
use Rattle.script_run.proofs.answering.answer_input.Goals as goal

pub loop-left-init : goal.loop-left-init
loop-left-init g c =
    let machine = c.requires in
    record {
      reading = Reading-start g.M.Machine.rules g.met.M.Machine.lawful _ _ _ _ machine.stands machine.over machine.waiting;
      same = same-none c.args.meter.now;
      ratio = omega arith;
      room = refl;
    }

pub answer_end-requires-clause-room : goal.answer_end-requires-clause-room
answer_end-requires-clause-room g c = Reading-room_last g.M.Machine.rules g.met.M.Machine.lawful _ _ _ _ _ _ _ _ _ c.loop-left.invariant.reading

pub returns-then-count-eq0-clause-ends : goal.returns-then-count-eq0-clause-ends
returns-then-count-eq0-clause-ends g c =
    Reading-finish g.M.Machine.rules g.met.M.Machine.lawful _ _ _ _ _ _ _ _ _ c.loop-left.invariant.reading _ _ _ _ _ c.answer_end.result c.in-Ok.ensures.reads
    c.if-count-eq0.true (omega (arith, c.read_piece.auto.buffer, c.loop-left.invariant.room)) c.answer_end.ensures.took c.answer_end.ensures.stopped

pub answer_piece-requires-clause-room : goal.answer_piece-requires-clause-room
answer_piece-requires-clause-room g c =
    Reading-room g.M.Machine.rules g.met.M.Machine.lawful _ _ _ _ _ _ _ _ _ c.loop-left.invariant.reading
    _ (omega (arith, c.in-Ok.ensures.within, length-take c.in-Ok.count c.read_piece.new.buffer))

pub returns-in_err-refused-clause-ends : goal.returns-in_err-refused-clause-ends
returns-in_err-refused-clause-ends g c =
    let stopped =
    Reading-stopped g.M.Machine.rules g.met.M.Machine.lawful _ _ _ _ _ _ _ _ _ c.loop-left.invariant.reading _ _ _ _ _ c.in-Ok.ensures.reads
    (omega (arith, c.in-Ok.ensures.inside, length-take c.in-Ok.count c.read_piece.new.buffer)) c.in-Ok.ensures.within c.in_err-refused.ensures.stopped in
    let exit = err_from_is_err_and c.from_residual.result c.from_residual.ensures.1 in
    rw (exit.1, exit.2) stopped

pub loop-left-preserved : goal.loop-left-preserved
loop-left-preserved g c = record {
  reading =
      Reading-piece g.M.Machine.rules g.met.M.Machine.lawful _ _ _ _ _ _ _ _ _ c.loop-left.invariant.reading _ _ _ _ _ _ _ c.in-Ok.ensures.reads
      c.if-count-eq0.false (omega (arith, c.in-Ok.ensures.inside, length-take c.in-Ok.count c.read_piece.new.buffer)) c.in-Ok.ensures.within
      c.in_ok-refused.ensures.took c.in_ok-refused.ensures.waiting c.in_ok-refused.ensures.over c.in_ok-refused.ensures.stands;
  same = same-on c.loop-left.invariant.same c.answer_piece.ensures.same;
  ratio = omega (arith, c.loop-left.invariant.ratio, c.answer_piece.ensures.ratio);
  room = omega (arith, c.read_piece.auto.buffer, c.loop-left.invariant.room);
}

pub answer_end-requires-in-Ok-eq0-clause-room : goal.answer_end-requires-in-Ok-eq0-clause-room
answer_end-requires-in-Ok-eq0-clause-room g c = Reading-room_last g.M.Machine.rules g.met.M.Machine.lawful _ _ _ _ _ _ _ _ _ c.loop-left.invariant.reading

pub returns-in-Ok-eq0-clause-ends : goal.returns-in-Ok-eq0-clause-ends
returns-in-Ok-eq0-clause-ends g c =
    Reading-finish g.M.Machine.rules g.met.M.Machine.lawful _ _ _ _ _ _ _ _ _ c.loop-left.invariant.reading _ _ _ _ _ c.answer_end-in-Ok-eq0.result
    c.in-Ok-eq0.ensures.reads c.in-Ok-eq0.field-0-test (omega (arith, c.read_piece-2.auto.buffer, c.loop-left.invariant.room))
    c.answer_end-in-Ok-eq0.ensures.took c.answer_end-in-Ok-eq0.ensures.stopped

pub returns-in-Ok-read_piece-clause-ends : goal.returns-in-Ok-read_piece-clause-ends
returns-in-Ok-read_piece-clause-ends g c =
    let one =
    take_one c.read_piece-2.new.buffer c.in-Ok-read_piece.field-0 c.in-Ok-read_piece.ensures.within c.in-Ok-read_piece.field-0-test.1
    (omega (arith, c.read_piece-2.auto.buffer, c.loop-left.invariant.room)) in
    Reading-past g.M.Machine.rules g.met.M.Machine.lawful _ _ _ _ _ _ _ _ _ c.loop-left.invariant.reading _ _ _ one.0 (omega (arith, c.loop-left-test.false))
    c.in-Ok-read_piece.ensures.reads one.1

pub returns-in-Err-clause-ends : goal.returns-in-Err-clause-ends
returns-in-Err-clause-ends g c =
    Reading-lost g.M.Machine.rules g.met.M.Machine.lawful _ _ _ _ _ _ _ _ _ c.loop-left.invariant.reading _ _ _ c.in-Err.ensures.reads

pub returns-in_default-clause-ends : goal.returns-in_default-clause-ends
returns-in_default-clause-ends g c =
    Reading-lost g.M.Machine.rules g.met.M.Machine.lawful _ _ _ _ _ _ _ _ _ c.loop-left.invariant.reading _ _ _ c.in_default.ensures.reads

pub returns-in_default-clause-words : goal.returns-in_default-clause-words
returns-in_default-clause-words g c = err-words

pub returns-in-Err-clause-words : goal.returns-in-Err-clause-words
returns-in-Err-clause-words g c = err-words
