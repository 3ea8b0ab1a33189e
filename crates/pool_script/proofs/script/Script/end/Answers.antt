use Rattle.pool_script.specs.Reading.{rest_kept}
use Rattle.pool_script.proofs.ScriptLemmas.{ended_stands, ended_waits}
use Rattle.pool_script.proofs.script.Script.end.Goals as goal

pub returns-clause-stands : goal.returns-clause-stands
returns-clause-stands c =
    let read =
    c.in_ok-end.ensures in ended_stands c.self.inside.reader c.end.new.self c.self.inside.over c.args.self.now c.self.view_is c.requires c.self.invariant
    read.ok

pub returns-clause-waiting : goal.returns-clause-waiting
returns-clause-waiting c =
    let read = c.in_ok-end.ensures in ended_waits c.self.inside.reader c.end.new.self c.self.inside.over c.args.self.now c.self.view_is c.self.invariant read.ok

pub returns-clause-rest : goal.returns-clause-rest
unfolding rest_kept
returns-clause-rest c = let read = c.in_ok-end.ensures in rw (read.block, read.line)
