use Rattle.pool_script.proofs.RestLemmas.{rest_in-length}
use Rattle.pool_script.proofs.ScriptLemmas.{fed_stands, fed_waits}
use Rattle.pool_script.proofs.script.Script.feed.Goals as goal

pub returns-clause-stands : goal.returns-clause-stands
returns-clause-stands c =
    let read =
    c.in_ok-feed.ensures in fed_stands c.self.inside.reader c.feed.new.self c.self.inside.over c.args.self.now c.args.piece.now c.self.view_is c.requires
    c.self.invariant read.sound read.ok

pub returns-clause-waiting : goal.returns-clause-waiting
returns-clause-waiting c =
    let read =
    c.in_ok-feed.ensures in fed_waits c.self.inside.reader c.feed.new.self c.self.inside.over c.args.self.now c.args.piece.now c.self.view_is c.self.invariant
    read.sound read.ok

pub returns-clause-bounded : goal.returns-clause-bounded
returns-clause-bounded c = rest_in-length c.feed.new.self c.feed.ensures.sound

pub returns-in_err-feed-clause-bounded : goal.returns-in_err-feed-clause-bounded
returns-in_err-feed-clause-bounded c = rest_in-length c.feed.new.self c.feed.ensures.sound
