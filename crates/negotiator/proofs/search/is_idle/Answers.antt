use Rattle.std.proofs.Common.{ap, sym, ◌∙◌}
use Rattle.claim_table.specs.Table.{jobs_of}
use Rattle.negotiator.proofs.SearchLemmas.{idle-is, is_idle_state}
use Rattle.negotiator.proofs.search.is_idle.Goals as goal

pub returns-in-Idle : goal.returns-in-Idle
returns-in-Idle c =
    ap is_idle_state (sym c.in-Idle.is) ∙ idle-is (jobs_of c.args.claims.now) c.args.i c.standing.result.now c.state.result c.standing.ensures c.state.ensures

pub returns-in-Matched : goal.returns-in-Matched
returns-in-Matched c =
    ap is_idle_state (sym c.in-Matched.is) ∙ idle-is (jobs_of
    c.args.claims.now) c.args.i c.standing.result.now c.state.result c.standing.ensures c.state.ensures

pub returns-in-Claimed : goal.returns-in-Claimed
returns-in-Claimed c =
    ap is_idle_state (sym c.in-Claimed.is) ∙ idle-is (jobs_of
    c.args.claims.now) c.args.i c.standing.result.now c.state.result c.standing.ensures c.state.ensures
