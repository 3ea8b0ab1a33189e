use Rattle.std.proofs.Common.{◌≡◌, ◌∙◌, ℕ, List, true, false, ap, is_some, refl, subst}
use Rattle.notice_desk.specs.Desk.{failures_under, without}
use Rattle.pool_state.proofs.HeardLemmas.{unknown-is, unlisten-known, unlisten-unknown}
use Rattle.pool_state.proofs.pool.unlisten.Goals as goal

pub returns-then-close-clause-step : goal.returns-then-close-clause-step
returns-then-close-clause-step g c = (λ pool.
    let old = g.D.Notices.shows c.args.desk.now in
    unlisten-known pool c.args.name.now c.in_ok-named.named old (g.D.Notices.shows c.close.new.self) c.in_ok-named.ensures.text
    (subst (λ (n : List ℕ). is_some (failures_under n old) ≡ true) c.bytes.ensures (c.if-close.ensures.known.0 refl))
    (c.if-close.ensures.rows ∙ ap (λ (n : List ℕ). without n old) c.bytes.ensures))

pub returns-else-close-clause-step : goal.returns-else-close-clause-step
returns-else-close-clause-step g c = (λ pool.
    let old = g.D.Notices.shows c.args.desk.now in
    unlisten-unknown pool c.args.name.now old (g.D.Notices.shows c.close.new.self)
    (subst (λ (n : List ℕ). is_some (failures_under n old) ≡ false) c.bytes.ensures
    (unknown-is (failures_under c.bytes.result.now old) c.if-close.ensures.known))
    (c.if-close.ensures.rows ∙ ap (λ (n : List ℕ). without n old) c.bytes.ensures))
