use Rattle.std.proofs.Common.{Contains, All, subst, sym}
use Rattle.std.proofs.lemmas.List.Elements.{All-push}
use Rattle.ad_store.specs.Store.{stock_of}
use Rattle.dock_match.specs.Pool.{slot_at}
use Rattle.bilateral_match.specs.declared.member.Member.{Member}
use Rattle.bilateral_match.proofs.ShortlistLemmas.{slots-more}
use Rattle.bilateral_match.proofs.shortlists.slots_of.Goals as goal

pub loop-member-preserved : goal.loop-member-preserved
loop-member-preserved c =
    let stock = stock_of c.args.store.now in
    record {
      slots =
          slots-more (λ (m : Member). slot_at stock m.place) c.args.members.now c.loop-member.member-index _ c.loop-member.slots c.push.new.self
          c.slot_of.result c.loop-member-test.true c.loop-member.invariant.slots c.in_ok-push.ensures.ok c.slot_of.ensures.slot;
      held = subst (All (Contains stock.slots)) (sym c.in_ok-push.ensures.ok)
          (All-push (Contains stock.slots) c.loop-member.slots c.slot_of.result c.loop-member.invariant.held c.slot_of.ensures.held);
    }
