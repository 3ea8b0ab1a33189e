use borrow.Follows.Closed.{read_of}
use Rattle.std.specs.Option.{ghost_name_of}
use Rattle.std.proofs.Common.{reverse}
use Rattle.ad_builder.proofs.StackLemmas.{last-set, last-first, last-none}
use Rattle.ad_builder.proofs.stack.Stack.last_mut.Goals as goal

pub returns : goal.returns
returns g c =
    let items = c.self.inside.items in
    rw (← c.self.view_is) (
      λ t. read_of (ghost_name_of c.last_mut.result) (λ (w : g.row.T.Denot). last-set items.items items.len w items.ok.0 t) (reverse items.items),
      record {
        lends = tt;
        some = last-first items.items items.len c.last_mut.result items.ok.0 c.last_mut.ensures.variant.0 c.last_mut.ensures.value;
        none = last-none items.items items.len c.last_mut.result items.ok.0 c.last_mut.ensures.variant.1;
      },
    )
