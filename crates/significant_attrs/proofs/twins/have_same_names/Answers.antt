use Rattle.std.proofs.Common.{◌≡◌, arith, not, rules, ap, sym, true≢false, ◌∙◌}
use Rattle.std.specs.Cmp.Lexicographic.{bytes_decides}
use Rattle.ad_tree.specs.Ad.{ad_frames}
use Rattle.significant_attrs.proofs.CompareLemmas.{name-along, names-same}
use Rattle.significant_attrs.proofs.twins.have_same_names.Goals as goal

pub returns-then-ne : goal.returns-then-ne
returns-then-ne c = (
  λ no. search rules,
  λ same.
      let names : c.name.result.now ≡ c.name-in-loop-k.result.now =
      cc (name-along (ad_frames c.args.one.now) (ad_frames c.args.other.now) c.loop-k.k same, c.name.ensures, c.name-in-loop-k.ensures) in
      absurd (true≢false (sym c.if-ne.true ∙ c.ne.ensures ∙ ap not ((bytes_decides c.name.result.now c.name-in-loop-k.result.now).1 names))),
)

pub returns : goal.returns
returns c = (
  λ yes. names-same (ad_frames c.args.one.now) (ad_frames c.args.other.now) c.loop-k.k (omega arith) (omega arith) c.loop-k.invariant,
  λ same. search rules,
)
