use Rattle.std.proofs.Common.{refl, ◌≡◌, ◌∙◌, ◌∷◌, ◌++◌, ap, sym, subst, false, is_some, Option, None, Some, ℕ}
use Rattle.ad_tree.specs.declared.ad.Ad.{Ad}
use Rattle.ad_tree.specs.Ad.{ad_frames}
use Rattle.ad_tree.specs.Frames.{attributes_at}
use Rattle.literal_index.specs.Changes.{HasTaken}
use Rattle.literal_index.specs.Rows.{row_of}
use Rattle.literal_index.specs.Shown.{settled_under}
use Rattle.literal_index.proofs.RowLemmas.{left}
use Rattle.literal_index.proofs.WaitingLemmas.{kept-left, settled-inside, waited-outside}
use Rattle.literal_index.proofs.index.Index.remove.Goals as goal

pub returns-then-is_some : goal.returns-then-is_some
returns-then-is_some c before after kept =
    let old = c.args.self.now in
    let fs = ad_frames c.args.ad.now in
    kept-left c.args.slot fs before after old.entries old.slots old.waiting c.remove.new.self kept c.remove.ensures.updates.0 old.entries old.slots
    (waited-outside c.args.slot fs before after old.entries old.slots old.waiting c.remove.new.self kept c.remove.ensures.updates.0
    (ap is_some (sym c.remove.ensures.value) ∙ sym c.is_some.ensures ∙ c.if-is_some.true))

pub returns : goal.returns
returns c before after kept =
    let old = c.args.self.now in
    let fs = ad_frames c.args.ad.now in
    let P : ℕ → Type 0 = λ n. HasTaken n c.args.slot (attributes_at fs 0) old.entries c.take_attributes.new.entries in
    let none = sym c.remove.ensures.value ∙ nobody c.remove.result (sym c.is_some.ensures ∙ c.if-is_some.false) in
    kept-left c.args.slot fs before after old.entries old.slots old.waiting c.remove.new.self kept c.remove.ensures.updates.0 c.take_attributes.new.entries
    c.remove-2.new.self
    (left c.args.slot fs (settled_under old.waiting (before ++ row_of c.args.slot fs ∷ after)) old.entries c.take_attributes.new.entries old.slots
    c.remove-2.new.self kept.settled
    (settled-inside c.args.slot fs before after old.entries old.slots old.waiting c.remove.new.self kept c.remove.ensures.updates.0 none)
    (subst P c.count.ensures c.take_attributes.ensures) c.remove-2.ensures.updates.0)
  where
    nobody : (o : Option Ad) → is_some o ≡ false → o ≡ None
    nobody None gone = refl
    nobody (Some ad) gone = absurd (cc)
