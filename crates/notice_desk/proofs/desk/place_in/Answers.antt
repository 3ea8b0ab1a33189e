use Rattle.std.proofs.Common.{Some, ap, sym, ◌∙◌, true≢false, arith}
use Rattle.std.proofs.lemmas.Slice.Eq.{bytes_eq-Decides}
use Rattle.notice_desk.specs.Sight.{entry_names}
use Rattle.notice_desk.proofs.EntryLemmas.{length-names, name-there}
use Rattle.notice_desk.proofs.NameLemmas.{absent_more, absent_whole, same_name}
use Rattle.notice_desk.proofs.desk.place_in.Goals as goal

pub returns-then-is_named-clause-found : goal.returns-then-is_named-clause-found
returns-then-is_named-clause-found g c =
    let entry = c.index-entries-i.result in
    name-there c.args.entries.now c.loop-i.i entry entry (omega (arith, c.loop-i-test.true)) c.index-entries-i.is
    ∙ ap Some ((bytes_eq-Decides entry.name c.args.name.now).0 (sym c.is_named.ensures ∙ c.if-is_named.true))

pub loop-i-preserved : goal.loop-i-preserved
loop-i-preserved g c =
    let entry = c.index-entries-i.result in
    let is = name-there c.args.entries.now c.loop-i.i entry entry (omega (arith, c.loop-i-test.true)) c.index-entries-i.is in
    absent_more c.args.name.now (entry_names c.args.entries.now) c.loop-i.i entry.name is
    (λ e. true≢false (sym (same_name entry.name c.args.name.now e) ∙ sym c.is_named.ensures ∙ c.if-is_named.false)) c.loop-i.invariant

pub returns-clause-absent : goal.returns-clause-absent
returns-clause-absent g c =
    absent_whole c.args.name.now (entry_names c.args.entries.now) c.loop-i.i (omega (arith, length-names c.args.entries.now, c.loop-i-test.false))
    c.loop-i.invariant
