use Rattle.std.proofs.Common.{List, ℕ, slice_get, ap, ◌∙◌, arith}
use Rattle.std.proofs.lemmas.List.{length-map}
use Rattle.notice_desk.proofs.EntryLemmas.{name-there, names_of-rows}
use Rattle.notice_desk.specs.Sight.{row_of}
use Rattle.notice_desk.proofs.desk.DeskNotices.name.Goals as goal

pub returns : goal.returns
returns g c =
    let entry = c.index.result.now in
    ap (λ (ns : List (List ℕ)). slice_get ns c.args.i) (names_of-rows (λ b. (goal.Mailbox-dyn g (b.vtable, b.value)).taking b.value)
    c.args.self.now.entries.items)
    ∙ name-there c.args.self.now.entries.items c.args.i entry entry
    (omega (arith, c.requires, length-map c.args.self.now.entries.items (row_of (λ b. (goal.Mailbox-dyn g (b.vtable, b.value)).taking b.value))))
    c.index.ensures
