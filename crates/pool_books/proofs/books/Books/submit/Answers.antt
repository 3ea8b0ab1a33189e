use Rattle.std.proofs.Common.{All, [], ◌∷◌, ◌++◌}
use Rattle.std.proofs.lemmas.List.Elements.{All-push}
use Rattle.claim_table.specs.declared.job.Job.{Job}
use Rattle.claim_table.specs.declared.job.Stage.{Stage}
use Rattle.claim_table.specs.Table.{jobs_of}
use Rattle.pool_books.specs.Ports.{HasOwnPorts}
use Rattle.pool_books.proofs.JobLemmas.{either-way}
use Rattle.pool_books.proofs.QueueLemmas.{RequestIs}
use Rattle.pool_books.proofs.SmallLemmas.{IsSmallRequest}
use Rattle.pool_books.proofs.books.Books.submit.Goals as goal

pub invariant_of-self-clause-owned : goal.invariant_of-self-clause-owned
invariant_of-self-clause-owned c =
    let books = c.args.self.now in
    let jobs = jobs_of books.claims in
    let job : Job = record { name = c.args.name.now; user = c.args.user.now; text_len = c.args.text_len; request = c.args.request; standing = Stage.Idle } in
    either-way (All (RequestIs HasOwnPorts)) c.submit.result jobs (jobs ++ job ∷ []) (jobs_of c.submit.new.self) c.submit.ensures.ok c.submit.ensures.err
    (All-push (RequestIs HasOwnPorts) jobs job books.owned c.requires.own) books.owned

pub invariant_of-self-clause-small : goal.invariant_of-self-clause-small
invariant_of-self-clause-small c =
    let books = c.args.self.now in
    let jobs = jobs_of books.claims in
    let job : Job = record { name = c.args.name.now; user = c.args.user.now; text_len = c.args.text_len; request = c.args.request; standing = Stage.Idle } in
    either-way (All (RequestIs IsSmallRequest)) c.submit.result jobs (jobs ++ job ∷ []) (jobs_of c.submit.new.self) c.submit.ensures.ok c.submit.ensures.err
    (All-push (RequestIs IsSmallRequest) jobs job books.small c.requires.small) books.small
