use Rattle.std.proofs.Common.{◌≡◌, List, ℕ, Some, option_map, slice_get, ◌∙◌, ap}
use Rattle.ad_store.specs.Store.{stock_of}
use Rattle.claim_table.specs.Table.{jobs_of}
use Rattle.pool_books.specs.Books.{queue_of}
use Rattle.pool_books.specs.ClaimAnswers.{names_given}
use Rattle.pool_books.proofs.HitLemmas.{if_ok}
use Rattle.pool_state.specs.Notices.{about, about_job}
use Rattle.pool_state.proofs.LossLemmas.{about-at}
use Rattle.pool_state.proofs.losses.about_job.Goals as goal

pub returns : goal.returns
returns c =
    let books = c.args.books.now in
    let word = c.args.word.now in
    let given = c.in_ok-names.ensures ∙ ap (λ (n : List ℕ). names_given n (queue_of books)) c.bytes.ensures in
    if_ok c.about.result (λ notice. notice ≡ about word c.user.result.now c.job-job.result.now c.in_ok-names.names)
    (λ notice. option_map (about_job word) (slice_get (queue_of books) c.args.place) ≡ Some notice)
    (λ notice is. about-at (stock_of books.ads.store) (jobs_of books.claims) c.names_are_apart.ensures c.args.place c.job-job.result.now c.user.result.now
    c.in_ok-names.names c.job-job.ensures c.user.ensures given word notice is) c.about.ensures
