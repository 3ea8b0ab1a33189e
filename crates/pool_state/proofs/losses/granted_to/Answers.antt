use Rattle.std.proofs.Common.{◌≡◌, ◌++◌, ◌∷◌, [], ℕ, List, All, Contains, codes, map, Some, option_map, sym, ◌∙◌, ap, subst}
use Rattle.std.specs.Option.{option_map_or}
use Rattle.ad_store.specs.Store.{stock_of}
use Rattle.claim_table.specs.Table.{jobs_of}
use Rattle.pool_books.specs.Books.{queue_of, name_in}
use Rattle.pool_books.specs.Claiming.{job_named}
use Rattle.pool_books.proofs.ClaimLemmas.{given-held}
use Rattle.pool_state.specs.Notices.{about_job, granted_to, losses}
use Rattle.pool_state.specs.declared.posting.Notice.{Notice}
use Rattle.pool_state.proofs.LossLemmas.{given-names, granted-is, named-none, named-some}
use Rattle.pool_state.proofs.losses.granted_to.Goals as goal

pub returns-in_default : goal.returns-in_default
returns-in_default c =
    let books = c.args.books.now in
    c.new.ensures ∙ sym (ap (λ o. option_map_or (granted_to (queue_of books)) o [])
    (named-none (stock_of books.ads.store) (jobs_of books.claims) c.args.job.now (sym c.in_default.ensures.number)))

pub holders-requires : goal.holders-requires
holders-requires c =
    let books = c.args.books.now in
    let slots = (stock_of books.ads.store).slots in
    subst (λ (own : List ℕ). All (Contains slots) own) (sym c.slots.ensures) (given-held slots c.args.job.now (jobs_of books.claims) books.listed books.owned)

pub returns : goal.returns
returns c =
    let books = c.args.books.now in
    let stock = stock_of books.ads.store in
    let jobs = jobs_of books.claims in
    let queue = queue_of books in
    let job = c.args.job.now in
    let notice = c.in_ok-about_job.field-0 in
    let found = named-some stock jobs job c.in-Some.i (sym c.in-Some.ensures.number) in
    let told : option_map (about_job (codes "claimed ")) (job_named job queue) ≡ Some notice =
    ap (option_map (about_job (codes "claimed "))) found ∙ c.in_ok-about_job.ensures in
    c.in_ok-push.ensures.ok
    ∙ ap (λ (l : List Notice). l ++ notice ∷ []) (c.in_ok-list.ensures ∙ ap (losses queue) c.in_ok-places.ensures.places)
    ∙ granted-is queue (job_named job queue) (map (name_in stock) c.slots.result.now) notice
    (λ q is. given-names stock job jobs c.slots.result.now q c.slots.ensures is) told
