-- What a parse answers, as a step of the pool.
use Rattle.std.proofs.Common.{◌≡◌, ℕ, true, false, not, List, [], map, Option, None, Some, Result, Ok, Err, bytes_eq, refl, sym, ◌∙◌, ap, inl, inr}
use Rattle.std.specs.Option.{option_map_or}
use Rattle.ad_tree.specs.declared.ad.Ad.{Ad}
use Rattle.ad_tree.specs.declared.phrase.Phrase.{Phrase}
use Rattle.ad_tree.specs.Ad.{ad_frames}
use Rattle.ad_tree.specs.Frames.{Frame}
use Rattle.ad_tree.specs.Inline.{Inline}
use Rattle.ad_tree.specs.Tree.{Tree, tree}
use Rattle.ad_parser.specs.declared.fault.ParseFault.{ParseFault}
use Rattle.ad_parser.specs.declared.fault.ParseFault.TheVariants.{OutOfMemory}
use Rattle.ad_parser.specs.Outcomes.{IsAdAnswer, IsExprAnswer}
use Rattle.pool_replies.specs.Refusals.{is_fault_of_text}
use Rattle.pool_replies.specs.declared.refusal.Refusal.TheVariants.{AdText, Full, UnknownName}
use Rattle.pool_replies.specs.declared.reply.Reply.{Reply}
use Rattle.pool_replies.specs.declared.reply.Reply.TheVariants.{Advertised, Evaluated, Hits, Refused, Replaced, Shown, Withdrawn}
use Rattle.pool_replies.specs.declared.rows.HitRow.{HitRow}
use Rattle.ad_printer.specs.Values.{printed_frame}
use Rattle.ad_store.specs.Stock.{Advert, has, lack, placed, without}
use Rattle.ad_store.specs.declared.answers.PutFault.{PutFault}
use Rattle.ad_store.proofs.HeldLemmas.{without-absent}
use Rattle.ad_candidates.specs.Counts.{least_left}
use Rattle.bilateral_match.specs.Answers.{answers}
use Rattle.bilateral_match.specs.Counts.{undecided_count}
use Rattle.conjunct_plan.specs.Tests.{tests_of}
use Rattle.pool_books.specs.Queue.{without_resources}
use Rattle.pool_books.specs.State.{QueuedJob, State, refused}
use Rattle.pool_books.proofs.StepLemmas.{not_false, not_true}
use Rattle.pool_commands.specs.Ads.{ad_named, advertise, put_ad, room_of, show, withdraw}
use Rattle.pool_commands.specs.Expressions.{eval, eval_beside, eval_in, value_line}
use Rattle.pool_commands.specs.Queries.{hit_row, narrowest, query, undecided_docks}

pub no_fault : (fault : ParseFault) → is_fault_of_text fault ≡ true → fault ≡ OutOfMemory → ⊥
no_fault fault told none = let no : false ≡ true = sym (ap is_fault_of_text none) ∙ told in absurd (cc)

-- ---- expressions

-- an expression that was parsed
pub eval-parsed : (moment : ℕ) (outcome : Result Inline ParseFault) (phrase : Phrase) (text : List ℕ) → IsExprAnswer outcome (Ok phrase)
    → text ≡ value_line moment (ad_frames phrase.ad) (tree phrase.expr) None → eval moment outcome ≡ Evaluated text
eval-parsed moment (Ok x) phrase text fits printed = λ i. Evaluated ((sym (printed ∙ (λ j. value_line moment (fits.0 j) (fits.1 j) None))) i)
eval-parsed moment (Err wrong) phrase text fits printed = absurd fits

pub eval_in-parsed : (moment : ℕ) (ads : List Advert) (name : List ℕ) (outcome : Result Inline ParseFault) (phrase : Phrase) → IsExprAnswer outcome (Ok phrase)
    → eval_in moment ads name outcome ≡ eval_beside moment (ad_frames phrase.ad) (tree phrase.expr) (ad_named name ads)
eval_in-parsed moment ads name (Ok x) phrase fits = λ i. eval_beside moment ((sym fits.0) i) ((sym fits.1) i) (ad_named name ads)
eval_in-parsed moment ads name (Err wrong) phrase fits = absurd fits

-- an expression that has a fault
pub eval-faulty : (moment : ℕ) (outcome : Result Inline ParseFault) (fault : ParseFault) → IsExprAnswer outcome (Err fault) → is_fault_of_text fault ≡ true
    → eval moment outcome ≡ Refused (AdText fault)
eval-faulty moment (Ok x) fault fits told = absurd (no_fault fault told fits)
eval-faulty moment (Err wrong) fault (inl same) told = ap (λ (f : ParseFault). Refused (AdText f)) (sym same)
eval-faulty moment (Err wrong) fault (inr none) told = absurd (no_fault fault told none)

pub eval_in-faulty : (moment : ℕ) (ads : List Advert) (name : List ℕ) (outcome : Result Inline ParseFault) (fault : ParseFault)
    → IsExprAnswer outcome (Err fault) → is_fault_of_text fault ≡ true → eval_in moment ads name outcome ≡ Refused (AdText fault)
eval_in-faulty moment ads name (Ok x) fault fits told = absurd (no_fault fault told fits)
eval_in-faulty moment ads name (Err wrong) fault (inl same) told = ap (λ (f : ParseFault). Refused (AdText f)) (sym same)
eval_in-faulty moment ads name (Err wrong) fault (inr none) told = absurd (no_fault fault told none)

-- an expression beside an ad that is held, and beside none
pub beside-found : (moment : ℕ) (frames : List Frame) (t : Tree) (found : Option Advert) (advert : Advert) (other : List Frame) (text : List ℕ)
    → found ≡ Some advert → advert.ad ≡ other → text ≡ value_line moment frames t (Some other) → eval_beside moment frames t found ≡ Evaluated text
beside-found moment frames t found advert other text is same printed =
    ap (eval_beside moment frames t) is ∙ ap Evaluated (ap (λ (fs : List Frame). value_line moment frames t (Some fs)) same ∙ sym printed)

pub beside-unknown : (moment : ℕ) (frames : List Frame) (t : Tree) (found : Option Advert) → found ≡ None
    → eval_beside moment frames t found ≡ Refused UnknownName
beside-unknown moment frames t found none = ap (eval_beside moment frames t) none

-- ---- ads

-- a state with other ads and jobs
abbrev pub with_books : State → List Advert → List QueuedJob → State
with_books s ads jobs = record { moment = s.moment; ads = ads; jobs = jobs; priorities = s.priorities }

-- an ad that was parsed
pub advertise-parsed : (s : State) (name : List ℕ) (lifetime size : ℕ) (outcome : Result Inline ParseFault) (ad : Ad) → IsAdAnswer outcome (Ok ad)
    → ◌≡◌ {A = State × Reply} (advertise s name lifetime size outcome)
    (put_ad s (record { name = name; born = s.moment; lifetime = lifetime; size = size; ad = ad_frames ad }) (lack name size s.ads))
advertise-parsed s name lifetime size (Ok x) ad fits =
    ap (λ (frames : List Frame). put_ad s (record { name = name; born = s.moment; lifetime = lifetime; size = size; ad = frames }) (lack name size s.ads))
    (sym fits)
advertise-parsed s name lifetime size (Err wrong) ad fits = absurd fits

-- an ad that has a fault
pub advertise-faulty : (s : State) (name : List ℕ) (lifetime size : ℕ) (outcome : Result Inline ParseFault) (fault : ParseFault)
    → IsAdAnswer outcome (Err fault) → is_fault_of_text fault ≡ true
    → ◌≡◌ {A = State × Reply} (advertise s name lifetime size outcome) (refused s (AdText fault))
advertise-faulty s name lifetime size (Ok x) fault fits told = absurd (no_fault fault told fits)
advertise-faulty s name lifetime size (Err wrong) fault (inl same) told = ap (λ (f : ParseFault). refused s (AdText f)) (sym same)
advertise-faulty s name lifetime size (Err wrong) fault (inr none) told = absurd (no_fault fault told none)

-- the ad that a parse gave, under a name
abbrev pub new_ad : State → List ℕ → ℕ → ℕ → Ad → Advert
new_ad s name lifetime size ad = record { name = name; born = s.moment; lifetime = lifetime; size = size; ad = ad_frames ad }

parsed_as : (s : State) (name used : List ℕ) (lifetime size : ℕ) (outcome : Result Inline ParseFault) (ad : Ad) → IsAdAnswer outcome (Ok ad) → used ≡ name
    → ◌≡◌ {A = State × Reply} (advertise s name lifetime size outcome) (put_ad s (new_ad s used lifetime size ad) (lack used size s.ads))
parsed_as s name used lifetime size outcome ad fits is =
    advertise-parsed s name lifetime size outcome ad fits ∙ ap (λ (n : List ℕ). put_ad s (new_ad s n lifetime size ad) (lack n size s.ads)) (sym is)

put_new : (s : State) (advert : Advert) (lacking : Option PutFault) → lacking ≡ None → has advert.name s.ads ≡ false
    → ◌≡◌ {A = State × Reply} (put_ad s advert lacking) (with_books s (placed advert s.ads) s.jobs, Advertised advert.name)
put_new s advert lacking room fresh = rw (room, fresh) refl

put_again : (s : State) (advert : Advert) (lacking : Option PutFault) → lacking ≡ None → has advert.name s.ads ≡ true
    → ◌≡◌ {A = State × Reply} (put_ad s advert lacking) (with_books s (placed advert s.ads) s.jobs, Replaced advert.name)
put_again s advert lacking room held = rw (room, held) refl

put_none : (s : State) (advert : Advert) (lacking : Option PutFault) (fault : PutFault) → lacking ≡ Some fault
    → ◌≡◌ {A = State × Reply} (put_ad s advert lacking) (s, Refused (Full (room_of fault)))
put_none s advert lacking fault room = rw room refl

module _ (s : State) (name used : List ℕ) (lifetime size : ℕ) (outcome : Result Inline ParseFault) (ad : Ad) (after : List Advert) (queue : List QueuedJob)
    (fits : IsAdAnswer outcome (Ok ad)) (is : used ≡ name) (jobs : queue ≡ s.jobs) where
  -- an ad of a new name
  pub advertise-added : (told : List ℕ) → told ≡ name → lack used size s.ads ≡ None → after ≡ placed (new_ad s used lifetime size ad) s.ads
      → true ≡ not (has used s.ads) → ◌≡◌ {A = State × Reply} (advertise s name lifetime size outcome) (with_books s after queue, Advertised told)
  advertise-added told same room ads added =
      let stored : ◌≡◌ {A = State × Reply} (with_books s (placed (new_ad s used lifetime size ad) s.ads) s.jobs, Advertised used)
      (with_books s after queue, Advertised told) = λ i. (with_books s (sym ads i) (sym jobs i), Advertised ((is ∙ sym same) i)) in
      parsed_as s name used lifetime size outcome ad fits is
      ∙ put_new s (new_ad s used lifetime size ad) (lack used size s.ads) room (not_true (has used s.ads) added) ∙ stored

  -- an ad of a name that is held
  pub advertise-replaced : (told : List ℕ) → told ≡ name → lack used size s.ads ≡ None → after ≡ placed (new_ad s used lifetime size ad) s.ads
      → false ≡ not (has used s.ads) → ◌≡◌ {A = State × Reply} (advertise s name lifetime size outcome) (with_books s after queue, Replaced told)
  advertise-replaced told same room ads added =
      let stored : ◌≡◌ {A = State × Reply} (with_books s (placed (new_ad s used lifetime size ad) s.ads) s.jobs, Replaced used)
      (with_books s after queue, Replaced told) = λ i. (with_books s (sym ads i) (sym jobs i), Replaced ((is ∙ sym same) i)) in
      parsed_as s name used lifetime size outcome ad fits is
      ∙ put_again s (new_ad s used lifetime size ad) (lack used size s.ads) room (not_false (has used s.ads) added) ∙ stored

  -- an ad for which there is no room
  pub advertise-full : (fault : PutFault) → lack used size s.ads ≡ Some fault → after ≡ s.ads
      → ◌≡◌ {A = State × Reply} (advertise s name lifetime size outcome) (with_books s after queue, Refused (Full (room_of fault)))
  advertise-full fault room ads =
      let stored : ◌≡◌ {A = State × Reply} (s, Refused (Full (room_of fault))) (with_books s after queue, Refused (Full (room_of fault))) =
      λ i. (with_books s (sym ads i) (sym jobs i), Refused (Full (room_of fault))) in
      parsed_as s name used lifetime size outcome ad fits is ∙ put_none s (new_ad s used lifetime size ad) (lack used size s.ads) fault room ∙ stored

-- an ad that leaves
pub withdraw-held : (s : State) (name told : List ℕ) (after : List Advert) (queue : List QueuedJob) → has name s.ads ≡ true → after ≡ without name s.ads
    → queue ≡ without_resources (bytes_eq name) s.jobs → told ≡ name → ◌≡◌ {A = State × Reply} (withdraw s name) (with_books s after queue, Withdrawn told)
withdraw-held s name told after queue held ads jobs is =
    let left : ◌≡◌ {A = State × Reply} (withdraw s name) (with_books s (without name s.ads) (without_resources (bytes_eq name) s.jobs), Withdrawn name) =
    rw held refl in
    left ∙ (λ i. (with_books s (sym ads i) (sym jobs i), Withdrawn ((sym is) i)))

pub withdraw-unknown : (s : State) (name : List ℕ) (after : List Advert) (queue : List QueuedJob) → has name s.ads ≡ false → after ≡ without name s.ads
    → queue ≡ s.jobs → ◌≡◌ {A = State × Reply} (withdraw s name) (with_books s after queue, Refused UnknownName)
withdraw-unknown s name after queue none ads jobs =
    let stays : ◌≡◌ {A = State × Reply} (withdraw s name) (s, Refused UnknownName) = rw none refl in
    stays ∙ (λ i. (with_books s ((sym (ads ∙ without-absent name s.ads none)) i) (sym jobs i), Refused UnknownName))

-- an ad that is shown
pub show-found : (name : List ℕ) (ads : List Advert) (advert : Advert) (frames : List Frame) (text : List ℕ) → ad_named name ads ≡ Some advert
    → advert.ad ≡ frames → text ≡ printed_frame frames 0 → show name ads ≡ Shown text
show-found name ads advert frames text found is printed =
    ap (λ o. option_map_or (λ (a : Advert). Shown (printed_frame a.ad 0)) o (Refused UnknownName)) found
    ∙ ap Shown (ap (λ (fs : List Frame). printed_frame fs 0) is ∙ sym printed)

pub show-unknown : (name : List ℕ) (ads : List Advert) → ad_named name ads ≡ None → show name ads ≡ Refused UnknownName
show-unknown name ads none = ap (λ o. option_map_or (λ (a : Advert). Shown (printed_frame a.ad 0)) o (Refused UnknownName)) none

-- ---- queries

-- an ad that was parsed, and one that has a fault
pub query-parsed : (moment : ℕ) (ads : List Advert) (outcome : Result Inline ParseFault) (ad : Ad) (rows : List HitRow) → IsAdAnswer outcome (Ok ad)
    → rows ≡ map (hit_row ads) (answers moment (ad_frames ad) ads) → query moment ads outcome ≡ Hits rows
query-parsed moment ads (Ok x) ad rows fits is =
    ap (λ (frames : List Frame). Hits (map (hit_row ads) (answers moment frames ads))) (sym fits) ∙ ap Hits (sym is)
query-parsed moment ads (Err wrong) ad rows fits is = absurd fits

pub query-faulty : (moment : ℕ) (ads : List Advert) (outcome : Result Inline ParseFault) (fault : ParseFault) → IsAdAnswer outcome (Err fault)
    → is_fault_of_text fault ≡ true → query moment ads outcome ≡ Refused (AdText fault)
query-faulty moment ads (Ok x) fault fits told = absurd (no_fault fault told fits)
query-faulty moment ads (Err wrong) fault (inl same) told = ap (λ (f : ParseFault). Refused (AdText f)) (sym same)
query-faulty moment ads (Err wrong) fault (inr none) told = absurd (no_fault fault told none)

-- what a query may count
pub undecided-parsed : (ads : List Advert) (outcome : Result Inline ParseFault) (ad : Ad) → IsAdAnswer outcome (Ok ad)
    → undecided_docks ads outcome ≡ undecided_count (ad_frames ad) ads
undecided-parsed ads (Ok x) ad fits = ap (λ (frames : List Frame). undecided_count frames ads) (sym fits)
undecided-parsed ads (Err wrong) ad fits = absurd fits

pub narrowest-parsed : (ads : List Advert) (outcome : Result Inline ParseFault) (ad : Ad) → IsAdAnswer outcome (Ok ad)
    → narrowest ads outcome ≡ least_left ads (tests_of (ad_frames ad) 0 [])
narrowest-parsed ads (Ok x) ad fits = ap (λ (frames : List Frame). least_left ads (tests_of frames 0 [])) (sym fits)
narrowest-parsed ads (Err wrong) ad fits = absurd fits
