-- What a parse answers, as a gang in a state.
use Rattle.std.proofs.Common.{◌≡◌, ℕ, true, List, Option, None, Some, Result, Ok, Err, sym, ◌∙◌, ap, inl, inr}
use Rattle.std.specs.Option.{option_map_or}
use Rattle.ad_tree.specs.declared.ad.Ad.{Ad}
use Rattle.ad_tree.specs.declared.request.Port.{Port}
use Rattle.ad_tree.specs.Ad.{ad_frames}
use Rattle.ad_tree.specs.Frames.{Frame}
use Rattle.ad_tree.specs.Inline.{Inline}
use Rattle.ad_parser.specs.declared.fault.ParseFault.{ParseFault}
use Rattle.ad_parser.specs.Outcomes.{IsAdAnswer}
use Rattle.ad_store.specs.Stock.{Advert}
use Rattle.claim_table.specs.Priorities.{Setting}
use Rattle.gang_ports.specs.Gangs.{looks_most}
use Rattle.gang_ports.specs.Ports.{ports_of}
use Rattle.pool_replies.specs.Refusals.{is_fault_of_text}
use Rattle.pool_replies.specs.declared.refusal.Refusal.TheVariants.{AdText, BadPorts}
use Rattle.pool_replies.specs.declared.reply.Reply.{Reply}
use Rattle.pool_replies.specs.declared.reply.Reply.TheVariants.{Refused}
use Rattle.pool_books.specs.Negotiation.{pool_in}
use Rattle.pool_books.specs.State.{QueuedJob}
use Rattle.pool_commands.specs.Gangs.{gang, gang_names, line, narrowest_for_gang, open_docks_of, undecided_for_gang}
use Rattle.pool_commands.proofs.StepLemmas.{no_fault}

module _ (moment : ℕ) (ads : List Advert) (settings : List Setting) (jobs : List QueuedJob) where
  -- a text that has a fault
  pub gang-faulty : (outcome : Result Inline ParseFault) (fault : ParseFault) → IsAdAnswer outcome (Err fault) → is_fault_of_text fault ≡ true
      → gang moment ads settings jobs outcome ≡ Refused (AdText fault)
  gang-faulty (Ok x) fault fits told = absurd (no_fault fault told fits)
  gang-faulty (Err wrong) fault (inl same) told = ap (λ (f : ParseFault). Refused (AdText f)) (sym same)
  gang-faulty (Err wrong) fault (inr none) told = absurd (no_fault fault told none)

  -- by the ports that are listed
  abbrev gang_by : List Frame → Option (List Port) → Reply
  gang_by frames listed = option_map_or (λ ports. line (gang_names moment ads settings jobs frames ports)) listed (Refused BadPorts)

  abbrev undecided_by : List Frame → Option (List Port) → ℕ
  undecided_by frames listed = option_map_or (λ ports. open_docks_of (pool_in moment ads settings jobs) frames ports) listed 0

  abbrev narrowest_by : List Frame → Option (List Port) → ℕ
  narrowest_by frames listed = option_map_or (λ ports. looks_most ads frames ports) listed 0

  gang-read : (outcome : Result Inline ParseFault) (ad : Ad) → IsAdAnswer outcome (Ok ad)
      → gang moment ads settings jobs outcome ≡ gang_by (ad_frames ad) (ports_of (ad_frames ad))
  gang-read (Ok x) ad fits = ap (λ (frames : List Frame). gang_by frames (ports_of frames)) (sym fits)
  gang-read (Err wrong) ad fits = absurd fits

  undecided-read : (outcome : Result Inline ParseFault) (ad : Ad) → IsAdAnswer outcome (Ok ad)
      → undecided_for_gang moment ads settings jobs outcome ≡ undecided_by (ad_frames ad) (ports_of (ad_frames ad))
  undecided-read (Ok x) ad fits = ap (λ (frames : List Frame). undecided_by frames (ports_of frames)) (sym fits)
  undecided-read (Err wrong) ad fits = absurd fits

  narrowest-read : (outcome : Result Inline ParseFault) (ad : Ad) → IsAdAnswer outcome (Ok ad)
      → narrowest_for_gang ads outcome ≡ narrowest_by (ad_frames ad) (ports_of (ad_frames ad))
  narrowest-read (Ok x) ad fits = ap (λ (frames : List Frame). narrowest_by frames (ports_of frames)) (sym fits)
  narrowest-read (Err wrong) ad fits = absurd fits

  module _ (outcome : Result Inline ParseFault) (ad : Ad) (fits : IsAdAnswer outcome (Ok ad)) where
    pub gang-bad : ports_of (ad_frames ad) ≡ None → gang moment ads settings jobs outcome ≡ Refused BadPorts
    gang-bad none = gang-read outcome ad fits ∙ ap (gang_by (ad_frames ad)) none

    module _ (ports : List Port) (listed : ports_of (ad_frames ad) ≡ Some ports) where
      pub gang-parsed : (names : Option (List (List ℕ))) (told : Reply) → names ≡ gang_names moment ads settings jobs (ad_frames ad) ports → told ≡ line names
          → gang moment ads settings jobs outcome ≡ told
      gang-parsed names told are is = gang-read outcome ad fits ∙ ap (gang_by (ad_frames ad)) listed ∙ sym (is ∙ ap line are)

      pub gang-undecided : undecided_for_gang moment ads settings jobs outcome ≡ open_docks_of (pool_in moment ads settings jobs) (ad_frames ad) ports
      gang-undecided = undecided-read outcome ad fits ∙ ap (undecided_by (ad_frames ad)) listed

      pub gang-narrowest : narrowest_for_gang ads outcome ≡ looks_most ads (ad_frames ad) ports
      gang-narrowest = narrowest-read outcome ad fits ∙ ap (narrowest_by (ad_frames ad)) listed
