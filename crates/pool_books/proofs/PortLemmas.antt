-- The ports of a job, as its ad lists them.
use Rattle.std.proofs.Common.{◌≡◌, All, List, [], ◌∷◌, Option, None, Some, refl, sym, ◌∙◌, ap}
use Rattle.std.specs.Option.{option_map_or}
use Rattle.std.proofs.lemmas.List.Elements.{All-weaker}
use Rattle.ad_tree.specs.Ad.{ad_frames}
use Rattle.ad_tree.specs.Frames.{Frame}
use Rattle.ad_tree.specs.declared.request.Port.{Port}
use Rattle.claim_table.specs.declared.job.Job.{Job}
use Rattle.gang_ports.specs.Ports.{ports_of}
use Rattle.negotiator.specs.Markets.{AreOwn}
use Rattle.pool_books.specs.Ports.{ports_in}
use Rattle.pool_books.proofs.MatchedLemmas.{IsOwned}

-- the ports of a job are none, or those that its ad lists
own-ports : (frames : List Frame) (ports : List Port) → ports ≡ ports_in frames → AreOwn frames ports
own-ports frames ports own = by ports (ports_of frames) refl own
  where
    by : (list : List Port) (listed : Option (List Port)) → ports_of frames ≡ listed → list ≡ option_map_or (λ l. l) listed [] → AreOwn frames list
    by [] listed is same = tt
    by (port ∷ list) None is same = absurd (cc)
    by (port ∷ list) (Some others) is same = is ∙ ap (λ l. Some l) (sym same)

pub all-own : (jobs : List Job) → All IsOwned jobs → All (λ job. AreOwn (ad_frames job.request.ad) job.request.ports) jobs
all-own jobs owned =
    All-weaker IsOwned (λ (job : Job). AreOwn (ad_frames job.request.ad) job.request.ports)
    (λ job own. own-ports (ad_frames job.request.ad) job.request.ports own) jobs owned
