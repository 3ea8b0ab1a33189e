-- Gangs in a state: which resources the ports of a request are given.
use Rattle.std.specs.Prelude.{ℕ, min, List, map, Option, None, Some, option_map, Result, Ok, Err}
use Rattle.std.specs.Option.{option_map_or}
use Rattle.ad_tree.specs.Frames.{Frame}
use Rattle.ad_tree.specs.declared.request.Port.{Port}
use Rattle.ad_tree.specs.Inline.{Inline, ad_of}
use Rattle.ad_parser.specs.declared.fault.ParseFault.{ParseFault}
use Rattle.ad_store.specs.Stock.{Advert}
use Rattle.dock_match.specs.Pool.{Pool}
use Rattle.claim_table.specs.Priorities.{Setting}
use Rattle.gang_ports.specs.Gangs.{docks_open, docks_weighed, gang as gang_in, looks_most}
use Rattle.gang_ports.specs.Ports.{ports_of}
use Rattle.pool_replies.specs.declared.reply.Reply.{Reply}
use Rattle.pool_replies.specs.declared.refusal.Refusal.TheVariants as why
use Rattle.pool_replies.specs.declared.reply.Reply.TheVariants as reply
use Rattle.pool_books.specs.Negotiation.{name_at, pool_in}
use Rattle.pool_books.specs.State.{QueuedJob}

-- the reply that tells the names of a gang, where there is one
abbrev pub line : Option (List (List ℕ)) → Reply
line None = reply.NoGang
line (Some names) = reply.Gang names

-- the names of the resources that the ports of a request are given
abbrev pub gang_names : ℕ → List Advert → List Setting → List QueuedJob → List Frame → List Port → Option (List (List ℕ))
gang_names moment ads settings jobs request ports = option_map (map (name_at ads)) (gang_in (pool_in moment ads settings jobs) request ports)

-- `gang` and a block, by what its text is
abbrev pub gang : ℕ → List Advert → List Setting → List QueuedJob → Result Inline ParseFault → Reply
gang moment ads settings jobs (Err fault) = reply.Refused (why.AdText fault)
gang moment ads settings jobs (Ok x) =
    option_map_or (λ ports. line (gang_names moment ads settings jobs (ad_of x) ports)) (ports_of (ad_of x)) (reply.Refused why.BadPorts)

-- ---- what it may count

-- how many docks literal attributes leave undecided: those of each port behind each valid choice for the ports before it, or,
-- where that makes fewer in all, those of a port that no such choice bears on once alone
abbrev pub open_docks_of : Pool → List Frame → List Port → ℕ
open_docks_of pool request ports = min (docks_open pool request ports) (docks_weighed pool request ports)

-- how many docks literal attributes leave undecided for `gang` and a block, by what its text is: none where it is refused
abbrev pub undecided_for_gang : ℕ → List Advert → List Setting → List QueuedJob → Result Inline ParseFault → ℕ
undecided_for_gang moment ads settings jobs (Err fault) = 0
undecided_for_gang moment ads settings jobs (Ok x) =
    option_map_or (λ ports. open_docks_of (pool_in moment ads settings jobs) (ad_of x) ports) (ports_of (ad_of x)) 0

-- how many ads the narrowest tests of the ports leave, together
abbrev pub narrowest_for_gang : List Advert → Result Inline ParseFault → ℕ
narrowest_for_gang ads (Err fault) = 0
narrowest_for_gang ads (Ok x) = option_map_or (λ ports. looks_most ads (ad_of x) ports) (ports_of (ad_of x)) 0
