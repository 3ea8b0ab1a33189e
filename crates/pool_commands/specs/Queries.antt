-- The reply to a query, and what it may count.
use Rattle.std.specs.Prelude.{ℕ, List, [], length, map, slice_get, Result, Ok, Err, ◌≡◌, ◌<◌, All}
use Rattle.std.specs.Option.{option_map_or}
use Rattle.ad_tree.specs.Inline.{Inline, ad_of}
use Rattle.ad_parser.specs.declared.fault.ParseFault.{ParseFault}
use Rattle.ad_candidates.specs.Counts.{least_left}
use Rattle.bilateral_match.specs.Answers.{answers, hit_of}
use Rattle.bilateral_match.specs.Counts.{undecided_count}
use Rattle.bilateral_match.specs.declared.hit.Match.{Match}
use Rattle.conjunct_plan.specs.Tests.{tests_of}
use Rattle.ad_store.specs.Stock.{Advert}
use Rattle.pool_replies.specs.declared.reply.Reply.{Reply}
use Rattle.pool_replies.specs.declared.rows.HitRow.{HitRow}
use Rattle.bilateral_match.specs.declared.hit.Hit.{Hit}
use Rattle.pool_replies.specs.declared.refusal.Refusal.TheVariants as why
use Rattle.pool_replies.specs.declared.reply.Reply.TheVariants as reply

-- the row of a match
abbrev pub hit_row : List Advert → Match → HitRow
hit_row ads m = record { name = option_map_or (λ advert. advert.name) (slice_get ads m.place) []; rank = m.rank }

-- `query` and a block, by what its text is
abbrev pub query : ℕ → List Advert → Result Inline ParseFault → Reply
query moment ads (Err fault) = reply.Refused (why.AdText fault)
query moment ads (Ok x) = reply.Hits (map (hit_row ads) (answers moment (ad_of x) ads))

-- how many docks a query meets that literal attributes leave undecided
abbrev pub undecided_docks : List Advert → Result Inline ParseFault → ℕ
undecided_docks ads (Err fault) = 0
undecided_docks ads (Ok x) = undecided_count (ad_of x) ads

-- how many ads the narrowest test of a query leaves
abbrev pub narrowest : List Advert → Result Inline ParseFault → ℕ
narrowest ads (Err fault) = 0
narrowest ads (Ok x) = least_left ads (tests_of (ad_of x) 0 [])

-- these hits are those of matches with ads beside these slots
abbrev pub AreHits : List ℕ → List Match → List Hit → Type 0
AreHits slots matches hits = All (λ m. m.place < length slots) matches × (hits ≡ map (hit_of slots) matches)
