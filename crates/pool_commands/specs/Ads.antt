-- What the commands on ads make of the state, and their replies.
use Rattle.std.specs.Prelude.{ℕ, List, find, map, Option, None, Some, option_map, Result, Ok, Err, bytes_eq, if◌then◌else◌}
use Rattle.std.specs.Option.{option_map_or}
use Rattle.ad_tree.specs.Inline.{Inline, ad_of}
use Rattle.ad_parser.specs.declared.fault.ParseFault.{ParseFault}
use Rattle.ad_printer.specs.Values.{printed_frame}
use Rattle.ad_store.specs.Stock.{Advert, has, is_named, lack, placed, without}
use Rattle.ad_store.specs.declared.answers.PutFault.{PutFault}
use Rattle.pool_replies.specs.declared.refusal.Room.{Room}
use Rattle.pool_replies.specs.declared.reply.Reply.{Reply}
use Rattle.pool_replies.specs.declared.rows.AdRow.{AdRow}
use Rattle.ad_store.specs.declared.answers.PutFault.TheVariants as fault
use Rattle.pool_replies.specs.declared.refusal.Refusal.TheVariants as why
use Rattle.pool_replies.specs.declared.refusal.Room.TheVariants as room
use Rattle.pool_replies.specs.declared.reply.Reply.TheVariants as reply
use Rattle.pool_books.specs.Queue.{claimed_by, offered_to, without_resources}
use Rattle.pool_books.specs.State.{QueuedJob, State, refused}
use Rattle.pool_commands.specs.Status.{jobs}

-- what a store lacks room for
abbrev pub room_of : PutFault → Room
room_of fault.Full = room.Ads
room_of other = room.AdText

-- an ad is put, unless there is no room for it
abbrev pub put_ad : State → Advert → Option PutFault → State × Reply
put_ad s advert (Some lacking) = refused s (why.Full (room_of lacking))
put_ad s advert None = (record s { ads = placed advert s.ads }, if has advert.name s.ads then reply.Replaced advert.name else reply.Advertised advert.name)

-- `advertise NAME LIFETIME` and a block of so many bytes, by what its text is
abbrev pub advertise : State → List ℕ → ℕ → ℕ → Result Inline ParseFault → State × Reply
advertise s name lifetime size (Err fault) = refused s (why.AdText fault)
advertise s name lifetime size (Ok x) =
    put_ad s (record { name = name; born = s.moment; lifetime = lifetime; size = size; ad = ad_of x }) (lack name size s.ads)

-- `withdraw NAME`
abbrev pub withdraw : State → List ℕ → State × Reply
withdraw s name =
    if has name s.ads then (record s { ads = without name s.ads; jobs = without_resources (bytes_eq name) s.jobs }, reply.Withdrawn name)
    else refused s why.UnknownName

-- the ad of a name
abbrev pub ad_named : List ℕ → List Advert → Option Advert
ad_named name ads = find (is_named name) ads

-- `show NAME`: the ad is printed
abbrev pub show : List ℕ → List Advert → Reply
show name ads = option_map_or (λ advert. reply.Shown (printed_frame advert.ad 0)) (ad_named name ads) (reply.Refused why.UnknownName)

-- the row of an ad: who has claimed it, and to whom it is offered
abbrev pub ad_row : List QueuedJob → Advert → AdRow
ad_row jobs advert = record {
  name = advert.name;
  born = advert.born;
  lifetime = advert.lifetime;
  claimed = option_map (λ job. job.name) (claimed_by advert.name jobs);
  offered = option_map (λ job. job.name) (offered_to advert.name jobs);
}

-- `list`
abbrev pub list : List QueuedJob → List Advert → Reply
list jobs ads = reply.Ads (map (ad_row jobs) ads)
