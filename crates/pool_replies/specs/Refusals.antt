-- The lines of refusals.
use Rattle.std.specs.Prelude.{ℕ, Bool, true, false, ◌&&◌, ◌==◌, nat_le, List, [], ◌++◌, codes, decimal, if◌then◌else◌}
use Rattle.ad_lexer.specs.declared.fault.LexKind.{LexKind}
use Rattle.ad_lexer.specs.FaultNumbers.{kind_number}
use Rattle.ad_parser.specs.declared.fault.ParseFault.{ParseFault}
use Rattle.ad_parser.specs.declared.fault.ParseFault.TheVariants as fault
use Rattle.claim_table.specs.declared.answers.JobState.{JobState}
use Rattle.pool_replies.specs.declared.refusal.Refusal.{Refusal}
use Rattle.pool_replies.specs.declared.refusal.Refusal.TheVariants as refusal
use Rattle.pool_replies.specs.declared.refusal.Room.{Room}
use Rattle.pool_replies.specs.declared.refusal.Room.TheVariants as room

-- `refused 6 lexical K at B`
abbrev pub lexical_text : LexKind → ℕ → List ℕ
lexical_text kind place = codes "refused 6 lexical " ++ decimal (kind_number kind) ++ codes " at " ++ decimal place ++ codes "\n"

-- the line of a fault of a text; want of memory is none
abbrev pub fault_text : ParseFault → List ℕ
fault_text (fault.Lex kind place) = lexical_text kind place
fault_text fault.Nesting = codes "refused 6 nesting\n"
fault_text fault.Grammar = codes "refused 6 grammar\n"
fault_text fault.Depth = codes "refused 6 depth\n"
fault_text fault.Frames = codes "refused 6 frames\n"
fault_text fault.Attributes = codes "refused 6 attributes\n"
fault_text fault.OutOfMemory = []

-- the line of a command that isn't read, by the number from 1 to 5
unfoldable pub line_refusal : ℕ → List ℕ
line_refusal n =
    if n == 1 then codes "refused 1 line too long\n"
    else (if n == 2 then codes "refused 2 unknown command\n"
    else (if n == 3 then codes "refused 3 wrong words\n"
    else (if n == 4 then codes "refused 4 block not ended\n"
    else codes "refused 5 block too long\n")))

-- the line where there is no room
abbrev pub room_text : Room → List ℕ
room_text room.Ads = codes "refused 10 too many ads\n"
room_text room.AdText = codes "refused 10 too much ad text\n"
room_text room.Jobs = codes "refused 10 too many jobs\n"
room_text room.JobText = codes "refused 10 too much job text\n"
room_text room.Users = codes "refused 10 too many users\n"

-- the line of a job's state; that something is offered to it refuses no command
abbrev pub state_text : JobState → List ℕ
state_text JobState.Idle = codes "refused 11 job is idle\n"
state_text JobState.Matched = []
state_text JobState.Claimed = codes "refused 11 job is claimed\n"

-- the line of a refusal
unfoldable pub refusal_text : Refusal → List ℕ
refusal_text (refusal.Line n) = line_refusal n
refusal_text (refusal.AdText fault) = fault_text fault
refusal_text refusal.ClockBack = codes "refused 7 clock goes back\n"
refusal_text refusal.UnknownName = codes "refused 8 name not known\n"
refusal_text refusal.NameInUse = codes "refused 9 name in use\n"
refusal_text (refusal.Full room) = room_text room
refusal_text (refusal.WrongState state) = state_text state
refusal_text (refusal.Stale name) = codes "refused 12 stale " ++ name ++ codes "\n"
refusal_text refusal.BadPorts = codes "refused 13 bad ports\n"
refusal_text refusal.GangJob = codes "refused 15 job is a gang\n"

-- want of memory is no fault of a text
abbrev pub is_fault_of_text : ParseFault → Bool
is_fault_of_text fault.OutOfMemory = false
is_fault_of_text fault = true

-- a job is idle, or claimed
abbrev pub is_wrong_state : JobState → Bool
is_wrong_state JobState.Matched = false
is_wrong_state state = true

-- a refusal that has a line
unfoldable pub is_printable_refusal : Refusal → Bool
is_printable_refusal (refusal.Line n) = nat_le 1 n && nat_le n 5
is_printable_refusal (refusal.AdText fault) = is_fault_of_text fault
is_printable_refusal (refusal.WrongState state) = is_wrong_state state
is_printable_refusal other = true
