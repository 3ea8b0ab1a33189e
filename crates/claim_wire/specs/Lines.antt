-- The event that a line of a schedule names.
use Rattle.std.specs.Prelude.{ℕ, ◌||◌, ◌&&◌, ◌==◌, nat_le, List, slice_index, Option, None, Some, option_map, option_and_then, Result, Ok, Err}
use Rattle.std.specs.Prelude.{codes, if◌then◌else◌}
use Rattle.std.specs.Str.{bytes_eq}
use Rattle.pool_text.specs.Number.{number_of}
use Rattle.pool_text.specs.Words.{is_empty, past_blanks, word_of, words_behind}
use Rattle.claim_wire.specs.declared.event.Event.{Event}
use Rattle.claim_wire.specs.declared.event.Event.TheVariants as events
use Rattle.claim_wire.specs.declared.fault.LineFault.{LineFault}
use Rattle.claim_wire.specs.declared.fault.LineFault.TheVariants as faults
use Rattle.claim_wire.specs.declared.line.Verb.{Verb}
use Rattle.claim_wire.specs.declared.line.Verb.TheVariants as verbs

-- what the first word of a line spells exactly
abbrev pub verb_of : List ℕ → Option Verb
verb_of word =
    if bytes_eq word (codes "ask") then Some verbs.Ask
    else (if bytes_eq word (codes "again") then Some verbs.Again
    else (if bytes_eq word (codes "leave") then Some verbs.Leave
    else (if bytes_eq word (codes "deliver") then Some verbs.Deliver
    else (if bytes_eq word (codes "restart") then Some verbs.Restart
    else (if bytes_eq word (codes "show") then Some verbs.Show
    else None)))))

-- a number as an id, from 1 to the most
abbrev pub id_within : ℕ → ℕ → Option ℕ
id_within most n = if nat_le 1 n && nat_le n most then Some n else None

-- the id that a word writes, from 1 to the most
abbrev pub id_of : ℕ → List ℕ → Option ℕ
id_of most word = option_and_then (id_within most) (number_of word)

-- the id that the only word writes
abbrev pub sole_id : ℕ → List ℕ → Option ℕ
sole_id most words = if is_empty (words_behind words) then id_of most (word_of words) else None

-- the number that the only word writes
abbrev pub sole_number : List ℕ → Option ℕ
sole_number words = if is_empty (words_behind words) then number_of (word_of words) else None

-- `C R`
abbrev pub asked : ℕ → ℕ → List ℕ → Option Event
asked resources customers words = option_and_then (λ c. option_map (events.Ask c) (sole_id resources (words_behind words))) (id_of customers (word_of words))

-- `customer C` or `resource R`
abbrev pub restarted : ℕ → ℕ → List ℕ → Option Event
restarted resources customers words =
    if bytes_eq (word_of words) (codes "customer") then option_map events.RestartCustomer (sole_id customers (words_behind words))
    else (if bytes_eq (word_of words) (codes "resource") then option_map events.RestartResource (sole_id resources (words_behind words))
    else None)

-- no word
abbrev pub shown : List ℕ → Option Event
shown words = if is_empty words then Some events.Show else None

-- the event of a verb and the words behind it
abbrev pub event_by : ℕ → ℕ → Verb → List ℕ → Option Event
event_by resources customers verbs.Ask words = asked resources customers words
event_by resources customers verbs.Again words = option_map events.Again (sole_id customers words)
event_by resources customers verbs.Leave words = option_map events.Leave (sole_id customers words)
event_by resources customers verbs.Deliver words = option_map events.Deliver (sole_number words)
event_by resources customers verbs.Restart words = restarted resources customers words
event_by resources customers verbs.Show words = shown words

-- an event, or words that are wrong
abbrev pub read : Option Event → Result (Option Event) LineFault
read None = Err faults.Words
read (Some event) = Ok (Some event)

-- the event of a verb and the words behind it; a word that is no verb is unknown
abbrev pub read_verb : ℕ → ℕ → Option Verb → List ℕ → Result (Option Event) LineFault
read_verb resources customers None words = Err faults.Unknown
read_verb resources customers (Some verb) words = read (event_by resources customers verb words)

-- a text from its first word on: no event where it is empty or a comment
abbrev pub event_in : ℕ → ℕ → List ℕ → Result (Option Event) LineFault
event_in resources customers text =
    if is_empty text || slice_index text 0 == 35 then Ok None else read_verb resources customers (verb_of (word_of text)) (words_behind text)

-- the event that a line names, none where it is blank or a comment, or what is wrong with it
abbrev pub event_of : ℕ → ℕ → List ℕ → Result (Option Event) LineFault
event_of resources customers line = event_in resources customers (past_blanks line)
