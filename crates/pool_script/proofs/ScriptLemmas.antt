-- A reader as a script.
use Rattle.std.proofs.Common.{◌≡◌, ℕ, Bool, true, false, List, [], ◌++◌, refl, sym, ◌∙◌, ap, subst}
use Rattle.std.proofs.lemmas.List.{append-nil}
use Rattle.pool_script.specs.Commands.{commands_of, ended_commands, whole_commands}
use Rattle.pool_script.specs.Reading.{HasRead, IsSound, commands_from, rest_kept}
use Rattle.pool_script.specs.Standing.{Kept, Stands}
use Rattle.pool_script.specs.declared.reader.Reader.{Reader}
use Rattle.pool_script.proofs.RestLemmas.{commands_from-rest, none_ended, rest_in}
use Rattle.pool_script.proofs.StandingLemmas.{Promises, fed_waiting, stands_ended, stands_fed}

-- a reader as callers see it
abbrev pub view_of : Reader → Bool → Kept
view_of reader over = record { waiting = reader.waiting.items; rest = rest_kept reader.block reader.line.items; over = over }

promises : (old new : Reader) (was is : Bool) (piece : List ℕ) → IsSound old → IsSound new → HasRead old piece new
    → Promises commands_of (view_of old was) piece (view_of new is)
promises old new was is piece of_old of_new read =
    λ over more. sym (commands_from-rest over new more of_new) ∙ read.commands over more ∙ commands_from-rest over old (piece ++ more) of_old

pub fed_stands : (old new : Reader) (over : Bool) (now : Kept) (piece : List ℕ) → view_of old over ≡ now → now.over ≡ false → IsSound old → IsSound new
    → HasRead old piece new → (bytes : List ℕ) (n : ℕ) → Stands now bytes n → Stands (view_of new over) (bytes ++ piece) n
fed_stands old new over now piece is is_open of_old of_new read =
    let P : Kept → Type 0 = λ k. k.over ≡ false → (bytes : List ℕ) (n : ℕ) → Stands k bytes n → Stands (view_of new over) (bytes ++ piece) n in
    subst P is (λ still bytes n. stands_fed commands_of (view_of old over) (view_of new over) piece bytes n still still
    (promises old new over over piece of_old of_new read) (none_ended new of_new)) is_open

pub fed_waits : (old new : Reader) (over : Bool) (now : Kept) (piece : List ℕ) → view_of old over ≡ now → IsSound old → IsSound new → HasRead old piece new
    → new.waiting.items ≡ now.waiting ++ ended_commands (now.rest ++ piece)
fed_waits old new over now piece is of_old of_new read =
    let P : Kept → Type 0 = λ k. new.waiting.items ≡ k.waiting ++ ended_commands (k.rest ++ piece) in
    subst P is (fed_waiting commands_of (view_of old over) (view_of new over) piece (promises old new over over piece of_old of_new read)
    (none_ended new of_new))

ended_waits_here : (old new : Reader) → IsSound old → new.waiting.items ≡ commands_from true old []
    → new.waiting.items ≡ old.waiting.items ++ whole_commands (rest_in old)
ended_waits_here old new of_old read =
    read ∙ commands_from-rest true old [] of_old ∙ ap (λ (bytes : List ℕ). old.waiting.items ++ whole_commands bytes) (append-nil (rest_in old))

pub ended_stands : (old new : Reader) (over : Bool) (now : Kept) → view_of old over ≡ now → now.over ≡ false → IsSound old
    → new.waiting.items ≡ commands_from true old [] → (bytes : List ℕ) (n : ℕ) → Stands now bytes n → Stands (view_of new true) bytes n
ended_stands old new over now is is_open of_old read =
    let P : Kept → Type 0 = λ k. k.over ≡ false → (bytes : List ℕ) (n : ℕ) → Stands k bytes n → Stands (view_of new true) bytes n in
    subst P is (λ still bytes n. stands_ended commands_of (view_of old over) (view_of new true) bytes n still refl (ended_waits_here old new of_old read))
    is_open

pub ended_waits : (old new : Reader) (over : Bool) (now : Kept) → view_of old over ≡ now → IsSound old → new.waiting.items ≡ commands_from true old []
    → new.waiting.items ≡ now.waiting ++ whole_commands now.rest
ended_waits old new over now is of_old read =
    let P : Kept → Type 0 = λ k. new.waiting.items ≡ k.waiting ++ whole_commands k.rest in
    subst P is (ended_waits_here old new of_old read)
