-- The text of a negotiation cycle.
use Rattle.std.specs.Prelude.{ℕ, suc, List, [], ◌∷◌, ◌++◌, codes, decimal, length, sum_by}
use Rattle.std.specs.List.{flat_map}
use Rattle.pool_replies.specs.declared.rows.OfferRow.{OfferRow}
use Rattle.pool_replies.specs.declared.rows.SpinRow.{SpinRow}
use Rattle.pool_replies.specs.declared.rows.TurnRow.{TurnRow}

-- names, each with a blank before it
abbrev pub with_blanks : List (List ℕ) → List ℕ
with_blanks names = flat_map (λ name. codes " " ++ name) names

-- `offer JOB USER` and the names of the resources
abbrev pub offer_line : List ℕ → OfferRow → List ℕ
offer_line user row = codes "offer " ++ row.job ++ codes " " ++ user ++ with_blanks row.names ++ codes "\n"

-- a line for each offer
abbrev pub offers_text : List ℕ → List OfferRow → List ℕ
offers_text user rows = flat_map (λ row. offer_line user row) rows

-- a user's slice and a line for each offer; nothing where there is no offer
abbrev pub turn_lines : List ℕ → ℕ → List OfferRow → List ℕ
turn_lines user slice [] = []
turn_lines user slice (row ∷ rows) = codes "slice " ++ user ++ codes " " ++ decimal slice ++ codes "\n" ++ offers_text user (row ∷ rows)

-- the lines of a turn
abbrev pub turn_text : TurnRow → List ℕ
turn_text turn = turn_lines turn.user turn.slice turn.offers

-- `spin I free N` and the turns
abbrev pub spin_text : ℕ → SpinRow → List ℕ
spin_text i spin = codes "spin " ++ decimal i ++ codes " free " ++ decimal spin.free ++ codes "\n" ++ flat_map turn_text spin.turns

-- the lines of spins, of which the first has the number i
abbrev pub spins_text : ℕ → List SpinRow → List ℕ
spins_text i [] = []
spins_text i (spin ∷ spins) = spin_text i spin ++ spins_text (suc i) spins

-- how many offers a turn made
abbrev pub offers_of_turn : TurnRow → ℕ
offers_of_turn turn = length turn.offers

-- how many offers the turns of a spin made
abbrev pub offers_of_spin : SpinRow → ℕ
offers_of_spin spin = sum_by offers_of_turn spin.turns

-- the spins, and `offers K`
abbrev pub cycle_text : List SpinRow → List ℕ
cycle_text spins = spins_text 1 spins ++ codes "offers " ++ decimal (sum_by offers_of_spin spins) ++ codes "\n"
